-- Which questions are reviews. Assumes nothing.
use mathlib.Core.Bool.{Bool, true, false}
use Rattle.model.specs.declared.Question.{Question}
use Rattle.model.specs.declared.Question.TheVariants.{Check, AssignedUsers, AssignedRoles, AuthUsers, AuthRoles, RolePerms, UserPerms, SessionRoles, SessionPerms, RoleOps, UserOps, Sets, SetRoles, SetCount}

-- every question but `check` is a review
unfoldable pub is_review : Question → Bool
is_review (Check s op obj) = false
is_review (AssignedUsers r) = true
is_review (AssignedRoles u) = true
is_review (AuthUsers r) = true
is_review (AuthRoles u) = true
is_review (RolePerms r) = true
is_review (UserPerms u) = true
is_review (SessionRoles s) = true
is_review (SessionPerms s) = true
is_review (RoleOps r obj) = true
is_review (UserOps u obj) = true
is_review (Sets kind) = true
is_review (SetRoles kind name) = true
is_review (SetCount kind name) = true
