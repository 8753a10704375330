-- Every command as one definition: what it tells, for any policy, any numbers and any list. Assumes nothing.
use Rattle.std.specs.Prelude.{List, ℕ}
use Rattle.model.specs.Model.{Model}
use Rattle.model.specs.Sheet.{Told}
use Rattle.model.specs.commands.Users.{user, role, end_all, nouser, norole}
use Rattle.model.specs.commands.Assigning.{assign, deassign, grant, revoke}
use Rattle.model.specs.commands.Inheriting.{inherit, disinherit}
use Rattle.model.specs.commands.Sets.{make_set, drop_set, add_member, drop_member, set_cardinality}
use Rattle.model.specs.commands.Sessions.{session, activate, drop, end}
use Rattle.model.specs.declared.Command.{Command}
use Rattle.model.specs.declared.Command.TheVariants.{AddUser, AddRole, NoUser, NoRole, Assign, Deassign, Grant, Revoke, Inherit, Disinherit, MakeSet, DropSet, AddMember, DropMember, SetCardinality, OpenSession, Activate, DropActive, EndSession, EndAll}

-- the command on the policy and sessions; the list is the roles that `ssd`, `dsd` and `session` name
unfoldable pub step : Model → Command → List ℕ → Told
step m (AddUser u) list = user m u.number
step m (AddRole r) list = role m r.number
step m (NoUser u) list = nouser m u.number
step m (NoRole r) list = norole m r.number
step m (Assign u r) list = assign m u.number r.number
step m (Deassign u r) list = deassign m u.number r.number
step m (Grant op obj r) list = grant m op obj r.number
step m (Revoke op obj r) list = revoke m op obj r.number
step m (Inherit senior junior) list = inherit m senior.number junior.number
step m (Disinherit senior junior) list = disinherit m senior.number junior.number
step m (MakeSet kind name n) list = make_set kind m name.number n list
step m (DropSet kind name) list = drop_set kind m name.number
step m (AddMember kind name r) list = add_member kind m name.number r.number
step m (DropMember kind name r) list = drop_member kind m name.number r.number
step m (SetCardinality kind name n) list = set_cardinality kind m name.number n
step m (OpenSession u) list = session m u.number list
step m (Activate u s r) list = activate m u.number s.number r.number
step m (DropActive u s r) list = drop m u.number s.number r.number
step m (EndSession u s) list = end m u.number s.number
step m (EndAll u) list = end_all m u.number
