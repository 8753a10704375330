-- What a promise leaves open: nothing, whatever the buffer. Assumes nothing.
use mathlib.Core.Bool.{Bool, true, false}
use mathlib.Core.List.{List, [], ◌∷◌}
use mathlib.Core.Path.{◌≡◌, refl, sym, ap, ◌∙◌}
use Prim.Native.Nat.{ℕ, ◌≤◌}
use native.Mathlib.Omega.{arith}
use lib.Dec.{eqb}
use lib.ListN.{length}
use borrow.Author.Tests.{le-ltb, eqb-true}
use Rattle.roleset.proofs.BoundedLaws.{clash}
use Rattle.std.proofs.Common.{Result, Ok, Err}
use Rattle.numbers.specs.Answers.{number_of}
use Rattle.numbers.specs.declared.Refusal as numbered
use Rattle.numbers.proofs.Answers.{number-one-to-one}
use Rattle.numbers.specs.declared.Session.{Session}
use Rattle.model.specs.Model.{Model}
use Rattle.model.specs.Sheet.{Told, Refusal, verdict, settle}
use Rattle.model.specs.Questions.{assigned_users, assigned_roles, auth_users, auth_roles, role_perms, user_perms, session_roles, session_perms, role_ops, user_ops, set_names, set_roles, set_count, review, ask}
use Rattle.model.specs.commands.Sessions.{check}
use Rattle.model.specs.declared.Question.{Question}
use Rattle.model.specs.declared.Question.TheVariants.{Check, AssignedUsers, AssignedRoles, AuthUsers, AuthRoles, RolePerms, UserPerms, SessionRoles, SessionPerms, RoleOps, UserOps, Sets, SetRoles, SetCount}
use Rattle.state.specs.Results.{given_number}
use Rattle.reviews.specs.Reviewing.{Reviewed, fitted, refusals}
use Rattle.reviews.proofs.Settling.{refused-not-done, done-room}
use Rattle.reviews.proofs.WhichReview.{is_review}

-- ---- the room

review-fits : (m : Model) (room : ℕ) (beyond missing : Bool) (list : List ℕ) → length (review m room beyond missing list).results ≤ room
unfolding settle
review-fits m room beyond missing list = go (eqb (verdict rs) 0) refl
  where
    rs : List Refusal
    rs = refusals beyond missing room (length list)

    go : (b : Bool) → eqb (verdict rs) 0 ≡ b → length (settle rs m list m).results ≤ room
    go true e = rw (e, settle) (done-room beyond missing room (length list) (eqb-true (verdict rs) 0 e))
    go false e = rw (e, settle) (omega arith)

two-fit : (rs : List Refusal) (m : Model) (room a n : ℕ) → 2 ≤ room → length (settle rs m (a ∷ n ∷ []) m).results ≤ room
unfolding settle
two-fit rs m room a n h = go (eqb (verdict rs) 0) refl
  where
    go : (b : Bool) → eqb (verdict rs) 0 ≡ b → length (settle rs m (a ∷ n ∷ []) m).results ≤ room
    go true e = rw (e, settle) (omega arith)
    go false e = rw (e, settle) (omega arith)

-- No question gives more results than the buffer has places, where it has two for `check`.
pub results_fit : (m : Model) (room : ℕ) (q : Question) → ((s : Session) (op obj : ℕ) → q ≡ Check s op obj → 2 ≤ room) → length (ask m room q).results ≤ room
unfolding ask check
results_fit m room (Check s op obj) h = two-fit _ m room _ _ (h s op obj refl)
results_fit m room (AssignedUsers r) h = review-fits m room _ _ (assigned_users m r.number)
results_fit m room (AssignedRoles u) h = review-fits m room _ _ (assigned_roles m u.number)
results_fit m room (AuthUsers r) h = review-fits m room _ _ (auth_users m r.number)
results_fit m room (AuthRoles u) h = review-fits m room _ _ (auth_roles m u.number)
results_fit m room (RolePerms r) h = review-fits m room _ _ (role_perms m r.number)
results_fit m room (UserPerms u) h = review-fits m room _ _ (user_perms m u.number)
results_fit m room (SessionRoles s) h = review-fits m room _ _ (session_roles m s.number)
results_fit m room (SessionPerms s) h = review-fits m room _ _ (session_perms m s.number)
results_fit m room (RoleOps r obj) h = review-fits m room _ _ (role_ops m r.number obj)
results_fit m room (UserOps u obj) h = review-fits m room _ _ (user_ops m u.number obj)
results_fit m room (Sets kind) h = review-fits m room _ _ (set_names kind m)
results_fit m room (SetRoles kind name) h = review-fits m room _ _ (set_roles kind m name.number)
results_fit m room (SetCount kind name) h = review-fits m room _ _ (set_count kind m name.number)

pub reviews-fit : (m : Model) (room : ℕ) (q : Question) → is_review q ≡ true → length (ask m room q).results ≤ room
unfolding is_review
reviews-fit m room q e = results_fit m room q (λ s op obj f. clash (is_review q) e (ap is_review f))

-- A review is told as the paper has it in any buffer, and `check` in one with two places or more.
pub asked-with-room : (m : Model) (room : ℕ) (q : Question) → ((s : Session) (op obj : ℕ) → q ≡ Check s op obj → 2 ≤ room) → fitted room (ask m room q) ≡ ask m room q
unfolding fitted
asked-with-room m room q h = rw (le-ltb room (length (ask m room q).results) (results_fit m room q h), fitted)

-- ---- one promise has one outcome

-- an answer's number, and how many results there are, leave no more open
one-outcome : (x y : Result ℕ numbered.Refusal) → number_of x ≡ number_of y → given_number x ≡ given_number y → x ≡ y
one-outcome (Ok n) (Ok k) e f = ap Ok f
one-outcome (Ok n) (Err b) e f = absurd (refused-not-done b (sym e))
one-outcome (Err a) (Ok k) e f = absurd (refused-not-done a e)
one-outcome (Err a) (Err b) e f = let same = number-one-to-one (Err a) (Err b) e in cc

-- Two outcomes that meet the promise of a question are equal, and so are the buffers that they leave.
pub reviewed-one : (told : Told) (before after after' : List ℕ) (x y : Result ℕ numbered.Refusal) → Reviewed told before after x → Reviewed told before after' y → (x ≡ y) × (after ≡ after')
reviewed-one told before after after' x y p q = (one-outcome x y (p.answer ∙ sym q.answer) (p.count ∙ sym q.count), p.buffer ∙ sym q.buffer)
