-- Laws of the set commands. Assumes nothing.
use borrow.Author.Tests.{not-true, not-false}
use mathlib.Core.Bool.{Bool, true, false, not, ◌||◌}
use mathlib.Core.List.{List, []}
use mathlib.Core.Path.{◌≡◌, sym, ap, ◌∙◌}
use Prim.Native.Nat.{ℕ, ◌<◌}
use lib.Dec.{eqb}
use Rattle.roleset.proofs.BoundedLaws.{or-clear}
use Rattle.numbers.specs.Answers.{Answer, number_of}
use Rattle.model.specs.Model.{Model}
use Rattle.model.specs.Sheet.{Refusal, verdict, done, refused, settle}
use Rattle.model.specs.commands.Sets.{sets_of, set_missing, a_set}
use Rattle.model.specs.declared.Kind.{Kind}
use Rattle.state.specs.Stores.{in_range, set_stored, with_members}
use Rattle.state.proofs.Stored.{placed}

-- a set that is there takes these members: it stays there, with its cardinality
pub members-placed : (kind : Kind) (name : ℕ) (m after : Model) (roles : ℕ) (rest : Bool) → name < 16 → (set_missing kind m name || rest) ≡ false → after ≡ in_range 16 name m (set_stored kind m name (with_members (sets_of kind m name) roles)) → after ≡ set_stored kind m name (a_set (sets_of kind m name).card roles)
members-placed kind name m after roles rest h there e =
    placed 16 name m _ after h e
    ∙ ap (λ (t : Bool). set_stored kind m name (record { there = t; card = (sets_of kind m name).card; roles = roles })) (not-false (sets_of kind m name).there (or-clear (set_missing kind m name) rest there).0)

-- the refusals that are asked last decide
module _ (refusals : List Refusal) (m after : Model) (a : Answer) (answers : verdict refusals ≡ number_of a) (done? : Bool) (is : done? ≡ eqb (number_of a) 0) where
  pub last_refused : not done? ≡ true → refused (number_of a) m ≡ settle refusals m [] after
  unfolding settle
  last_refused h = rw (settle, answers, ← is, not-true done? h) (ap (λ (n : ℕ). refused n m) (sym answers))

  pub last_done : not done? ≡ false → (x : Model) → x ≡ after → done [] x ≡ settle refusals m [] after
  unfolding settle
  last_done h x e = rw (settle, answers, ← is, not-false done? h) (ap (done []) e)
