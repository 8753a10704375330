-- 12 is answered where a table is full, and not below. Assumes nothing.
use mathlib.Core.Bool.{Bool, true, false, ◌&&◌, ◌||◌}
use mathlib.Core.List.{List, [], ◌∷◌}
use mathlib.Core.Path.{◌≡◌, refl, sym, ◌∙◌}
use Prim.Native.Nat.{ℕ}
use native.Mathlib.Omega.{arith}
use lib.Dec.{eqb, leb, ltb}
use borrow.Author.Tests.{eq-eqb, leb-false, lt-leb, ltb-true}
use Rattle.roleset.proofs.BoundedLaws.{clash, and_left, and_right, or_right, or-clear}
use Rattle.numbers.specs.declared.Role.{Role}
use Rattle.numbers.specs.declared.User.{User}
use Rattle.model.specs.Model.{Model}
use Rattle.model.specs.Sheet.{Refusal, verdict, settle}
use Rattle.model.specs.Step.{step}
use Rattle.model.specs.Words.{assignments, grants, lines_standing, sessions_open}
use Rattle.model.specs.commands.Assigning.{assign, grant}
use Rattle.model.specs.commands.Inheriting.{inherit}
use Rattle.model.specs.commands.Sessions.{session}
use Rattle.model.specs.declared.Command.TheVariants.{Assign, Grant, Inherit, OpenSession}
use Rattle.sound.proofs.Sheet.{verdict-here, verdict-later, positive, clear, settle-answer}
use Rattle.demands.specs.Reachable.{Reachable}
use Rattle.demands.proofs.Kept.{reachable-sound}
use Rattle.edges.specs.FullTables.{FullAt, FullTables}

-- ---- a refusal of a list, by its number

-- the refusal n is on the list, and its condition holds
unfoldable applies : ℕ → List Refusal → Bool
applies n [] = false
applies n (r ∷ rest) = (eqb r.number n && r.holds) || applies n rest

-- An answer that is not 0 applies,
answer-applies : (n : ℕ) (rs : List Refusal) → (n ≡ 0 → ⊥) → verdict rs ≡ n → applies n rs ≡ true
unfolding applies verdict
answer-applies n [] h e = absurd (h (sym e))
answer-applies n (r ∷ rest) h e = go r.holds refl (answer-applies n rest h)
  where
    go : (b : Bool) → r.holds ≡ b → (verdict rest ≡ n → applies n rest ≡ true) → applies n (r ∷ rest) ≡ true
    go true p ih = rw (p, eq-eqb r.number n (sym (verdict-here r rest p) ∙ e))
    go false p ih = or_right (eqb r.number n && r.holds) (applies n rest) (ih (sym (verdict-later r rest p) ∙ e))

-- and where the answer is 0 none does.
none-applies : (n : ℕ) (rs : List Refusal) → positive rs ≡ true → verdict rs ≡ 0 → applies n rs ≡ false
unfolding applies
none-applies n [] p e = refl
none-applies n (r ∷ rest) p e =
    let c = clear r rest (ltb-true 0 r.number (and_left (ltb 0 r.number) (positive rest) p)) e in
    let later = none-applies n rest (and_right (ltb 0 r.number) (positive rest) p) c.1 in
    go (eqb r.number n) later c.0
  where
    go : (b : Bool) → applies n rest ≡ false → r.holds ≡ false → ((b && r.holds) || applies n rest) ≡ false
    go true l h = rw (h, l)
    go false l h = l

-- ---- full tables

-- a command whose list has 12 where the most stand, as so many are kept
full_at : (most kept standing : ℕ) (rs : List Refusal) (m : Model) (results : List ℕ) (after : Model) → kept ≡ standing → positive rs ≡ true → applies 12 rs ≡ (leb most kept || false) → FullAt most standing (settle rs m results after)
full_at most kept standing rs m results after k p twelve =
    record {
      room = λ h e. clash (leb most kept || false) (sym twelve ∙ answer-applies 12 rs (λ z. omega arith) (sym (settle-answer rs m results after) ∙ e)) (rw (lt-leb most kept (omega arith)));
      full = λ h e. let c = or-clear (leb most kept) false (sym twelve ∙ none-applies 12 rs p (sym (settle-answer rs m results after) ∙ e)) in let l = leb-false most kept c.0 in omega arith;
    }

assignments-full : (m : Model) → Reachable m → (u : User) (r : Role) → FullAt 2048 (assignments m) (step m (Assign u r) [])
unfolding step assign applies
assignments-full m p u r = full_at 2048 m.assignment_count (assignments m) _ m _ _ (reachable-sound p).counted.assigned refl refl

grants-full : (m : Model) → Reachable m → (op obj : ℕ) (r : Role) → FullAt 2048 (grants m) (step m (Grant op obj r) [])
unfolding step grant applies
grants-full m p op obj r = full_at 2048 m.grant_count (grants m) _ m _ _ (reachable-sound p).counted.granted refl refl

lines-full : (m : Model) → Reachable m → (senior junior : Role) → FullAt 512 (lines_standing m) (step m (Inherit senior junior) [])
unfolding step inherit applies
lines-full m p senior junior = full_at 512 m.line_count (lines_standing m) _ m _ _ (reachable-sound p).counted.lined refl refl

sessions-full : (m : Model) → Reachable m → (u : User) (list : List ℕ) → FullAt 64 (sessions_open m) (step m (OpenSession u) list)
unfolding step session applies
sessions-full m p u list = full_at 64 (sessions_open m) (sessions_open m) _ m _ _ refl refl refl

pub full-tables : FullTables
full-tables = record { assignments = assignments-full; grants = grants-full; lines = lines-full; sessions = sessions-full }
