-- What a load tells, from the number of the lowest rule that is broken. Assumes nothing.
use mathlib.Core.Bool.{false}
use mathlib.Core.List.{List, []}
use mathlib.Core.Path.{◌≡◌, sym, ap, ap₂, ◌∙◌}
use Prim.Native.Nat.{ℕ}
use lib.Dec.{eqb}
use borrow.Author.Tests.{eq-eqb, ne_eqb}
use Rattle.std.proofs.Common.{Ok, Err}
use Rattle.numbers.specs.Answers.{refusal_number}
use Rattle.numbers.specs.declared.Refusal as numbered
use Rattle.numbers.proofs.Answers.{number-one-to-one}
use Rattle.model.specs.Model.{Model}
use Rattle.model.specs.Sheet.{Told, Refusal, verdict, settle, refused}

-- none is broken, and what is left is the model that was gathered
pub settled-done : (rs : List Refusal) (before after left : Model) (n : ℕ) → n ≡ verdict rs → n ≡ 0 → left ≡ after → ◌≡◌ {A = Told} (record { answer = n; results = []; after = left }) (settle rs before [] after)
unfolding settle
settled-done rs before after left n e z k = ap₂ {C = Told} (λ (n : ℕ) (m : Model). record { answer = n; results = []; after = m }) z k ∙ sym (rw (settle, eq-eqb (verdict rs) 0 (sym e ∙ z)))

-- one is broken, and nothing changes
pub settled-refused : (rs : List Refusal) (before after : Model) (n : ℕ) → n ≡ verdict rs → eqb n 0 ≡ false → refused n before ≡ settle rs before [] after
unfolding settle
settled-refused rs before after n e z = ap (λ (k : ℕ). refused k before) e ∙ sym (rw (settle, ap (λ (k : ℕ). eqb k 0) (sym e) ∙ z))

-- the same, by the refusal, whose number is never 0
pub settled-err : (rs : List Refusal) (before after : Model) (e : numbered.Refusal) → refusal_number e ≡ verdict rs → refused (refusal_number e) before ≡ settle rs before [] after
unfolding settle
settled-err rs before after e h = ap (λ (k : ℕ). refused k before) h ∙ sym (rw (settle, ne_eqb (verdict rs) 0 (λ z. let done = number-one-to-one (Err e) (Ok tt) (h ∙ z) in cc)))
