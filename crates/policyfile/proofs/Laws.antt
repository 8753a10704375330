-- Saving and loading: each promise determines what is told, a saved policy loads as itself, a loaded file is saved as itself, and what a load
-- hands back is sound. Assumes nothing.
use mathlib.Core.Bool.{Bool, false}
use mathlib.Core.List.{List, [], ◌∷◌, ◌++◌}
use mathlib.Core.Logic.{inl, inr}
use mathlib.Core.Path.{◌≡◌, refl, sym, ap, subst, ◌∙◌}
use Prim.Native.Nat.{ℕ, ◌+◌, ◌≤◌, ◌<◌}
use native.Mathlib.Omega.{arith}
use lib.ListN.{length, drop}
use lib.Seq.{sets-eq}
use Rattle.roleset.specs.Bounded.{members}
use Rattle.roleset.specs.Roles.{has}
use Rattle.roleset.proofs.BoundedLaws.{tally-none}
use Rattle.roleset.proofs.Laws.{has-none}
use Rattle.roleset.proofs.MembersLaws.{members-length}
use Rattle.model.specs.Model.{Model, empty}
use Rattle.model.specs.Sheet.{Told, verdict, settle, done}
use Rattle.model.specs.Sound.{Sound}
use Rattle.sound.proofs.Sheet.{settle-done, settle-answer, settle-kept, refusal-changes-nothing}
use Rattle.text.specs.Bytes.{two, flat, section}
use Rattle.policyform.specs.Encode.{pair_in, grant_in, encode}
use Rattle.policyform.specs.Form.{Formed}
use Rattle.policyform.specs.Rules.{rules_broken}
use Rattle.policyform.specs.Promises.{Saves, SaveDone, Loads}
use Rattle.policyform.proofs.Size.{encode-size}
use Rattle.policyread.proofs.Whole.{file-one}
use Rattle.policyfile.proofs.Sounding.{sound-formed, formed_sound, sound-clear}

-- ---- each promise determines what is told

-- Two outcomes of one load are equal.
pub loads-one : (before : Model) (bytes : List ℕ) (t t' : Told) → Loads before bytes t → Loads before bytes t' → t ≡ t'
loads-one before bytes t t' (inl x) (inl y) = x.tells ∙ sym y.tells
loads-one before bytes t t' (inl x) (inr y) = absurd (x.no_file y.model y.file)
loads-one before bytes t t' (inr x) (inl y) = absurd (y.no_file x.model x.file)
loads-one before bytes t t' (inr x) (inr y) = x.tells ∙ ap (λ (m : Model). settle (rules_broken m) before [] m) (file-one bytes x.model y.model x.file y.file) ∙ sym y.tells

-- Two outcomes of one save have the same answer, the same length and the same buffer.
pub saves-one : (m : Model) (out after after' : List ℕ) (a a' n n' : ℕ) → Saves m out after a n → Saves m out after' a' n' → (a ≡ a') × ((n ≡ n') × (after ≡ after'))
saves-one m out after after' a a' n n' (inl x) (inl y) = (x.answered ∙ sym y.answered, (x.no_length ∙ sym y.no_length, x.untouched ∙ sym y.untouched))
saves-one m out after after' a a' n n' (inl x) (inr y) = absurd (omega (arith, x.short, y.fits))
saves-one m out after after' a a' n n' (inr x) (inl y) = absurd (omega (arith, y.short, x.fits))
saves-one m out after after' a a' n n' (inr x) (inr y) = (x.answered ∙ sym y.answered, (x.long ∙ sym y.long, x.stored ∙ sym y.stored))

-- "bytes past that length are untouched": the buffer after a save is the file and then what stood past it.
pub saved-buffer : (m : Model) (out after : List ℕ) (a n : ℕ) → SaveDone m out after a n → after ≡ encode m ++ drop n out
saved-buffer m out after a n x = x.stored ∙ sets-eq (encode m) out 0 (omega (arith, x.fits)) ∙ ap (λ (k : ℕ). encode m ++ drop k out) size
  where
    size : 0 + length (encode m) ≡ n
    size = omega (arith, x.long)

-- "A policy of ours never needs more than 36,048 bytes."
pub sound-size : (m : Model) → Sound m → length (encode m) ≤ 36048
sound-size m s = encode-size m (sound-formed m s)

-- so saving it into as many is done
pub save-fits : (m : Model) (out after : List ℕ) (a n : ℕ) → Sound m → 36048 ≤ length out → Saves m out after a n → a ≡ 0
save-fits m out after a n s h (inl x) = absurd (omega (arith, x.short, sound-size m s))
save-fits m out after a n s h (inr x) = x.answered

-- ---- round trips

-- Load after save: the file of a model that may stand in one tells what this model breaks, or is this model;
pub load-file : (before m : Model) (t : Told) → Formed m → Loads before (encode m) t → t ≡ settle (rules_broken m) before [] m
load-file before m t f (inl x) = absurd (x.no_file m (record { formed = f; written = refl }))
load-file before m t f (inr x) = x.tells ∙ ap (λ (n : Model). settle (rules_broken n) before [] n) (file-one (encode m) x.model m x.file (record { formed = f; written = refl }))

-- the file of a sound model is loaded as this model.
pub load-after-save : (before m : Model) (t : Told) → Sound m → Loads before (encode m) t → t ≡ done [] m
load-after-save before m t s l = load-file before m t (sound-formed m s) l ∙ settle-done (rules_broken m) before [] m (sound-clear m s)

-- What a load that was done hands back: a sound model, and the bytes are its file.
pub loaded : (before : Model) (bytes : List ℕ) (t : Told) → Loads before bytes t → t.answer ≡ 0 → (Sound t.after) × (encode t.after ≡ bytes)
loaded before bytes t (inl x) e = absurd (let z : ◌≡◌ {A = ℕ} 14 0 = sym (ap (λ (y : Told). y.answer) x.tells) ∙ e in omega arith)
loaded before bytes t (inr x) e = subst (λ (m : Model). (Sound m) × (encode m ≡ bytes)) (sym same) (formed_sound x.model x.file.formed zero, x.file.written)
  where
    zero : verdict (rules_broken x.model) ≡ 0
    zero = sym (settle-answer (rules_broken x.model) before [] x.model) ∙ sym (ap (λ (y : Told). y.answer) x.tells) ∙ e

    same : t.after ≡ x.model
    same = ap (λ (y : Told). y.after) (x.tells ∙ settle-done (rules_broken x.model) before [] x.model zero)

-- Save after load: what a load accepted is saved as the bytes that were loaded.
pub save-after-load : (before : Model) (bytes : List ℕ) (t : Told) → Loads before bytes t → t.answer ≡ 0 → encode t.after ≡ bytes
save-after-load before bytes t l e = (loaded before bytes t l e).1

-- ---- demands 1 and 3

-- A refused load changes nothing.
pub load-refused : (before : Model) (bytes : List ℕ) (t : Told) → Loads before bytes t → (t.answer ≡ 0 → ⊥) → t.after ≡ before
load-refused before bytes t (inl x) h = ap (λ (y : Told). y.after) x.tells
load-refused before bytes t (inr x) h = ap (λ (y : Told). y.after) x.tells ∙ (refusal-changes-nothing (rules_broken x.model) before [] x.model (λ z. h (ap (λ (y : Told). y.answer) x.tells ∙ z))).0

-- A load keeps a sound model sound, whatever the bytes.
pub load-sound : (before : Model) (bytes : List ℕ) (t : Told) → Sound before → Loads before bytes t → Sound t.after
load-sound before bytes t s (inl x) = subst (λ (y : Told). Sound y.after) (sym x.tells) s
load-sound before bytes t s (inr x) = subst (λ (y : Told). Sound y.after) (sym x.tells) (settle-kept Sound (rules_broken x.model) before [] x.model s (formed_sound x.model x.file.formed))

-- ---- P12

-- the section of nothing
no-members : (n : ℕ) (f : ℕ → Bool) → ((k : ℕ) → k < n → f k ≡ false) → members n f ≡ []
no-members n f h = go (members n f) (members-length n f ∙ tally-none n f h)
  where
    go : (l : List ℕ) → length l ≡ 0 → l ≡ []
    go [] e = refl
    go (a ∷ l) e = absurd (omega arith)

no-section : (put : ℕ → List ℕ) (n : ℕ) (f : ℕ → Bool) → ((k : ℕ) → f k ≡ false) → section put (members n f) ≡ 0 ∷ 0 ∷ []
unfolding section flat
no-section put n f h = rw (no-members n f (λ k l. h k))

-- "the empty policy saved: sixteen zero bytes"
pub empty-file : encode empty ≡ 0 ∷ 0 ∷ 0 ∷ 0 ∷ 0 ∷ 0 ∷ 0 ∷ 0 ∷ 0 ∷ 0 ∷ 0 ∷ 0 ∷ 0 ∷ 0 ∷ 0 ∷ 0 ∷ []
unfolding encode empty
empty-file =
    rw (
      no-section two 256 (λ u. false) (λ k. refl),
      no-section two 64 (has 0) has-none,
      no-section _ 4096 (pair_in (λ s. 0)) (λ k. has-none _),
      no-section _ 16384 (pair_in (λ s. 0)) (λ k. has-none _),
      no-section _ 262144 (grant_in (λ s. 0)) (λ k. has-none _),
      no-section _ 16 (λ n. false) (λ k. refl),
      no-section _ 64 (λ n. false) (λ k. refl),
    )
