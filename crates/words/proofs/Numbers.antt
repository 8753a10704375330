-- The words of the code and their numbers. Assumes nothing.
use mathlib.Core.Bool.{Bool, true, false, cond}
use mathlib.Core.List.{List, [], ◌∷◌, map}
use mathlib.Core.Path.{◌≡◌, refl, sym, ap, ap₂, ◌∙◌}
use Prim.Native.Nat.{ℕ, suc, ◌≤◌, ◌<◌}
use native.Mathlib.Omega.{arith}
use native.Mathlib.Decide.{dec_lt}
use lib.Dec.{eqb}
use borrow.Author.Tests.{eqb-true}
use Rattle.std.proofs.Common.{Option, Some, None}
use Rattle.std.specs.List.{slice_get, find}
use Rattle.std.specs.Option.{option_map, MatchOption}
use Rattle.std.specs.Slice.{IsItemAt}
use denote.Ref.{Bor}
use Rattle.std.specs.Str.{bytes_eq}
use Rattle.std.proofs.lemmas.List.{get_or-map, length-map}
use Rattle.std.proofs.lemmas.Option.{slice_get_within, slice_get-get_or, slice_get-map, slice_get_past, none-some}
use lib.ListN.{length, get_or}
use Rattle.words.specs.Bytes.{same}
use Rattle.words.specs.ScriptWords.{Word as ScriptWord, words, word_count, words_count, word_of, place_in, which}
use Rattle.words.specs.Rows.{number, in_order, named, described}
use Rattle.words.specs.declared.Word.{Word}
use Rattle.words.specs.declared.Word.TheVariants.{User, Role, NoUser, NoRole, Assign, Deassign, Grant, Revoke, Inherit, Disinherit, Session, Activate, Drop, End, Ssd, NoSsd, SsdAdd, SsdDrop, SsdCard, Dsd, NoDsd, DsdAdd, DsdDrop, DsdCard, Check, AssignedUsers, AssignedRoles, AuthUsers, AuthRoles, RolePerms, UserPerms, SessionRoles, SessionPerms, RoleOps, UserOps, SsdSets, SsdRoles, SsdCount, DsdSets, DsdRoles, DsdCount, EndAll}
use Rattle.words.specs.declared.Row.{Row}
use Rattle.words.proofs.Laws.{same_bytes}
use Rattle.words.proofs.Tables.{none, lengths, over-words}

-- each word stands at its number
pub numbered : (w : Word) → named (number w) ≡ Some w
numbered User = refl
numbered Role = refl
numbered NoUser = refl
numbered NoRole = refl
numbered Assign = refl
numbered Deassign = refl
numbered Grant = refl
numbered Revoke = refl
numbered Inherit = refl
numbered Disinherit = refl
numbered Session = refl
numbered Activate = refl
numbered Drop = refl
numbered End = refl
numbered Ssd = refl
numbered NoSsd = refl
numbered SsdAdd = refl
numbered SsdDrop = refl
numbered SsdCard = refl
numbered Dsd = refl
numbered NoDsd = refl
numbered DsdAdd = refl
numbered DsdDrop = refl
numbered DsdCard = refl
numbered Check = refl
numbered AssignedUsers = refl
numbered AssignedRoles = refl
numbered AuthUsers = refl
numbered AuthRoles = refl
numbered RolePerms = refl
numbered UserPerms = refl
numbered SessionRoles = refl
numbered SessionPerms = refl
numbered RoleOps = refl
numbered UserOps = refl
numbered SsdSets = refl
numbered SsdRoles = refl
numbered SsdCount = refl
numbered DsdSets = refl
numbered DsdRoles = refl
numbered DsdCount = refl
numbered EndAll = refl

pub number_known : (w : Word) → number w < word_count
number_known w = slice_get_within in_order (number w) w (numbered w)

-- a word that stands at a number has it
tells : Option Word → ℕ → Bool
tells (Some w) k = eqb (number w) k
tells None k = false

pub named-number : (k : ℕ) (w : Word) → named k ≡ Some w → number w ≡ k
unfolding lengths words tells
named-number k w e = eqb-true _ _ (rw e at (over-words (λ k. tells (named k) k) tt k (slice_get_within in_order k w e)))

-- where none stands, the number is past the last
pub named_none : (k : ℕ) → named k ≡ None → word_count ≤ k
named_none k e = go (dec_lt k word_count)
  where
    go : Dec (k < word_count) → word_count ≤ k
    go (yes h) = absurd (none-some _ (sym e ∙ slice_get-get_or in_order k User h))
    go (no h) = omega arith

-- ---- a table of the words

module _ (rows : List Row) (table : map described rows ≡ words) where
  long : length rows ≡ word_count
  long = sym (length-map rows described) ∙ ap length table ∙ words_count

  -- the row at the number of a word is that of the word
  pub row-is : (k : ℕ) (d : Row) → k < length rows → described (get_or rows k d) ≡ word_of k
  row-is k d h = sym (get_or-map described rows k d none h) ∙ ap (λ (l : List ScriptWord). get_or l k none) table

  -- what is looked up at a number: its row, or nothing past the last
  pub row-told : (k : ℕ) (x : Option (Bor Row)) → IsItemAt rows k x → MatchOption x (word_count ≤ k) (λ r. described r.now ≡ word_of k)
  row-told k None h = omega (arith, long, h.3)
  row-told k (Some r) h = ap described (h.3.1 r.now) ∙ row-is k r.now h.3.0

  pub row-word : (k : ℕ) (x : Option (Bor Row)) → IsItemAt rows k x → map (λ (r : Row). r.0) rows ≡ in_order → option_map (λ (r : Bor Row). r.now.0) x ≡ named k
  row-word k None h o = let past : length in_order ≤ k = omega (arith, long, h.3) in sym (slice_get_past in_order k past)
  row-word k (Some r) h o =
      ap (λ (r : Row). Some r.0) (h.3.1 r.now)
      ∙ sym (ap (option_map (λ (r : Row). r.0)) (slice_get-get_or rows k r.now h.3.0))
      ∙ sym (slice_get-map (λ (r : Row). r.0) rows k) ∙ ap (λ (l : List Word). slice_get l k) o

-- the first row with the letters of a text is that of the word that it is
first : (text : List ℕ) (rows : List Row) → option_map (λ (r : Row). r.0) (find (λ (r : Row). bytes_eq text r.1.now) rows) ≡ slice_get (map (λ (r : Row). r.0) rows) (place_in (map described rows) text)
unfolding place_in same
first text [] = refl
first text (r ∷ rows) = rw (same_bytes text r.1.now) (go (bytes_eq text r.1.now) (first text rows))
  where
    go : (b : Bool) → option_map (λ (r : Row). r.0) (find (λ (r : Row). bytes_eq text r.1.now) rows) ≡ slice_get (map (λ (r : Row). r.0) rows) (place_in (map described rows) text) → option_map (λ (r : Row). r.0) (cond b (Some r) (find (λ (r : Row). bytes_eq text r.1.now) rows)) ≡ slice_get (r.0 ∷ map (λ (r : Row). r.0) rows) (elim b [ true ↦ 0 | false ↦ suc (place_in (map described rows) text) ])
    go true h = refl
    go false h = h

pub found : (text : List ℕ) (rows : List Row) → map described rows ≡ words → map (λ (r : Row). r.0) rows ≡ in_order → option_map (λ (r : Row). r.0) (find (λ (r : Row). bytes_eq text r.1.now) rows) ≡ named (which text)
unfolding which
found text rows table o = first text rows ∙ ap₂ (λ (l : List Word) (ws : List ScriptWord). slice_get l (place_in ws text)) o table
