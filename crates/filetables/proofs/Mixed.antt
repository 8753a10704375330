-- Files that are given by what they list: one of several entries, one with a number above 255, and one whose session breaks a dynamic rule. Assumes
-- nothing.
use mathlib.Core.Bool.{true, false}
use mathlib.Core.List.Memᴰ
use mathlib.Core.List.{List, [], ◌∷◌}
use mathlib.Core.Path.{◌≡◌, refl, sym, ap, subst, ◌∙◌}
use Prim.Native.Nat.{ℕ}
use native.Mathlib.Omega.{arith}
use Rattle.roleset.specs.Bounded.{some, every, tally, members}
use Rattle.roleset.specs.Roles.{has, pack, those, union, common, subset, is_empty, count}
use Rattle.hierarchy.specs.Walks.{juniors_of, walk, reach, circular, longer_chain}
use Rattle.model.specs.Model.{Model, standing}
use Rattle.model.specs.Sheet.{Told, verdict, settle, done, refused}
use Rattle.model.specs.Words.{breaks, breaks_some, static_broken, dynamic_broken}
use Rattle.sound.proofs.Sheet.{settle-done, settle-refused}
use Rattle.policyform.specs.Form.{FileOf}
use Rattle.policyform.specs.Promises.{Loads}
use Rattle.policyform.specs.Rules.{bad_set, unauthorised, rules_broken}
use Rattle.policyread.proofs.Whole.{file-one}
use Rattle.policyfile.proofs.Laws.{load-file}
use Rattle.policyfile.proofs.Sounding.{sound-formed}
use Rattle.demands.specs.Reachable.{Reachable}
use Rattle.demands.proofs.Kept.{reachable-sound}
use Rattle.filebytes.specs.Sections.{Sections, entries, listing, bytes_of, OfTheForm}
use Rattle.filebytes.specs.Meaning.{Says}
use Rattle.filebytes.proofs.Lists.{any}
use Rattle.filebytes.proofs.Decided.{all, in_order, Tested, tested_form}
use Rattle.filebytes.proofs.Listed.{form_sixteen}
use Rattle.filebytes.proofs.Built.{at_key, model_of, built_says, built_formed}
use Rattle.filebytes.proofs.FileForm.{paper-form}
use Rattle.filetables.specs.Rows.{bytes_in}
use Rattle.filetables.specs.PolicyBytes.{mixed_sections, mixed_file, wide_file, seniors_sections, seniors_file, FileIs}
use Rattle.filetables.proofs.Saved.{file-is}

-- ---- sections of the form, written as these bytes

module _ (f : Sections) (form : OfTheForm f) (bytes : List ℕ) (written : bytes_of f ≡ bytes) where
  listed_file : (m : Model) → Reachable m → Says f m → FileIs m bytes
  listed_file m p s = let sound = reachable-sound p in file-is m sound bytes ((paper-form.says_file m f (sound-formed m sound) form s).written ∙ written)

  built_file : FileOf (model_of f) (bytes_of f)
  built_file = paper-form.says_file (model_of f) f (built_formed f form) form (built_says f form)

  -- what loading them tells is what their policy breaks
  load_tells : (before : Model) (told : Told) → Loads before bytes told → told ≡ settle (rules_broken (model_of f)) before [] (model_of f)
  load_tells before told l = load-file before (model_of f) told (built_formed f form) (subst (λ (b : List ℕ). Loads before b told) (sym written ∙ sym built_file.written) l)

  -- and it is refused where they break one
  load_refused : (n : ℕ) → verdict (rules_broken (model_of f)) ≡ n → (n ≡ 0 → ⊥) → (before : Model) (told : Told) → Loads before bytes told → told ≡ refused n before
  load_refused n e some before told l =
      load_tells before told l
      ∙ settle-refused (rules_broken (model_of f)) before [] (model_of f) (λ z. some (sym e ∙ z))
      ∙ ap (λ (k : ℕ). refused k before) e

-- ---- several entries

mixed-tested : Tested mixed_sections
unfolding all any in_order
mixed-tested = record { users = refl; roles = refl; lines = refl; assignments = refl; grants = refl; ssd = refl; dsd = refl; sessions = refl }

mixed-form : OfTheForm mixed_sections
mixed-form = tested_form mixed_sections mixed-tested

mixed-written : bytes_of mixed_sections ≡ bytes_in mixed_file
unfolding bytes_of listing entries
mixed-written = refl

mixed-clear : verdict (rules_broken (model_of mixed_sections)) ≡ 0
unfolding some every tally has pack those union common subset is_empty count juniors_of walk reach circular longer_chain standing verdict breaks breaks_some static_broken dynamic_broken bad_set unauthorised rules_broken any at_key
mixed-clear = refl

pub mixed-file : (m : Model) → Reachable m → Says mixed_sections m → FileIs m (bytes_in mixed_file)
mixed-file = listed_file mixed_sections mixed-form (bytes_in mixed_file) mixed-written

pub mixed-loaded : (before : Model) (told : Told) → Loads before (bytes_in mixed_file) told → (told.answer ≡ 0) × Says mixed_sections told.after
mixed-loaded before told l =
    let e : told ≡ done [] (model_of mixed_sections) = load_tells mixed_sections mixed-form (bytes_in mixed_file) mixed-written before told l ∙ settle-done (rules_broken (model_of mixed_sections)) before [] (model_of mixed_sections) mixed-clear in
    (ap (λ (t : Told). t.answer) e, subst (λ (t : Told). Says mixed_sections t.after) (sym e) (built_says mixed_sections mixed-form))

-- ---- a number above 255

abbrev wide_sections : Sections
wide_sections = record { users = []; roles = 6 ∷ []; lines = []; assignments = []; grants = []; ssd = record { name = 3; cardinality = 258; members = 6 ∷ [] } ∷ []; dsd = []; sessions = [] }

wide-tested : Tested wide_sections
unfolding all any in_order
wide-tested = record { users = refl; roles = refl; lines = refl; assignments = refl; grants = refl; ssd = refl; dsd = refl; sessions = refl }

wide_form : OfTheForm wide_sections
wide_form = tested_form wide_sections wide-tested

wide-written : bytes_of wide_sections ≡ bytes_in wide_file
unfolding bytes_of listing entries
wide-written = refl

wide-broken : verdict (rules_broken (model_of wide_sections)) ≡ 7
unfolding some every tally has pack those union common subset is_empty count juniors_of walk reach circular longer_chain verdict bad_set rules_broken any at_key
wide-broken = refl

pub wide-file : (m : Model) × FileOf m (bytes_in wide_file)
wide-file = (model_of wide_sections, subst (FileOf (model_of wide_sections)) wide-written (built_file wide_sections wide_form (bytes_in wide_file) wide-written))

pub wide-number : (m : Model) → FileOf m (bytes_in wide_file) → ((m.ssd 3).there ≡ true) × ((m.ssd 3).card ≡ 258)
wide-number m x =
    let s = paper-form.file_says m wide_sections (form_sixteen wide_sections wide_form) (subst (FileOf m) (sym wide-written) x) in
    let set = s.ssd (record { name = 3; cardinality = 258; members = 6 ∷ [] }) (Memᴰ.head refl) in
    (set.there, set.cardinality)

pub wide-refused : (before : Model) (told : Told) → Loads before (bytes_in wide_file) told → told ≡ refused 7 before
wide-refused = load_refused wide_sections wide_form (bytes_in wide_file) wide-written 7 wide-broken (λ z. omega arith)

-- ---- a dynamic rule broken by inherited roles

seniors-tested : Tested seniors_sections
unfolding all any in_order
seniors-tested = record { users = refl; roles = refl; lines = refl; assignments = refl; grants = refl; ssd = refl; dsd = refl; sessions = refl }

seniors-form : OfTheForm seniors_sections
seniors-form = tested_form seniors_sections seniors-tested

seniors-written : bytes_of seniors_sections ≡ bytes_in seniors_file
unfolding bytes_of listing entries
seniors-written = refl

seniors-broken : verdict (rules_broken (model_of seniors_sections)) ≡ 11
unfolding some every tally has pack those union common subset is_empty count juniors_of walk reach circular longer_chain verdict breaks breaks_some static_broken dynamic_broken bad_set unauthorised rules_broken any at_key
seniors-broken = refl

seniors-built : FileOf (model_of seniors_sections) (bytes_in seniors_file)
seniors-built = subst (FileOf (model_of seniors_sections)) seniors-written (built_file seniors_sections seniors-form (bytes_in seniors_file) seniors-written)

pub seniors-file : (m : Model) × FileOf m (bytes_in seniors_file)
seniors-file = (model_of seniors_sections, seniors-built)

-- the policy of these bytes is the one that the sections make
seniors-one : (m : Model) → FileOf m (bytes_in seniors_file) → m ≡ model_of seniors_sections
seniors-one m x = file-one (bytes_in seniors_file) m (model_of seniors_sections) x seniors-built

pub seniors-says : (m : Model) → FileOf m (bytes_in seniors_file) → Says seniors_sections m
seniors-says m x = paper-form.file_says m seniors_sections (form_sixteen seniors_sections seniors-form) (subst (FileOf m) (sym seniors-written) x)

seniors-kept : some 64 (λ k. breaks_some (model_of seniors_sections).dsd ((model_of seniors_sections).sessions k).active) ≡ false
unfolding some every tally has pack those common count breaks breaks_some any at_key
seniors-kept = refl

pub seniors-active : (m : Model) → FileOf m (bytes_in seniors_file) → some 64 (λ k. breaks_some m.dsd (m.sessions k).active) ≡ false
seniors-active m x = subst (λ (y : Model). some 64 (λ k. breaks_some y.dsd (y.sessions k).active) ≡ false) (sym (seniors-one m x)) seniors-kept

pub seniors-refused : (before : Model) (told : Told) → Loads before (bytes_in seniors_file) told → told ≡ refused 11 before
seniors-refused = load_refused seniors_sections seniors-form (bytes_in seniors_file) seniors-written 11 seniors-broken (λ z. omega arith)
