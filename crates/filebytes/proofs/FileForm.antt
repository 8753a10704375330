-- The form of the policy file is the paper's. Assumes nothing.
use mathlib.Core.List.{List, [], ◌∷◌, ◌++◌, append-nil}
use mathlib.Core.Path.{◌≡◌, refl, sym, ap, subst, ◌∙◌}
use Prim.Native.Nat.{ℕ, ◌<◌}
use native.Mathlib.Omega.{arith}
use Rattle.model.specs.Model.{Model}
use Rattle.policyform.specs.Form.{Formed, FileOf}
use Rattle.filebytes.specs.Sections.{SetEntry, Sections, bytes_of, Ascending, Listed, RoleList, FineSet, FineSession, OfTheForm, Sixteen}
use Rattle.filebytes.specs.Faults.{Disordered, ListFault, SetFault, Fault, too_long, not_ascending, not_listed, name_beyond, in_members, number_beyond, owner_unlisted, in_active}
use Rattle.filebytes.specs.Faults as faults
use Rattle.filebytes.specs.Meaning.{Says}
use Rattle.filebytes.specs.FileForm.{AsThePaperSays, NoFile, FileForm}
use Rattle.filebytes.proofs.Lists.{every-elim}
use Rattle.filebytes.proofs.OneWay.{file-one-way}
use Rattle.filebytes.proofs.Listed.{sections_of, sections-bytes, sections_form, sections_say, form_sixteen}
use Rattle.filebytes.proofs.Same.{sections_same}
use Rattle.filebytes.proofs.AnyBytes.{any-bytes}
use Rattle.filebytes.proofs.Faultless.{faultless_form}
use Rattle.filebytes.proofs.Built.{model_of, built_says, built_formed}

file-form : (m : Model) (bytes : List ℕ) → FileOf m bytes → AsThePaperSays bytes
file-form m bytes x = record { sections = sections_of m; form = sections_form m x.formed; written = sections-bytes m ∙ x.written }

says-file : (m : Model) (f : Sections) → Formed m → OfTheForm f → Says f m → FileOf m (bytes_of f)
says-file m f x form s = record { formed = x; written = sym (sections-bytes m) ∙ ap bytes_of (sections_same f form m s) }

form-file : (bytes : List ℕ) → AsThePaperSays bytes → (m : Model) × FileOf m bytes
form-file bytes p = let f = p.sections in (model_of f, subst (FileOf (model_of f)) p.written (says-file (model_of f) f (built_formed f p.form) p.form (built_says f p.form)))

-- the sections of a file, and what stands after them where it is written out
one-reading : (m : Model) (f : Sections) (bytes rest rest' : List ℕ) → FileOf m bytes → Sixteen f → bytes ++ rest ≡ bytes_of f ++ rest' → (sections_of m ≡ f) × (rest ≡ rest')
one-reading m f bytes rest rest' x six e = file-one-way.read (sections_of m) f rest rest' (form_sixteen (sections_of m) (sections_form m x.formed)) six (ap (λ (l : List ℕ). l ++ rest) (sections-bytes m ∙ x.written) ∙ e)

same-sections : (m : Model) (f : Sections) → Sixteen f → FileOf m (bytes_of f) → sections_of m ≡ f
same-sections m f six x = (one-reading m f (bytes_of f) [] [] x six refl).0

file-says : (m : Model) (f : Sections) → Sixteen f → FileOf m (bytes_of f) → Says f m
file-says m f six x = subst (λ (g : Sections). Says g m) (same-sections m f six x) (sections_say m x.formed)

obeys : (m : Model) (f : Sections) → Sixteen f → FileOf m (bytes_of f) → OfTheForm f
obeys m f six x = subst OfTheForm (same-sections m f six x) (sections_form m x.formed)

nothing-more : {next : ℕ} {rest : List ℕ} → [] ≡ next ∷ rest → ⊥
nothing-more e = let z : ◌≡◌ {A = ℕ} 0 1 = cc in omega arith

left_over : (f : Sections) → Sixteen f → (next : ℕ) (rest : List ℕ) → NoFile (bytes_of f ++ (next ∷ rest))
left_over f six next rest m x = nothing-more (one-reading m f (bytes_of f ++ (next ∷ rest)) [] (next ∷ rest) x six (append-nil (bytes_of f ++ (next ∷ rest)))).1

early-end : (f : Sections) → Sixteen f → (bytes : List ℕ) (next : ℕ) (rest : List ℕ) → bytes_of f ≡ bytes ++ (next ∷ rest) → NoFile bytes
early-end f six bytes next rest e m x = nothing-more (sym (one-reading m f bytes (next ∷ rest) [] x six (sym e ∙ sym (append-nil (bytes_of f)))).1)

no_front : (m m' : Model) (bytes : List ℕ) (next : ℕ) (rest : List ℕ) → FileOf m bytes → FileOf m' (bytes ++ (next ∷ rest)) → ⊥
no_front m m' bytes next rest x x' =
    let p = file-form m bytes x in
    left_over p.sections (form_sixteen p.sections p.form) next rest m' (subst (λ (l : List ℕ). FileOf m' (l ++ (next ∷ rest))) (sym p.written) x')

-- ---- faults

in_order : {A : Type 0} (Before : A → A → Type 0) (front : List A) (a b : A) (rest : List A) → Ascending Before (front ++ (a ∷ b ∷ rest)) → Before a b
in_order Before [] a b rest p = p.0.0
in_order Before (c ∷ front) a b rest p = in_order Before front a b rest p.1

ordered : {A : Type 0} (Before : A → A → Type 0) (l : List A) → Ascending Before l → Disordered Before l → ⊥
ordered Before l p d = d.wrong (in_order Before d.front d.one d.next d.rest (subst (λ (k : List _). Ascending Before k) d.stand p))

module _ (f : Sections) (x : OfTheForm f) where
  list_good : (l : List ℕ) → RoleList f l → ListFault f l → ⊥
  list_good l g (too_long h) = omega (arith, g.count)
  list_good l g (not_ascending d) = ordered ◌<◌ l g.order d
  list_good l g (not_listed r i h) = h (every-elim (λ k. Listed k f.roles) l g.each r i)

  set_good : (e : SetEntry) → FineSet f e → SetFault f e → ⊥
  set_good e g (name_beyond h) = omega (arith, g.name)
  set_good e g (in_members l) = list_good e.members g.members l

  fault_free : Fault f → ⊥
  fault_free (faults.many_users h) = omega (arith, x.users.count)
  fault_free (faults.many_roles h) = omega (arith, x.roles.count)
  fault_free (faults.many_lines h) = omega (arith, x.lines.count)
  fault_free (faults.many_assignments h) = omega (arith, x.assignments.count)
  fault_free (faults.many_grants h) = omega (arith, x.grants.count)
  fault_free (faults.many_ssd h) = omega (arith, x.ssd.count)
  fault_free (faults.many_dsd h) = omega (arith, x.dsd.count)
  fault_free (faults.many_sessions h) = omega (arith, x.sessions.count)
  fault_free (faults.user_beyond u i h) = omega (arith, every-elim (λ k. k < 256) f.users x.users.each u i)
  fault_free (faults.role_beyond r i h) = omega (arith, every-elim (λ k. k < 64) f.roles x.roles.each r i)
  fault_free (faults.operation_beyond g i h) = omega (arith, (every-elim _ f.grants x.grants.each g i).1)
  fault_free (faults.object_beyond g i h) = omega (arith, (every-elim _ f.grants x.grants.each g i).2)
  fault_free (faults.users_order d) = ordered _ _ x.users.order d
  fault_free (faults.roles_order d) = ordered _ _ x.roles.order d
  fault_free (faults.lines_order d) = ordered _ _ x.lines.order d
  fault_free (faults.assignments_order d) = ordered _ _ x.assignments.order d
  fault_free (faults.grants_order d) = ordered _ _ x.grants.order d
  fault_free (faults.ssd_order d) = ordered _ _ x.ssd.order d
  fault_free (faults.dsd_order d) = ordered _ _ x.dsd.order d
  fault_free (faults.sessions_order d) = ordered _ _ x.sessions.order d
  fault_free (faults.senior_unlisted l i h) = h (every-elim _ f.lines x.lines.each l i).0
  fault_free (faults.junior_unlisted l i h) = h (every-elim _ f.lines x.lines.each l i).1
  fault_free (faults.user_unlisted a i h) = h (every-elim _ f.assignments x.assignments.each a i).0
  fault_free (faults.role_unlisted a i h) = h (every-elim _ f.assignments x.assignments.each a i).1
  fault_free (faults.holder_unlisted g i h) = h (every-elim _ f.grants x.grants.each g i).0
  fault_free (faults.in_ssd e i h) = set_good e (every-elim (FineSet f) f.ssd x.ssd.each e i) h
  fault_free (faults.in_dsd e i h) = set_good e (every-elim (FineSet f) f.dsd x.dsd.each e i) h
  fault_free (faults.in_sessions e i (number_beyond h)) = omega (arith, (every-elim (FineSession f) f.sessions x.sessions.each e i).number)
  fault_free (faults.in_sessions e i (owner_unlisted h)) = h (every-elim (FineSession f) f.sessions x.sessions.each e i).owner
  fault_free (faults.in_sessions e i (in_active l)) = list_good e.active (every-elim (FineSession f) f.sessions x.sessions.each e i).active l

-- what a file is and says, and what is no file
pub paper-form : FileForm
paper-form = record { file_form = file-form; form_file = form-file; file_says = file-says; says_file = says-file; obeys = obeys; faults = λ f six h m x. fault_free f (obeys m f six x) h; early_end = early-end; left_over = left_over; faultless = λ f six none. form-file (bytes_of f) (record { sections = f; form = faultless_form f six none; written = refl }); any_bytes = any-bytes; no_front = no_front }
