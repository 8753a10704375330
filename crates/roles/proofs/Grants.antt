-- The grants of a role taken out in place, one permission after the other, and what the kept count becomes. Assumes nothing.
use mathlib.Core.Bool.{Bool, true, false, not, ◌&&◌, and-true}
use mathlib.Core.List.{List}
use mathlib.Core.Path.{◌≡◌, refl, sym, ap, ap₂, ◌∙◌, fun_ext}
use Prim.Native.Nat.{ℕ, ◌+◌, ◌-◌, ◌<◌, ◌≤◌, ◌^◌}
use native.Mathlib.Omega.{arith}
use lib.Dec.{eqb, ltb}
use borrow.Author.Tests.{eqb-true, eqb-false, ltb-true, ltb-false, lt-ltb, le-ltb}
use Rattle.roleset.specs.Bounded.{bit, tally}
use Rattle.roleset.specs.Roles.{has, without}
use Rattle.roleset.proofs.BoundedLaws.{tally-step}
use Rattle.roleset.proofs.Laws.{ext, has-without, without-small}
use Rattle.model.specs.Model.{Model, put, with_grants}
use Rattle.model.specs.commands.Users.{holding}
use Rattle.model.proofs.Puts.{put_same, put_other}
use Rattle.state.specs.Stores.{in_range}
use Rattle.state.specs.View.{view}
use Rattle.state.proofs.Slots.{part_none}
use Rattle.state.proofs.Stored.{in-range}
use Rattle.sweeps.proofs.Strips.{without-none}
use Rattle.roles.specs.Leaving.{ungranted, all_ungranted}

-- a role that is not a member can be taken out, and nothing changes
pub without-absent : (s r : ℕ) → s < 2 ^ 64 → has s r ≡ false → without s r ≡ s
without-absent s r small absent = ext (without s r) s (without-small s r) small (λ k l. has-without s r k l ∙ go k (eqb k r) refl)
  where
    go : (k : ℕ) (b : Bool) → eqb k r ≡ b → (has s k && not b) ≡ has s k
    go k true e = rw (eqb-true k r e, absent)
    go k false e = and-true (has s k)

-- what stands at a place is put there
put_back : (f : ℕ → ℕ) (i : ℕ) → ◌≡◌ {A = ℕ → ℕ} (put f i (f i)) f
put_back f i = fun_ext (λ k. go k (eqb k i) refl)
  where
    go : (k : ℕ) (b : Bool) → eqb k i ≡ b → put f i (f i) k ≡ f k
    go k true e = rw (eqb-true k i e) (put_same f i (f i))
    go k false e = put_other f i (f i) k (eqb-false k i e)

-- nothing is stored, within the range and beyond it
unmoved : (n k : ℕ) (m : Model) → in_range n k m m ≡ m
unfolding in_range
unmoved n k m = go (ltb k n)
  where
    go : (b : Bool) → elim b [ true ↦ m | false ↦ m ] ≡ m
    go true = refl
    go false = refl

-- a role that holds the permission: the store takes it out, and counts one less
pub held : (m : Model) (p r old : ℕ) → old ≡ m.holders p → (after : Model) (roles standing : ℕ) → has old r ≡ true → roles ≡ without old r → standing ≡ m.grant_count - 1 → after ≡ in_range 4096 p m (with_grants m (put m.holders p roles) standing) → after ≡ in_range 4096 p m (ungranted m p r)
held m p r old is after roles standing there gone counted e =
    let one : has (m.holders p) r ≡ true = ap (λ (x : ℕ). has x r) (sym is) ∙ there in
    e ∙ ap (in_range 4096 p m) (ap₂ (λ (x n : ℕ). with_grants m (put m.holders p x) n) (gone ∙ ap (λ (x : ℕ). without x r) is) (counted ∙ sym (ap (λ (b : Bool). m.grant_count - bit b) one)))

-- a role that does not hold the permission: nothing is stored
pub not_held : (m : Model) (p r old : ℕ) → old ≡ m.holders p → old < 2 ^ 64 → has old r ≡ false → m ≡ in_range 4096 p m (ungranted m p r)
not_held m p r old is small absent =
    let none : has (m.holders p) r ≡ false = ap (λ (x : ℕ). has x r) (sym is) ∙ absent in
    let stays : without (m.holders p) r ≡ m.holders p = ap (λ (x : ℕ). without x r) (sym is) ∙ without-absent old r small absent ∙ is in
    sym (ap (in_range 4096 p m) (ap₂ (with_grants m) (ap (put m.holders p) stays ∙ put_back m.holders p) (ap (λ (b : Bool). m.grant_count - bit b) none ∙ omega arith)) ∙ unmoved 4096 p m)

-- the role taken from the holders of the permissions below n
unfoldable pub ungranted_to : ℕ → ℕ → (ℕ → ℕ) → ℕ → ℕ
ungranted_to n r f k = elim (ltb k n) [ true ↦ without (f k) r | false ↦ f k ]

-- so far the loop has come
abbrev pub so_far : ℕ → ℕ → Model → Model
so_far n r m = with_grants m (ungranted_to n r m.holders) (m.grant_count - holding n m.holders r)

module _ (n r : ℕ) (f : ℕ → ℕ) (k : ℕ) where
  done_below : k < n → ungranted_to n r f k ≡ without (f k) r
  unfolding ungranted_to
  done_below h = rw (ungranted_to, lt-ltb k n h)

  same_past : n ≤ k → ungranted_to n r f k ≡ f k
  unfolding ungranted_to
  same_past h = rw (ungranted_to, le-ltb k n h)

pub grants-start : (r : ℕ) (m : Model) → m ≡ so_far 0 r m
unfolding tally
grants-start r m = ap₂ (with_grants m) (fun_ext (λ k. sym (same_past 0 r m.holders k (omega arith)))) (omega arith)

module _ (n r : ℕ) (f : ℕ → ℕ) (k : ℕ) where
  step_at : put (ungranted_to n r f) n (without (ungranted_to n r f n) r) k ≡ ungranted_to (n + 1) r f k
  step_at = go (eqb k n) refl (ltb k n) refl
    where
      go : (b : Bool) → eqb k n ≡ b → (t : Bool) → ltb k n ≡ t → put (ungranted_to n r f) n (without (ungranted_to n r f n) r) k ≡ ungranted_to (n + 1) r f k
      go true e t l = rw (eqb-true k n e) (put_same (ungranted_to n r f) n _ ∙ ap (λ (x : ℕ). without x r) (same_past n r f n (omega arith)) ∙ sym (done_below (n + 1) r f n (omega arith)))
      go false e true l = put_other (ungranted_to n r f) n _ k (eqb-false k n e) ∙ done_below n r f k (ltb-true k n l) ∙ sym (done_below (n + 1) r f k (omega (arith, ltb-true k n l)))
      go false e false l =
          let other = eqb-false k n e in
          let past = ltb-false k n l in
          put_other (ungranted_to n r f) n _ k other ∙ same_past n r f k past ∙ sym (same_past (n + 1) r f k (omega arith))

-- one permission more
pub grants-more : (n r : ℕ) (m now after : Model) → n < 4096 → now ≡ so_far n r m → after ≡ in_range 4096 n now (ungranted now n r) → after ≡ so_far (n + 1) r m
grants-more n r m now after h is e =
    e ∙ in-range 4096 n now _ h ∙ ap (λ (x : Model). ungranted x n r) is ∙
    ap₂ (with_grants m) (fun_ext (step_at n r m.holders))
    (ap (λ (x : ℕ). m.grant_count - holding n m.holders r - bit (has x r)) (same_past n r m.holders n (omega arith)) ∙ omega (arith, tally-step n (λ k. has (m.holders k) r)))

-- past the last permission there are no grants
pub grants-end : (r : ℕ) (l : List ℕ) → so_far 4096 r (view l) ≡ all_ungranted (view l) r
unfolding view
grants-end r l = ap (λ (f : ℕ → ℕ). with_grants (view l) f ((view l).grant_count - holding 4096 (view l).holders r)) (fun_ext (λ k. go k (ltb k 4096) refl))
  where
    go : (k : ℕ) (b : Bool) → ltb k 4096 ≡ b → ungranted_to 4096 r (view l).holders k ≡ without ((view l).holders k) r
    go k true e = done_below 4096 r (view l).holders k (ltb-true k 4096 e)
    go k false e =
        let past = part_none l 0 4096 k (ltb-false k 4096 e) in
        same_past 4096 r (view l).holders k (ltb-false k 4096 e) ∙ past ∙ sym (without-none r) ∙ ap (λ (x : ℕ). without x r) (sym past)
