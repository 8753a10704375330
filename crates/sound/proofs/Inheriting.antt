-- `inherit` keeps a model sound. Assumes nothing.
use mathlib.Core.Bool.{true, false, not}
use mathlib.Core.Logic.{◌⊎◌, inl, inr, ◌↔◌}
use mathlib.Core.Path.{◌≡◌, refl, subst}
use Prim.Native.Nat.{ℕ, ◌+◌, ◌≤◌, ◌<◌}
use native.Mathlib.Omega.{arith}
use native.Mathlib.Decide.{dec_lt}
use lib.Dec.{leb}
use borrow.Author.Tests.{leb-false, not-false}
use Rattle.roleset.specs.Bounded.{some}
use Rattle.roleset.specs.Roles.{has, with, none}
use Rattle.roleset.proofs.BoundedLaws.{clash, some-false}
use Rattle.roleset.proofs.Laws.{has-none}
use Rattle.hierarchy.specs.Lines.{Acyclic, AtOrAbove}
use Rattle.hierarchy.specs.Walks.{reach}
use Rattle.hierarchy.proofs.InheritsLaws.{add_acyclic}
use Rattle.hierarchy.proofs.WalkLaws.{reach_sound, reach_complete}
use Rattle.model.specs.Model.{Model, put, standing}
use Rattle.model.specs.Words.{breaks_some, static_broken, dynamic_broken, lines_standing}
use Rattle.model.specs.Sound.{Shape, Sound}
use Rattle.model.specs.commands.Inheriting.{lined, would_circle, inherit}
use Rattle.sound.proofs.Sheet.{kept}
use Rattle.sound.proofs.Put.{put_all}
use Rattle.sound.proofs.Members.{or_no, with-new, with-member}
use Rattle.sound.proofs.Counting.{one_more}
use Rattle.sound.proofs.Breaking.{none-held}
use Rattle.sound.proofs.Carried.{existing_at, old_at, new_at, lines_small, nobody_assigned, no_user_beyond, nothing-reached}
use Rattle.sound.proofs.Changing.{lines_changed}
use Rattle.sound.proofs.Counted.{dynamic-beyond}

-- "equal, or the junior inherits the senior": what `inherit` asks is that.
pub circle-exact : (m : Model) → Sound m → (senior junior : ℕ) → junior < 64 → (would_circle m senior junior ≡ true) ↔ AtOrAbove m.juniors junior senior
circle-exact m s senior junior small = (to, back)
  where
    from : ℕ
    from = with none junior

    to : would_circle m senior junior ≡ true → AtOrAbove m.juniors junior senior
    to e = let u = reach_sound m.juniors from senior e in start u.role (with-member none junior u.role u.member).1 u.down
      where
        start : (a : ℕ) → (has none a ≡ true) ⊎ (a ≡ junior) → AtOrAbove m.juniors a senior → AtOrAbove m.juniors junior senior
        start a (inl h) d = clash (has none a) h (has-none a)
        start a (inr p) d = subst (λ (x : ℕ). AtOrAbove m.juniors x senior) p d

    back : AtOrAbove m.juniors junior senior → would_circle m senior junior ≡ true
    back d = reach_complete m.juniors from (lines_small m s.shape) senior (record { role = junior; small = small; member = with-new none junior small; down = d })

-- A line between two roles that makes no circle leaves none.
lined-acyclic : (m : Model) → Sound m → (senior junior : ℕ) → junior < 64 → would_circle m senior junior ≡ false → Acyclic (lined m senior junior).juniors
unfolding lined
lined-acyclic m s senior junior small e = add_acyclic (new_at m m.juniors senior junior s.shape.juniors) (λ d. clash (would_circle m senior junior) ((circle-exact m s senior junior small).1 d) e) s.rules.acyclic

-- A number that is no user's breaks no static rule, whatever the lines.
pub static-beyond : (m : Model) → Shape m → (lines : ℕ → ℕ) (u : ℕ) → 256 ≤ u → breaks_some m.ssd (reach lines (m.assigned u)) ≡ false
static-beyond m x lines u l = none-held m.ssd (reach lines (m.assigned u)) (λ n. (x.ssd n).at_least) (nothing-reached lines (m.assigned u) (nobody_assigned m x u (no_user_beyond m x u l)))

-- `inherit senior junior` keeps a sound model sound.
pub inherit-sound : (m : Model) (senior junior : ℕ) → Sound m → Sound (inherit m senior junior).after
unfolding inherit lined static_broken dynamic_broken lines_standing
inherit-sound m senior junior s =
    kept Sound _ m _ _ refl s (λ c.
    let range = or_no (leb 64 senior) (leb 64 junior) c.0 in
    let there = or_no (not (has m.roles senior)) (not (has m.roles junior)) c.1.0 in
    let small : junior < 64 = leb-false 64 junior range.1 in
    let above : has m.roles senior ≡ true = not-false (has m.roles senior) there.0 in
    let new : ℕ → ℕ = put m.juniors senior (with (m.juniors senior) junior) in
    let more : m.line_count + 1 ≡ standing 64 new = omega (arith, s.counted.lined, one_more 64 m.juniors senior junior (leb-false 64 senior range.0) small c.1.1.0) in
    let room : m.line_count < 512 = leb-false 512 m.line_count c.1.1.1.1.1.1.0 in
    lines_changed m s new (m.line_count + 1)
    (old_at m m.juniors senior junior s.shape.juniors)
    (put_all (λ k set. (j : ℕ) → has set j ≡ true → has m.roles k ≡ true) m.juniors senior (with (m.juniors senior) junior) (λ j e. above) (λ k d j e. s.shape.seniors k j e))
    (existing_at m m.juniors senior junior s.shape.juniors (not-false (has m.roles junior) there.1))
    more
    (omega arith)
    (lined-acyclic m s senior junior small c.1.1.1.0)
    (λ u. for_all u c.1.1.1.1.0 (dec_lt u 256))
    (λ k. in_all k c.1.1.1.1.1.0 (dec_lt k 64)))
  where
    for_all : (u : ℕ) → some 256 (static_broken (lined m senior junior)) ≡ false → Dec (u < 256) → static_broken (lined m senior junior) u ≡ false
    for_all u e (yes l) = some-false 256 (static_broken (lined m senior junior)) e u l
    for_all u e (no l) = static-beyond m s.shape (lined m senior junior).juniors u (omega arith)

    in_all : (k : ℕ) → some 64 (dynamic_broken (lined m senior junior)) ≡ false → Dec (k < 64) → dynamic_broken (lined m senior junior) k ≡ false
    in_all k e (yes l) = some-false 64 (dynamic_broken (lined m senior junior)) e k l
    in_all k e (no l) = dynamic-beyond m s.shape (lined m senior junior).juniors (m.line_count + 1) k (omega arith)
