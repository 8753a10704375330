-- `assign`, `grant` and `revoke` keep a model sound. Assumes nothing.
use mathlib.Core.Bool.{true, false, not, ◌||◌}
use mathlib.Core.Path.{◌≡◌, refl, subst}
use Prim.Native.Nat.{ℕ, ◌+◌, ◌-◌, ◌≤◌, ◌<◌}
use native.Mathlib.Omega.{arith}
use lib.Dec.{leb}
use borrow.Author.Tests.{leb-false, not-false}
use Rattle.roleset.specs.Roles.{has, with, without}
use Rattle.hierarchy.specs.Walks.{reach}
use Rattle.model.specs.Model.{Model, put, standing}
use Rattle.model.specs.Words.{breaks_some, static_broken, permission, assignments, grants}
use Rattle.model.specs.Sound.{Existing, Sound}
use Rattle.model.specs.commands.Assigning.{assigned, assign, granted, grant, revoked, revoke}
use Rattle.sound.proofs.Sheet.{kept}
use Rattle.model.proofs.Puts.{put_same}
use Rattle.sound.proofs.Put.{put_all}
use Rattle.sound.proofs.Members.{or_no, fewer-at}
use Rattle.sound.proofs.Counting.{one_more, one_less}
use Rattle.sound.proofs.Carried.{existing-without, existing_at, old_at}
use Rattle.sound.proofs.Changing.{assigned_changed, holders_changed}

-- `assign u r` keeps a sound model sound.
pub assign-sound : (m : Model) (u r : ℕ) → Sound m → Sound (assign m u r).after
unfolding assign assigned static_broken assignments
assign-sound m u r s =
    kept Sound _ m _ _ refl s (λ c.
    let range = or_no (leb 256 u) (leb 64 r) c.0 in
    let there = or_no (not (m.users u)) (not (has m.roles r)) c.1.0 in
    let user : m.users u ≡ true = not-false (m.users u) there.0 in
    let new : ℕ → ℕ = put m.assigned u (with (m.assigned u) r) in
    let more : m.assignment_count + 1 ≡ standing 256 new = omega (arith, s.counted.assigned, one_more 256 m.assigned u r (leb-false 256 u range.0) (leb-false 64 r range.1) c.1.1.0) in
    let room : m.assignment_count < 2048 = leb-false 2048 m.assignment_count c.1.1.1.1.0 in
    assigned_changed m s new (m.assignment_count + 1)
    (old_at m m.assigned u r s.shape.assigned)
    (put_all (λ k set. (j : ℕ) → has set j ≡ true → m.users k ≡ true) m.assigned u (with (m.assigned u) r) (λ j e. user) (λ k d j e. s.shape.assignees k j e))
    (existing_at m m.assigned u r s.shape.assigned (not-false (has m.roles r) there.1))
    more
    (omega arith)
    (put_all (λ k set. breaks_some m.ssd (reach m.juniors set) ≡ false) m.assigned u (with (m.assigned u) r) (subst (λ (set : ℕ). breaks_some m.ssd (reach m.juniors set) ≡ false) (put_same m.assigned u (with (m.assigned u) r)) c.1.1.1.0) (λ k d. s.rules.static k)))

-- `grant op obj r` keeps a sound model sound.
pub grant-sound : (m : Model) (op obj r : ℕ) → Sound m → Sound (grant m op obj r).after
unfolding grant granted grants
grant-sound m op obj r s =
    kept Sound _ m _ _ refl s (λ c.
    let p : ℕ = permission op obj in
    let range = or_no (leb 16 op || leb 256 obj) (leb 64 r) c.0 in
    let operation = or_no (leb 16 op) (leb 256 obj) range.0 in
    let small : p < 4096 = omega (arith, leb-false 16 op operation.0, leb-false 256 obj operation.1) in
    let new : ℕ → ℕ = put m.holders p (with (m.holders p) r) in
    let more : m.grant_count + 1 ≡ standing 4096 new = omega (arith, s.counted.granted, one_more 4096 m.holders p r small (leb-false 64 r range.1) c.1.1.0) in
    let room : m.grant_count < 2048 = leb-false 2048 m.grant_count c.1.1.1.0 in
    holders_changed m s new (m.grant_count + 1)
    (put_all (λ k set. (j : ℕ) → has set j ≡ true → k < 4096) m.holders p (with (m.holders p) r) (λ j e. small) (λ k d j e. s.shape.permissions k j e))
    (existing_at m m.holders p r s.shape.holders (not-false (has m.roles r) c.1.0))
    more
    (omega arith))

-- `revoke op obj r` keeps a sound model sound.
pub revoke-sound : (m : Model) (op obj r : ℕ) → Sound m → Sound (revoke m op obj r).after
unfolding revoke revoked grants
revoke-sound m op obj r s =
    kept Sound _ m _ _ refl s (λ c.
    let p : ℕ = permission op obj in
    let range = or_no (leb 16 op || leb 256 obj) (leb 64 r) c.0 in
    let operation = or_no (leb 16 op) (leb 256 obj) range.0 in
    let small : p < 4096 = omega (arith, leb-false 16 op operation.0, leb-false 256 obj operation.1) in
    let new : ℕ → ℕ = put m.holders p (without (m.holders p) r) in
    let less : m.grant_count - 1 ≡ standing 4096 new = omega (arith, s.counted.granted, one_less 4096 m.holders p r small (leb-false 64 r range.1) (not-false (has (m.holders p) r) c.1.1.0)) in
    let before : standing 4096 m.holders ≤ 2048 = s.limits.granted in
    holders_changed m s new (m.grant_count - 1)
    (λ k j e. s.shape.permissions k j (fewer-at m.holders p r k j e))
    (put_all (λ k set. Existing m set) m.holders p (without (m.holders p) r) (existing-without m (m.holders p) r (s.shape.holders p)) (λ k d. s.shape.holders k))
    less
    (omega (arith, s.counted.granted)))
