-- Demand 3 holds. Assumes nothing.
use mathlib.Core.Bool.{Bool, true, false}
use mathlib.Core.List.{List, [], ◌∷◌}
use mathlib.Core.Logic.{◌⊎◌, inl, inr}
use mathlib.Core.Path.{◌≡◌, refl, sym, ap, ◌∙◌}
use Prim.Native.Nat.{ℕ, zero, suc, ◌<◌}
use native.Mathlib.Omega.{arith}
use Rattle.roleset.specs.Bounded.{bit, some}
use Rattle.roleset.specs.Roles.{has}
use Rattle.roleset.proofs.BoundedLaws.{clash, some-none}
use Rattle.hierarchy.specs.Lines.{Inherits, one, more}
use Rattle.hierarchy.proofs.InheritsLaws.{trans}
use Rattle.hierarchy.proofs.CircleLaws.{chain_circle}
use Rattle.model.specs.Model.{Model}
use Rattle.model.specs.Sheet.{Told, Refusal, done, verdict, settle}
use Rattle.model.specs.Sound.{Sound}
use Rattle.model.specs.Sound as sound
use Rattle.model.specs.Words.{permission, static_broken, dynamic_broken}
use Rattle.model.specs.commands.Sets.{sets_of}
use Rattle.model.specs.commands.Sessions.{check, permitted}
use Rattle.sound.proofs.Carried.{lines_small, role_small, member-there, closed_idle}
use Rattle.sound.proofs.Sets.{shape_of}
use Rattle.sound.proofs.Sheet.{settle-done, settle-refused}
use Rattle.sound.proofs.Words.{effective-exact, permitted-exact, sessions-limit}
use Rattle.demands.specs.Authorised.{Authorised, Effective, InOrBelow}
use Rattle.demands.specs.Demand3.{Demand3, Rules, Through, Shape, Limits}
use Rattle.demands.proofs.Broken.{authorises, static-exact, dynamic-exact}
use Rattle.demands.proofs.Counts.{many-in, assignments_many, grants_many, lines_many, sessions_many}
use Rattle.demands.proofs.Kept.{reachable-sound}

-- ---- a result is given only when the answer is 0

bit-yes : (b : Bool) → bit b ≡ 1 → b ≡ true
bit-yes true e = refl
bit-yes false e = absurd (omega arith)

first : List ℕ → ℕ
first [] = 0
first (a ∷ rest) = a

result-yes : (rs : List Refusal) (m after : Model) (b : Bool) (rest others : List ℕ) → settle rs m (bit b ∷ rest) after ≡ done (1 ∷ others) after → b ≡ true
unfolding first
result-yes rs m after b rest others e = go (verdict rs) refl
  where
    told : first (settle rs m (bit b ∷ rest) after).results ≡ 1
    told = ap (λ (x : Told). first x.results) e

    go : (n : ℕ) → verdict rs ≡ n → b ≡ true
    go zero p = bit-yes b (sym (ap (λ (x : Told). first x.results) (settle-done rs m (bit b ∷ rest) after p)) ∙ told)
    go (suc n) p = absurd (let z : 0 ≡ 1 = sym (ap (λ (x : Told). first x.results) (settle-refused rs m (bit b ∷ rest) after (λ q. omega arith))) ∙ told in omega arith)

-- ---- a role below one that the owner is authorised for is one that the owner is authorised for

below : (m : Model) (set a r : ℕ) → InOrBelow m set a → Inherits m.juniors a r → InOrBelow m set r
below m set a r (inl h) p = inr (a, h, p)
below m set a r (inr q) p = inr (q.0, q.1, trans q.2 p)

pub rules : (m : Model) → Sound m → Rules m
unfolding check
rules m s = record { circles = s.rules.acyclic.never; active = active; access = access; static = unbroken 256 (static_broken m) (static-exact m s.shape).1 s.rules.static; dynamic = unbroken 64 (dynamic_broken m) (dynamic-exact m s.shape).1 s.rules.dynamic; chains = λ r c. let x = chain_circle m.juniors (lines_small m s.shape) _ (omega arith) c in s.rules.acyclic.never x.0 x.1 }
  where
    unbroken : (n : ℕ) (test : ℕ → Bool) {Broken : Type 0} → (Broken → some n test ≡ true) → ((i : ℕ) → test i ≡ false) → Broken → ⊥
    unbroken n test shown never b = clash (some n test) (shown b) (some-none n test (λ i l. never i))

    active : (k r : ℕ) → has (m.sessions k).active r ≡ true → Authorised m (m.sessions k).owner r
    active k r h = (authorises m s.shape (m.sessions k).owner r).0 (s.rules.active k r h)

    owned : (k r : ℕ) → Effective m k r → Authorised m (m.sessions k).owner r
    owned k r e = record { exists = e.exists; through = side e.through }
      where
        side : InOrBelow m (m.sessions k).active r → InOrBelow m (m.assigned (m.sessions k).owner) r
        side (inl h) = (active k r h).through
        side (inr q) = below m (m.assigned (m.sessions k).owner) q.0 r (active k q.0 q.1).through q.2

    access : (k op obj n : ℕ) → check m k op obj ≡ done (1 ∷ n ∷ []) m → Through m k (permission op obj)
    access k op obj n e =
        let found = (permitted-exact m k (permission op obj)).0 (result-yes _ m m (permitted m k (permission op obj)) _ _ e) in
        let p = (effective-exact m s k found.0).0 found.1 in
        let reached : Effective m k found.0 = record { exists = p.0; through = p.1 } in
        record { role = found.0; effective = reached; holds = found.2; authorised = owned k found.0 reached }

-- ---- the shape and the limits

shaped : (m : Model) → Sound m → Shape m
shaped m s =
    record {
      users = λ u e. let l = x.users u e in omega arith;
      roles = λ r e. let l = role_small m x r e in omega arith;
      sessions = λ k e. let l = (x.sessions k).numbered e in omega arith;
      sets = λ kind name e. let l = (shape_of kind m x name).named e in omega arith;
      permissions = λ p r e. let l = x.permissions p r e in omega arith;
      lines = λ a b e. (x.seniors a b e, (x.juniors a).exist b e);
      assignments = λ u r e. (x.assignees u r e, (x.assigned u).exist r e);
      grants = λ p r e. (x.holders p).exist r e;
      members = λ kind name r e. (member-there m name (sets_of kind m name) r (shape_of kind m x name) e, (shape_of kind m x name).members.exist r e);
      actives = λ k r e. (is_open k r e, (x.sessions k).active.exist r e);
      owners = λ k e. (x.sessions k).owned e;
      at_least = λ kind name e. (shape_of kind m x name).at_least e;
      at_most = λ kind name e. (many-in (sets_of kind m name).card (sets_of kind m name).roles (shape_of kind m x name).members.small).0 ((shape_of kind m x name).at_most e);
      absent = λ kind name e. (shape_of kind m x name).absent e;
      closed = λ k e. (x.sessions k).closed e;
    }
  where
    x : sound.Shape m
    x = s.shape

    is_open : (k r : ℕ) → has (m.sessions k).active r ≡ true → (m.sessions k).live ≡ true
    is_open k r h = go (m.sessions k).live refl
      where
        go : (b : Bool) → (m.sessions k).live ≡ b → (m.sessions k).live ≡ true
        go true e = e
        go false e = clash (has (m.sessions k).active r) h (closed_idle m x k e r)

limited : (m : Model) → Sound m → Limits m
limited m s =
    record {
      assignments = λ many. let c = (assignments_many m s.shape 2049).1 many in let most = s.limits.assigned in omega arith;
      grants = λ many. let c = (grants_many m s.shape 2049).1 many in let most = s.limits.granted in omega arith;
      lines = λ many. let c = (lines_many m s.shape 513).1 many in let most = s.limits.lined in omega arith;
      sessions = λ many. let c = (sessions_many m s.shape 65).1 many in let most = sessions-limit m in omega arith;
    }

-- no role inherits itself; every active role is one its owner is authorised for, and access goes only through such a role; the separation rules
-- hold; all that is named exists, and no table has more than its limit
pub demand3 : Demand3
demand3 = record { rules = λ m p. rules m (reachable-sound p); shape = λ m p. shaped m (reachable-sound p); limits = λ m p. limited m (reachable-sound p) }
