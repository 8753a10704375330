-- A separation rule is computed to be broken exactly where it is, in the paper's words; one law for both kinds. Assumes nothing.
use mathlib.Core.Bool.{Bool, true, false}
use mathlib.Core.List.{List, [], ◌∷◌, Memᴰ}
use mathlib.Core.Logic.{◌⊎◌, inl, inr, ◌↔◌}
use mathlib.Core.Path.{◌≡◌, refl}
use Prim.Native.Nat.{ℕ, ◌≤◌, ◌<◌, ◌^◌}
use native.Mathlib.Omega.{arith}
use native.Mathlib.Decide.{dec_lt}
use lib.ListN.{length}
use Rattle.roleset.specs.Bounded.{some}
use Rattle.roleset.specs.Roles.{has, common, count}
use Rattle.roleset.proofs.BoundedLaws.{clash, some-intro, some-elim}
use Rattle.roleset.proofs.Laws.{member-small, common-small}
use Rattle.hierarchy.proofs.WalkLaws.{reach_small}
use Rattle.model.specs.Model.{Model, RoleSet, Session, with_sessions}
use Rattle.model.specs.Words.{authorised, counted, breaks, breaks_some, static_broken, dynamic_broken}
use Rattle.model.specs.Sound.{Existing, Shape, Sound}
use Rattle.model.specs.declared.Kind.{Kind}
use Rattle.model.specs.declared.Kind.TheVariants.{Static, Dynamic}
use Rattle.sound.proofs.Breaking.{breaks-exact, some-breaks}
use Rattle.sound.proofs.Counted.{counted-small, none-counted-beyond}
use Rattle.sound.proofs.Members.{common-member, common-intro}
use Rattle.sound.proofs.Words.{InOrBelow, reached-exact}
use Rattle.demands.specs.Authorised.{Authorised, Effective}
use Rattle.demands.specs.Broken.{Broken, StaticBroken, DynamicBroken}
use Rattle.demands.specs.Demand2.{would_break}
use Rattle.demands.specs.Many.{AsMany}
use Rattle.demands.proofs.Counts.{many-in}
use Rattle.demands.proofs.Many.{many-map}

-- Of more than none there is one.
pub many-some : {n : ℕ} {P : ℕ → Type 0} → 0 < n → AsMany n P → (a : ℕ) × P a
many-some {n} {P} h x = go x.list x.long x.each
  where
    go : (list : List ℕ) → length list ≡ n → ((a : ℕ) → Memᴰ a list → P a) → (a : ℕ) × P a
    go [] e f = absurd (omega arith)
    go (a ∷ rest) e f = (a, f a (Memᴰ.head refl))

-- the roles that each of n people or sessions holds are computed as they are said, and nobody beyond holds one; the sets have their names and
-- a cardinality
module _ (n : ℕ) (sets : ℕ → RoleSet) (held : ℕ → ℕ) (Holds : ℕ → ℕ → Type 0) (small : (i : ℕ) → held i < 2 ^ 64) (exact : (i r : ℕ) → (has (held i) r ≡ true) ↔ Holds i r) (nobody : (i r : ℕ) → n ≤ i → Holds i r → ⊥) (named : (name : ℕ) → (sets name).there ≡ true → name < 16) (above : (name : ℕ) → (sets name).there ≡ true → 0 < (sets name).card) where
  found : (i name : ℕ) → breaks (sets name) (held i) ≡ true → Broken sets Holds
  found i name e =
      let b = (breaks-exact (sets name) (held i)).0 e in
      record {
        who = i;
        name = name;
        there = b.0;
        many = many-map (λ r h. let c = common-member (sets name).roles (held i) r h in (c.1, (exact i r).0 c.2)) ((many-in (sets name).card (common (sets name).roles (held i)) (common-small (sets name).roles (held i))).0 b.1);
      }

  breaks_so : (b : Broken sets Holds) → breaks (sets b.name) (held b.who) ≡ true
  breaks_so b =
      let shared = many-map (λ r h. let e = (exact b.who r).1 h.1 in common-intro (sets b.name).roles (held b.who) r (member-small (held b.who) r (small b.who) e) h.0 e) b.many in
      (breaks-exact (sets b.name) (held b.who)).1 (b.there, (many-in (sets b.name).card (common (sets b.name).roles (held b.who)) (common-small (sets b.name).roles (held b.who))).1 shared)

  pub broken_exact : (some n (λ i. breaks_some sets (held i)) ≡ true) ↔ Broken sets Holds
  unfolding breaks_some
  broken_exact = (to, back)
    where
      to : some n (λ i. breaks_some sets (held i)) ≡ true → Broken sets Holds
      to e =
          let i = some-elim n (λ i. breaks_some sets (held i)) e in
          let name = some-elim 16 (λ k. breaks (sets k) (held i.0)) i.2 in
          found i.0 name.0 name.2

      back : Broken sets Holds → some n (λ i. breaks_some sets (held i)) ≡ true
      back b = some-intro n (λ i. breaks_some sets (held i)) b.who (within (dec_lt b.who n)) (some-breaks sets (held b.who) b.name (named b.name b.there) (breaks_so b))
        where
          within : Dec (b.who < n) → b.who < n
          within (yes l) = l
          within (no l) = let one = many-some (above b.name b.there) b.many in absurd (nobody b.who one.0 (omega arith) one.1.1)

-- ---- of a policy, whether or not it breaks a rule

-- The computed set of the roles that a user is authorised for is what the paper's sentence says.
pub authorises : (m : Model) → Shape m → (u r : ℕ) → (has (authorised m u) r ≡ true) ↔ Authorised m u r
authorises m x u r =
    let e = reached-exact m x (m.assigned u) (x.assigned u) r in
    ((λ h. let p = e.0 h in record { exists = p.0; through = p.1 }), (λ a. e.1 (a.exists, a.through)))

-- Nobody beyond 255 is authorised for a role.
nobody-beyond : (m : Model) → Shape m → (u r : ℕ) → 256 ≤ u → Authorised m u r → ⊥
nobody-beyond m x u r l a = go a.through
  where
    go : InOrBelow m (m.assigned u) r → ⊥
    go (inl h) = let small = x.users u (x.assignees u r h) in omega arith
    go (inr q) = let small = x.users u (x.assignees u q.0 q.1) in omega arith

-- The computed set of the roles that a dynamic set counts of a session is what the words say, whatever the sessions.
pub counts : (m : Model) → Shape m → (sessions : ℕ → Session) (s : ℕ) → Existing m (sessions s).active → (r : ℕ) → (has (counted (with_sessions m sessions) s) r ≡ true) ↔ Effective (with_sessions m sessions) s r
counts m x sessions s existing r =
    let e = reached-exact m x (sessions s).active existing r in
    ((λ h. let p = e.0 h in record { exists = p.0; through = p.1 }), (λ a. e.1 (a.exists, a.through)))

two-above : {n : ℕ} → 2 ≤ n → 0 < n
two-above h = omega arith

pub static-exact : (m : Model) → Shape m → (would_break Static m ≡ true) ↔ StaticBroken m
unfolding static_broken
static-exact m x = broken_exact 256 m.ssd (authorised m) (Authorised m) (λ u. reach_small m.juniors (m.assigned u)) (authorises m x) (nobody-beyond m x) (λ name. (x.ssd name).named) (λ name t. two-above ((x.ssd name).at_least t))

pub dynamic-exact : (m : Model) → Shape m → (would_break Dynamic m ≡ true) ↔ DynamicBroken m
unfolding dynamic_broken
dynamic-exact m x = broken_exact 64 m.dsd (counted m) (Effective m) (counted-small m) (λ s. counts m x m.sessions s (x.sessions s).active) (λ s r l h. clash (has (counted m s) r) ((counts m x m.sessions s (x.sessions s).active r).1 h) (none-counted-beyond m x m.juniors m.line_count s l r)) (λ name. (x.dsd name).named) (λ name t. two-above ((x.dsd name).at_least t))
