-- What the rules of a load compute is what the paper says of the file's policy. Assumes nothing.
use mathlib.Core.Bool.{Bool, true, false, not, ◌&&◌, ◌||◌}
use mathlib.Core.List.{List, [], ◌∷◌}
use mathlib.Core.Logic.{◌⊎◌, inl, inr, ◌↔◌}
use mathlib.Core.Path.{◌≡◌, refl, ap, ◌∙◌}
use Prim.Native.Nat.{ℕ, ◌≤◌, ◌<◌, ◌^◌}
use native.Mathlib.Decide.{dec_lt}
use native.Mathlib.Omega.{arith}
use lib.Dec.{ltb}
use lib.ListN.{length}
use borrow.Author.Tests.{ltb-true, lt-ltb}
use Rattle.roleset.specs.Bounded.{some}
use Rattle.roleset.specs.Roles.{has, subset, common, count, none}
use Rattle.roleset.proofs.BoundedLaws.{clash, never, not_yes, yes-not, and_left, and_right, and_both, or_cases, or_left, or_right, some-elim, some-intro}
use Rattle.roleset.proofs.Laws.{has-none, member-small, subset-true, subset-false}
use Rattle.hierarchy.specs.Walks.{circular}
use Rattle.hierarchy.proofs.CircleLaws.{circular_sound, circular_complete}
use Rattle.hierarchy.proofs.WalkLaws.{reach_small}
use Rattle.model.specs.Model.{Model, RoleSet, Session}
use Rattle.model.specs.Words.{authorised, counted, breaks, breaks_some, static_broken, dynamic_broken}
use Rattle.model.specs.commands.Sets.{sets_of, bad_cardinality}
use Rattle.model.specs.declared.Kind.{Kind}
use Rattle.model.specs.declared.Kind.TheVariants.{Static, Dynamic}
use Rattle.policyform.specs.Form.{SetForm, Formed}
use Rattle.policyform.specs.Rules.{bad_set, unauthorised}
use Rattle.demands.specs.Authorised.{InOrBelow, Authorised, Effective}
use Rattle.sound.proofs.Counted.{counted-small}
use Rattle.demands.specs.Broken.{StaticBroken, DynamicBroken}
use Rattle.demands.specs.Many.{AsMany}
use Rattle.demands.proofs.Broken.{broken_exact}
use Rattle.demands.proofs.Counts.{many-in}
use Rattle.policyform.proofs.Lines.{formed-lines}
use Rattle.fileanswers.specs.Loading.{Circle, BadCardinality, NotAuthorised, Asked}
use Rattle.fileanswers.proofs.Bare.{authorised-formed, effective-formed}

module _ (m : Model) (f : Formed m) where
  -- ---- 6

  pub circle_says : (circular m.juniors ≡ true) ↔ Circle m
  circle_says = ((λ e. let q = circular_sound m.juniors e in record { role = q.0; itself = q.1 }), (λ x. circular_complete m.juniors (formed-lines m f) x.role x.itself))

  -- ---- 7

  set_form : (kind : Kind) (n : ℕ) → SetForm m n (sets_of kind m n)
  set_form Static n = f.ssd n
  set_form Dynamic n = f.dsd n

  bad_found : (kind : Kind) → bad_set (sets_of kind m) ≡ true → BadCardinality m
  unfolding bad_set
  bad_found kind e = record { kind = kind; name = q.0; there = and_left _ _ q.2; bad = go (or_cases _ _ (and_right (sets_of kind m q.0).there _ q.2)) }
    where
      q : (n : ℕ) × (n < 16) × (((sets_of kind m n).there && bad_cardinality (sets_of kind m n).card (sets_of kind m n).roles) ≡ true)
      q = some-elim 16 (λ n. (sets_of kind m n).there && bad_cardinality (sets_of kind m n).card (sets_of kind m n).roles) e

      go : (ltb (sets_of kind m q.0).card 2 ≡ true) ⊎ (ltb (count (sets_of kind m q.0).roles) (sets_of kind m q.0).card ≡ true) → ((sets_of kind m q.0).card < 2) ⊎ (AsMany (sets_of kind m q.0).card (λ r. has (sets_of kind m q.0).roles r ≡ true) → ⊥)
      go (inl h) = inl (ltb-true (sets_of kind m q.0).card 2 h)
      go (inr h) = inr (λ a. let few = ltb-true (count (sets_of kind m q.0).roles) (sets_of kind m q.0).card h in omega (arith, (many-in (sets_of kind m q.0).card (sets_of kind m q.0).roles (set_form kind q.0).members.small).1 a))

  found_bad : (kind : Kind) (n : ℕ) → (sets_of kind m n).there ≡ true → ((sets_of kind m n).card < 2) ⊎ (AsMany (sets_of kind m n).card (λ r. has (sets_of kind m n).roles r ≡ true) → ⊥) → bad_set (sets_of kind m) ≡ true
  unfolding bad_set
  found_bad kind n there bad = some-intro 16 (λ n. (sets_of kind m n).there && bad_cardinality (sets_of kind m n).card (sets_of kind m n).roles) n ((set_form kind n).named there) (and_both (sets_of kind m n).there _ there (go (sets_of kind m n) (set_form kind n).members.small bad))
    where
      go : (set : RoleSet) → set.roles < 2 ^ 64 → (set.card < 2) ⊎ (AsMany set.card (λ r. has set.roles r ≡ true) → ⊥) → bad_cardinality set.card set.roles ≡ true
      go set small (inl h) = or_left (ltb set.card 2) _ (lt-ltb set.card 2 h)
      go set small (inr h) = or_right (ltb set.card 2) _ (decide (dec_lt (count set.roles) set.card))
        where
          decide : Dec (count set.roles < set.card) → ltb (count set.roles) set.card ≡ true
          decide (yes few) = lt-ltb (count set.roles) set.card few
          decide (no enough) = absurd (h ((many-in set.card set.roles small).0 (omega arith)))

  pub cardinality_says : ((bad_set m.ssd || bad_set m.dsd) ≡ true) ↔ BadCardinality m
  cardinality_says = ((λ e. to (or_cases (bad_set m.ssd) (bad_set m.dsd) e)), (λ x. back x.kind (found_bad x.kind x.name x.there x.bad)))
    where
      to : (bad_set m.ssd ≡ true) ⊎ (bad_set m.dsd ≡ true) → BadCardinality m
      to (inl e) = bad_found Static e
      to (inr e) = bad_found Dynamic e

      back : (kind : Kind) → bad_set (sets_of kind m) ≡ true → (bad_set m.ssd || bad_set m.dsd) ≡ true
      back Static e = or_left (bad_set m.ssd) (bad_set m.dsd) e
      back Dynamic e = or_right (bad_set m.ssd) (bad_set m.dsd) e

  -- where no cardinality is bad, it is at least 2
  at_least : (BadCardinality m → ⊥) → (kind : Kind) (n : ℕ) → (sets_of kind m n).there ≡ true → 0 < (sets_of kind m n).card
  at_least fine kind n e = go (dec_lt (sets_of kind m n).card 2)
    where
      go : Dec ((sets_of kind m n).card < 2) → 0 < (sets_of kind m n).card
      go (yes h) = absurd (fine (record { kind = kind; name = n; there = e; bad = inl h }))
      go (no h) = omega arith

  -- ---- 9

  live_active : (s r : ℕ) → has (m.sessions s).active r ≡ true → (m.sessions s).live ≡ true
  live_active s r h = go (m.sessions s).live refl
    where
      go : (b : Bool) → (m.sessions s).live ≡ b → (m.sessions s).live ≡ true
      go true e = e
      go false e = clash (has (m.sessions s).active r) h (ap (λ (x : Session). has x.active r) ((f.sessions s).closed e) ∙ has-none r)

  pub owner_says : (unauthorised m ≡ true) ↔ NotAuthorised m
  unfolding unauthorised
  owner_says = (to, back)
    where
      test : ℕ → Bool
      test s = not (subset (m.sessions s).active (authorised m (m.sessions s).owner))

      exact : (u r : ℕ) → (has (authorised m u) r ≡ true) ↔ Authorised m u r
      exact = authorised-formed m f

      to : unauthorised m ≡ true → NotAuthorised m
      to e =
          let q = some-elim 64 test e in
          let u = (m.sessions q.0).owner in
          let k = subset-false (m.sessions q.0).active (authorised m u) (yes-not _ q.2) in
          record { session = q.0; role = k.0; live = live_active q.0 k.0 k.2; active = k.2; not_authorised = λ a. clash (has (authorised m u) k.0) ((exact u k.0).1 a) k.3 }

      back : NotAuthorised m → unauthorised m ≡ true
      back x =
          let u = (m.sessions x.session).owner in
          some-intro 64 test x.session ((f.sessions x.session).numbered x.live) (not_yes _ (never _ (λ t. x.not_authorised ((exact u x.role).0 (subset-true (m.sessions x.session).active (authorised m u) t x.role (member-small (m.sessions x.session).active x.role (f.sessions x.session).active.small x.active) x.active)))))

  -- ---- 10

  nobody_beyond : (u r : ℕ) → 256 ≤ u → Authorised m u r → ⊥
  nobody_beyond u r l a = go a.through
    where
      go : InOrBelow m (m.assigned u) r → ⊥
      go (inl h) = let small = f.users u (f.assignees u r h) in omega arith
      go (inr q) = let small = f.users u (f.assignees u q.0 q.1) in omega arith

  pub static_says : (BadCardinality m → ⊥) → (some 256 (static_broken m) ≡ true) ↔ StaticBroken m
  unfolding static_broken
  static_says fine = broken_exact 256 m.ssd (authorised m) (Authorised m) (λ u. reach_small m.juniors (m.assigned u)) (authorised-formed m f) nobody_beyond (λ name. (f.ssd name).named) (at_least fine Static)

  -- ---- 11

  -- no session past 63 has an effective role
  effective_live : (s r : ℕ) → 64 ≤ s → Effective m s r → ⊥
  effective_live s r l e = go e.through
    where
      active : (a : ℕ) → has (m.sessions s).active a ≡ true → ⊥
      active a h = let open-one = (f.sessions s).numbered (live_active s a h) in omega arith

      go : InOrBelow m (m.sessions s).active r → ⊥
      go (inl h) = active r h
      go (inr q) = active q.0 q.1

  pub dynamic_says : (BadCardinality m → ⊥) → (some 64 (dynamic_broken m) ≡ true) ↔ DynamicBroken m
  unfolding dynamic_broken
  dynamic_says fine = broken_exact 64 m.dsd (counted m) (Effective m) (counted-small m) (effective-formed m f) effective_live (λ name. (f.dsd name).named) (at_least fine Dynamic)

  abbrev pub asked : Asked m
  asked = record { circle = circular m.juniors; circle_says = circle_says; cardinality = bad_set m.ssd || bad_set m.dsd; cardinality_says = cardinality_says; owner = unauthorised m; owner_says = owner_says; static = some 256 (static_broken m); static_says = static_says; dynamic = some 64 (dynamic_broken m); dynamic_says = dynamic_says }
