-- One part of a sound model changed: what has to be known of the new part for the model to stay sound. Assumes nothing.
use mathlib.Core.Bool.{Bool, true, false}
use mathlib.Core.Path.{◌≡◌, refl, sym, ap, subst, ◌∙◌}
use Prim.Native.Nat.{ℕ, ◌^◌, ◌≤◌, ◌<◌}
use native.Mathlib.Omega.{arith}
use Rattle.roleset.specs.Roles.{has}
use Rattle.hierarchy.specs.Lines.{line, Acyclic}
use Rattle.hierarchy.specs.Walks.{reach}
use Rattle.hierarchy.proofs.InheritsLaws.{remove-acyclic}
use Rattle.hierarchy.proofs.WalkLaws.{reach-grows}
use Rattle.model.specs.Model.{Model, RoleSet, Session, standing, with_users, with_roles, with_lines, with_assignments, with_grants, with_ssd, with_dsd, with_sessions}
use Rattle.model.specs.Words.{authorised, breaks_some, counted, static_broken, dynamic_broken, assignments, grants, lines_standing}
use Rattle.model.specs.Sound.{Existing, SetShape, SessionShape, Shape, Counted, Sound}
use Rattle.model.specs.commands.Sets.{with_sets}
use Rattle.model.specs.declared.Kind.{Kind}
use Rattle.model.specs.declared.Kind.TheVariants.{Static, Dynamic}
use Rattle.sound.proofs.Counting.{no-fuller}
use Rattle.sound.proofs.Breaking.{some-breaks-fewer}
use Rattle.sound.proofs.Carried.{existing_in, set_in, session_in}
use Rattle.sound.proofs.Counted.{counted_of, dynamic-fewer}

-- ---- the shape of a model whose users and roles are those of another, or more

-- what the tables of m' name exists in m
pub record Named (m m' : Model) : Type 0 where
  pub seniors : (s j : ℕ) → line m'.juniors s j ≡ true → has m.roles s ≡ true
  pub juniors : (s : ℕ) → Existing m (m'.juniors s)
  pub assignees : (u r : ℕ) → has (m'.assigned u) r ≡ true → m.users u ≡ true
  pub assigned : (u : ℕ) → Existing m (m'.assigned u)
  pub permissions : (p r : ℕ) → has (m'.holders p) r ≡ true → p < 4096
  pub holders : (p : ℕ) → Existing m (m'.holders p)
  pub ssd : (n : ℕ) → SetShape m n (m'.ssd n)
  pub dsd : (n : ℕ) → SetShape m n (m'.dsd n)
  pub sessions : (s : ℕ) → SessionShape m s (m'.sessions s)

-- Where it does, and the users and roles of m' are those of m or more, within their ranges, m' has its shape.
pub named-shape : (m m' : Model) → ((r : ℕ) → has m.roles r ≡ true → has m'.roles r ≡ true) → ((u : ℕ) → m.users u ≡ true → m'.users u ≡ true) → m'.roles < 2 ^ 64 → ((u : ℕ) → m'.users u ≡ true → u < 256) → Named m m' → Shape m'
named-shape m m' roles users small range x =
    record {
      users = range;
      roles = small;
      seniors = λ s j e. roles s (x.seniors s j e);
      juniors = λ s. existing_in m m' roles (x.juniors s);
      assignees = λ u r e. users u (x.assignees u r e);
      assigned = λ u. existing_in m m' roles (x.assigned u);
      permissions = x.permissions;
      holders = λ p. existing_in m m' roles (x.holders p);
      ssd = λ n. set_in m m' roles (x.ssd n);
      dsd = λ n. set_in m m' roles (x.dsd n);
      sessions = λ s. session_in m m' roles users (x.sessions s);
    }

-- With the same users and roles, what is named exists as it did.
same_shape : (m m' : Model) (x : Shape m) → m.users ≡ m'.users → m.roles ≡ m'.roles → Named m m' → Shape m'
same_shape m m' x users roles n =
    named-shape m m' (λ r e. sym (ap (λ (k : ℕ). has k r) roles) ∙ e) (λ u e. sym (ap (λ (f : ℕ → Bool). f u) users) ∙ e) (subst (λ (k : ℕ). k < 2 ^ 64) roles x.roles) (λ u e. x.users u (ap (λ (f : ℕ → Bool). f u) users ∙ e)) n

-- the roles that a set of a kind counts: those that user i is authorised for, or those that count of session i
abbrev pub held : Kind → Model → ℕ → ℕ
held Static m u = authorised m u
held Dynamic m s = counted m s

-- the sets of m, and the other parts of m'
abbrev pub shrunk : Model → Model → Model
shrunk m m' = record { users = m'.users; roles = m'.roles; juniors = m'.juniors; assigned = m'.assigned; holders = m'.holders; ssd = m.ssd; dsd = m.dsd; sessions = m'.sessions; assignment_count = m'.assignment_count; grant_count = m'.grant_count; line_count = m'.line_count }

-- ---- the shape after a change, whether or not a rule is broken then

module _ (m : Model) (x : Shape m) where
  -- Other lines between existing roles,
  pub lines_shape : (new : ℕ → ℕ) (n : ℕ) → ((a j : ℕ) → line new a j ≡ true → has m.roles a ≡ true) → ((a : ℕ) → Existing m (new a)) → Shape (with_lines m new n)
  lines_shape new n seniors existing = same_shape m (with_lines m new n) x refl refl (record { seniors = seniors; juniors = existing; assignees = x.assignees; assigned = x.assigned; permissions = x.permissions; holders = x.holders; ssd = x.ssd; dsd = x.dsd; sessions = x.sessions })

  -- other assignments of existing roles to existing users,
  pub assigned_shape : (new : ℕ → ℕ) (n : ℕ) → ((u r : ℕ) → has (new u) r ≡ true → m.users u ≡ true) → ((u : ℕ) → Existing m (new u)) → Shape (with_assignments m new n)
  assigned_shape new n assignees existing = same_shape m (with_assignments m new n) x refl refl (record { seniors = x.seniors; juniors = x.juniors; assignees = assignees; assigned = existing; permissions = x.permissions; holders = x.holders; ssd = x.ssd; dsd = x.dsd; sessions = x.sessions })

  -- and other sets of the right shape.
  pub sets_shape : (kind : Kind) (new : ℕ → RoleSet) → ((n : ℕ) → SetShape m n (new n)) → Shape (with_sets kind m new)
  sets_shape Static new shaped = same_shape m (with_ssd m new) x refl refl (record { seniors = x.seniors; juniors = x.juniors; assignees = x.assignees; assigned = x.assigned; permissions = x.permissions; holders = x.holders; ssd = shaped; dsd = x.dsd; sessions = x.sessions })
  sets_shape Dynamic new shaped = same_shape m (with_dsd m new) x refl refl (record { seniors = x.seniors; juniors = x.juniors; assignees = x.assignees; assigned = x.assigned; permissions = x.permissions; holders = x.holders; ssd = x.ssd; dsd = shaped; sessions = x.sessions })

-- ---- a part that grows, or is changed at some places

module _ (m : Model) (s : Sound m) where
  -- More users and roles, all of them within their ranges.
  pub names_changed : (users : ℕ → Bool) (roles : ℕ) → ((u : ℕ) → users u ≡ true → u < 256) → ((u : ℕ) → m.users u ≡ true → users u ≡ true) → roles < 2 ^ 64 → ((r : ℕ) → has m.roles r ≡ true → has roles r ≡ true) → Sound (with_roles (with_users m users) roles)
  unfolding static_broken dynamic_broken assignments grants lines_standing
  names_changed users roles range more-users small more-roles =
      let x = s.shape in
      record {
        shape = named-shape m (with_roles (with_users m users) roles) more-roles more-users small range (record { seniors = x.seniors; juniors = x.juniors; assignees = x.assignees; assigned = x.assigned; permissions = x.permissions; holders = x.holders; ssd = x.ssd; dsd = x.dsd; sessions = x.sessions });
        limits = record { assigned = s.limits.assigned; granted = s.limits.granted; lined = s.limits.lined };
        counted = record { assigned = s.counted.assigned; granted = s.counted.granted; lined = s.counted.lined };
        rules = record { acyclic = s.rules.acyclic; active = s.rules.active; static = s.rules.static; dynamic = s.rules.dynamic };
      }

  -- More lines, n of them, without a circle, that break the static rule for no user and the dynamic rule in no session.
  pub lines_changed : (new : ℕ → ℕ) (n : ℕ) → ((a j : ℕ) → line m.juniors a j ≡ true → line new a j ≡ true) → ((a j : ℕ) → line new a j ≡ true → has m.roles a ≡ true) → ((a : ℕ) → Existing m (new a)) → n ≡ standing 64 new → n ≤ 512 → Acyclic new → ((u : ℕ) → static_broken (with_lines m new n) u ≡ false) → ((k : ℕ) → dynamic_broken (with_lines m new n) k ≡ false) → Sound (with_lines m new n)
  unfolding assignments grants lines_standing
  lines_changed new n grown seniors existing counted few acyclic unbroken separate =
      record {
        shape = lines_shape m s.shape new n seniors existing;
        limits = record { assigned = s.limits.assigned; granted = s.limits.granted; lined = rw counted at few };
        counted = record { assigned = s.counted.assigned; granted = s.counted.granted; lined = counted };
        rules = record { acyclic = acyclic; active = λ k r e. let from = m.assigned (m.sessions k).owner in reach-grows m.juniors new from from (λ a j la lj. grown a j) (λ a la h. h) r (s.rules.active k r e); static = unbroken; dynamic = separate };
      }

  -- More assignments, n of them, of existing roles to existing users, that break the static rule for no user.
  pub assigned_changed : (new : ℕ → ℕ) (n : ℕ) → ((u r : ℕ) → has (m.assigned u) r ≡ true → has (new u) r ≡ true) → ((u r : ℕ) → has (new u) r ≡ true → m.users u ≡ true) → ((u : ℕ) → Existing m (new u)) → n ≡ standing 256 new → n ≤ 2048 → ((u : ℕ) → static_broken (with_assignments m new n) u ≡ false) → Sound (with_assignments m new n)
  unfolding dynamic_broken assignments grants lines_standing
  assigned_changed new n grown assignees existing counted few unbroken =
      record {
        shape = assigned_shape m s.shape new n assignees existing;
        limits = record { assigned = rw counted at few; granted = s.limits.granted; lined = s.limits.lined };
        counted = record { assigned = counted; granted = s.counted.granted; lined = s.counted.lined };
        rules = record { acyclic = s.rules.acyclic; active = λ k r e. let u = (m.sessions k).owner in reach-grows m.juniors m.juniors (m.assigned u) (new u) (λ a j la lj h. h) (λ a la. grown u a) r (s.rules.active k r e); static = unbroken; dynamic = s.rules.dynamic };
      }

  -- Other grants, n of them, of permissions 0 to 4,095 to existing roles.
  pub holders_changed : (new : ℕ → ℕ) (n : ℕ) → ((p r : ℕ) → has (new p) r ≡ true → p < 4096) → ((p : ℕ) → Existing m (new p)) → n ≡ standing 4096 new → n ≤ 2048 → Sound (with_grants m new n)
  unfolding static_broken dynamic_broken assignments grants lines_standing
  holders_changed new n permissions existing counted few =
      let x = s.shape in
      record {
        shape = same_shape m (with_grants m new n) x refl refl (record { seniors = x.seniors; juniors = x.juniors; assignees = x.assignees; assigned = x.assigned; permissions = permissions; holders = existing; ssd = x.ssd; dsd = x.dsd; sessions = x.sessions });
        limits = record { assigned = s.limits.assigned; granted = rw counted at few; lined = s.limits.lined };
        counted = record { assigned = s.counted.assigned; granted = counted; lined = s.counted.lined };
        rules = record { acyclic = s.rules.acyclic; active = s.rules.active; static = s.rules.static; dynamic = s.rules.dynamic };
      }

  -- Other sessions, that obey the dynamic rule and have only roles active for which their owner is authorised.
  pub sessions_changed : (new : ℕ → Session) → ((k : ℕ) → SessionShape m k (new k)) → ((k r : ℕ) → has (new k).active r ≡ true → has (authorised m (new k).owner) r ≡ true) → ((k : ℕ) → breaks_some m.dsd (counted_of m (new k)) ≡ false) → Sound (with_sessions m new)
  unfolding static_broken dynamic_broken assignments grants lines_standing
  sessions_changed new shaped active unbroken =
      let x = s.shape in
      record {
        shape = same_shape m (with_sessions m new) x refl refl (record { seniors = x.seniors; juniors = x.juniors; assignees = x.assignees; assigned = x.assigned; permissions = x.permissions; holders = x.holders; ssd = x.ssd; dsd = x.dsd; sessions = shaped });
        limits = record { assigned = s.limits.assigned; granted = s.limits.granted; lined = s.limits.lined };
        counted = record { assigned = s.counted.assigned; granted = s.counted.granted; lined = s.counted.lined };
        rules = record { acyclic = s.rules.acyclic; active = active; static = s.rules.static; dynamic = unbroken };
      }

  -- Other sets of one kind, of the right shape, that are not broken.
  pub sets_changed : (kind : Kind) (new : ℕ → RoleSet) → ((n : ℕ) → SetShape m n (new n)) → ((i : ℕ) → breaks_some new (held kind m i) ≡ false) → Sound (with_sets kind m new)
  unfolding static_broken dynamic_broken assignments grants lines_standing
  sets_changed Static new shaped unbroken =
      record {
        shape = sets_shape m s.shape Static new shaped;
        limits = record { assigned = s.limits.assigned; granted = s.limits.granted; lined = s.limits.lined };
        counted = record { assigned = s.counted.assigned; granted = s.counted.granted; lined = s.counted.lined };
        rules = record { acyclic = s.rules.acyclic; active = s.rules.active; static = unbroken; dynamic = s.rules.dynamic };
      }
  sets_changed Dynamic new shaped unbroken =
      record {
        shape = sets_shape m s.shape Dynamic new shaped;
        limits = record { assigned = s.limits.assigned; granted = s.limits.granted; lined = s.limits.lined };
        counted = record { assigned = s.counted.assigned; granted = s.counted.granted; lined = s.counted.lined };
        rules = record { acyclic = s.rules.acyclic; active = s.rules.active; static = s.rules.static; dynamic = unbroken };
      }

  -- ---- parts that shrink

  -- Fewer lines, assignments, grants and active roles, where every active role is one its owner is still authorised for.
  pub fewer_sound : (m' : Model) → Shape (shrunk m m') → Counted (shrunk m m') → ((a j : ℕ) → line m'.juniors a j ≡ true → line m.juniors a j ≡ true) → ((u r : ℕ) → has (m'.assigned u) r ≡ true → has (m.assigned u) r ≡ true) → ((p r : ℕ) → has (m'.holders p) r ≡ true → has (m.holders p) r ≡ true) → ((k r : ℕ) → has (m'.sessions k).active r ≡ true → has (m.sessions k).active r ≡ true) → ((k r : ℕ) → has (m'.sessions k).active r ≡ true → has (reach m'.juniors (m'.assigned (m'.sessions k).owner)) r ≡ true) → Sound (shrunk m m')
  unfolding static_broken dynamic_broken assignments grants lines_standing
  fewer_sound m' shape counted lines assigned holders actives still =
      record {
        shape = shape;
        limits =
            record {
              assigned = at_most (no-fuller 256 m'.assigned m.assigned (λ u lu r lr. assigned u r)) s.limits.assigned;
              granted = at_most (no-fuller 4096 m'.holders m.holders (λ p lp r lr. holders p r)) s.limits.granted;
              lined = at_most (no-fuller 64 m'.juniors m.juniors (λ a la r lr. lines a r)) s.limits.lined;
            };
        counted = counted;
        rules =
            record {
              acyclic = remove-acyclic lines s.rules.acyclic;
              active = still;
              static = λ u. some-breaks-fewer m.ssd (authorised m' u) (authorised m u) (λ r lr. reach-grows m'.juniors m.juniors (m'.assigned u) (m.assigned u) (λ a j la lj. lines a j) (λ a la. assigned u a) r) (s.rules.static u);
              dynamic = λ k. dynamic-fewer m m' k lines (actives k) (s.rules.dynamic k);
            };
      }
    where
      at_most : {a b c : ℕ} → a ≤ b → b ≤ c → a ≤ c
      at_most h k = omega arith
