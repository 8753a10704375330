-- The lines turned round, and the roles at or above one. Assumes nothing.
use mathlib.Core.Bool.{true, not}
use mathlib.Core.Logic.{inl, inr}
use mathlib.Core.Path.{◌≡◌, sym, ◌∙◌}
use Prim.Native.Nat.{ℕ, ◌<◌}
use Rattle.roleset.specs.Roles.{has, none, with, common, is_empty}
use Rattle.roleset.proofs.BoundedLaws.{and_left, and_right, and_both, not_yes, yes-not, agree}
use Rattle.roleset.proofs.Laws.{has-those, those-member, has-common, is_empty_false}
use Rattle.hierarchy.specs.Lines.{line, Inherits, Small, AtOrAbove}
use Rattle.hierarchy.specs.Lines.Inherits.{one, more}
use Rattle.hierarchy.specs.Walks.{reach, turned, at_or_above, ReachesUp}
use Rattle.hierarchy.proofs.InheritsLaws.{trans}
use Rattle.hierarchy.proofs.WalkLaws.{not-empty, reach_sound, reach_complete, under_one, one-under}

-- A line is turned round to the line from its junior to its senior.
pub line-turned : (lines : ℕ → ℕ) (s j : ℕ) → s < 64 → line (turned lines) j s ≡ line lines s j
unfolding turned
line-turned lines s j l = has-those (λ s. line lines s j) s l

-- there is no other among the turned lines
turned-line : (lines : ℕ → ℕ) (s j : ℕ) → line (turned lines) j s ≡ true → line lines s j ≡ true
unfolding turned
turned-line lines s j h = (those-member (λ s. line lines s j) s h).1

module _ (lines : ℕ → ℕ) (small : Small lines) where
  line_turns : (s j : ℕ) → line lines s j ≡ true → line (turned lines) j s ≡ true
  line_turns s j h = line-turned lines s j (small.within s j h).0 ∙ h

  -- The turned lines join roles 0 to 63 too.
  pub turned_within : Small (turned lines)
  turned_within = record { within = λ j s h. let l = small.within s j (turned-line lines s j h) in (l.1, l.0) }

  -- Over the turned lines a role inherits what inherits it over the lines.
  pub turn_inherits : {s j : ℕ} → Inherits lines s j → Inherits (turned lines) j s
  turn_inherits {s} {j} (one p) = one (line_turns s j p)
  turn_inherits {s} (more {k = k} p i) = trans (turn_inherits i) (one (line_turns s k p))

  -- It inherits nothing else there.
  pub turned_inherits : {s j : ℕ} → Inherits (turned lines) j s → Inherits lines s j
  turned_inherits {s} {j} (one p) = one (turned-line lines s j p)
  turned_inherits {s} {j} (more {k = k} p i) = trans (turned_inherits i) (one (turned-line lines k j p))

  turn_at : {s j : ℕ} → AtOrAbove lines s j → AtOrAbove (turned lines) j s
  turn_at (inl e) = inl (sym e)
  turn_at (inr i) = inr (turn_inherits i)

  turned_at : {s j : ℕ} → AtOrAbove (turned lines) j s → AtOrAbove lines s j
  turned_at (inl e) = inl (sym e)
  turned_at (inr i) = inr (turned_inherits i)

  -- The roles at or above r are r itself and roles that inherit it,
  pub above_sound : (r s : ℕ) → has (at_or_above lines r) s ≡ true → AtOrAbove lines s r
  unfolding at_or_above
  above_sound r s h = turned_at (under_one r s (reach_sound (turned lines) (with none r) s h))

  -- and all of these, with a circle or without.
  pub above_complete : (r s : ℕ) → r < 64 → AtOrAbove lines s r → has (at_or_above lines r) s ≡ true
  unfolding at_or_above
  above_complete r s l a = reach_complete (turned lines) (with none r) turned_within s (one-under r s l (turn_at a))

  -- A walk from a set meets r exactly where the set and the roles at or above r have a role in common.
  pub reach_above : (from r : ℕ) → r < 64 → has (reach lines from) r ≡ not (is_empty (common from (at_or_above lines r)))
  reach_above from r l = agree (has (reach lines from) r) (not (is_empty shared)) to back
    where
      above : ℕ
      above = at_or_above lines r

      shared : ℕ
      shared = common from above

      to : has (reach lines from) r ≡ true → not (is_empty shared) ≡ true
      to h =
          let u = reach_sound lines from r h in
          not_yes (is_empty shared) (not-empty shared u.role u.small (has-common from above u.role u.small ∙ and_both (has from u.role) (has above u.role) u.member (above_complete r u.role l u.down)))

      back : not (is_empty shared) ≡ true → has (reach lines from) r ≡ true
      back h =
          let m = is_empty_false shared (yes-not (is_empty shared) h) in
          let p = sym (has-common from above m.0 m.1) ∙ m.2 in
          reach_complete lines from small r (record { role = m.0; small = m.1; member = and_left (has from m.0) (has above m.0) p; down = above_sound r m.0 (and_right (has from m.0) (has above m.0) p) })

-- So the walk upwards is what it is to hand back.
pub above-reaches : (lines : ℕ → ℕ) (r set : ℕ) → set ≡ at_or_above lines r → ReachesUp lines r set
above-reaches lines r set e = record { is = e; exactly = λ small l s. (λ h. above_sound lines small r s (rw e at h), λ a. rw e (above_complete lines small r s l a)) }
