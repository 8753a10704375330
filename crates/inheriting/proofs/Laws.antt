-- What `inherit` and `disinherit` leave: the lines after a change, before and after they are stored. Assumes nothing.
use mathlib.Core.List.{List}
use mathlib.Core.Path.{◌≡◌, refl, ap, ap₂, ◌∙◌}
use Prim.Native.Nat.{ℕ, ◌+◌, ◌-◌, ◌≤◌, ◌<◌}
use lib.ListN.{set}
use Rattle.roleset.specs.Roles.{with, without}
use Rattle.hierarchy.specs.Lines.{table_of}
use Rattle.model.specs.Model.{Model, closed_session, put, with_lines, with_sessions}
use Rattle.model.specs.Words.{shed}
use Rattle.model.specs.commands.Inheriting.{lined, unlined}
use Rattle.model.specs.commands.Sets.{rule_broken}
use Rattle.model.specs.declared.Kind.{Kind}
use Rattle.state.specs.Stores.{Table, in_range, with_active}
use Rattle.state.specs.View.{part}
use Rattle.state.proofs.Stored.{storing, placed}
use Rattle.sweeps.specs.Sweeps.{asks_rule, ShedsAll}
use Rattle.sweeps.proofs.Asking.{asks-lines}
use Rattle.sweeps.proofs.Changing.{as-part, table-put}
use Rattle.sweeps.proofs.Shedding.{sheds-same, shed_stored}

-- the line among the senior's, and one line more
pub lined-is : (m : Model) (senior junior : ℕ) → lined m senior junior ≡ with_lines m (put m.juniors senior (with (m.juniors senior) junior)) (m.line_count + 1)
unfolding lined
lined-is m senior junior = refl

-- what the proof of `inherit` asks of its store
pub ruleset inheriting = (storing, lined-is)

module _ (m : Model) (senior junior : ℕ) (h : senior < 64) where
  -- with the new line: the rule of a kind asked of every user or session, and the lines stored
  module _ (new : ℕ) (e : new ≡ with (m.juniors senior) junior) where
    pub asks_lined : (kind : Kind) (x : List ℕ) → Table 64 m.juniors x → asks_rule kind m (table_of (set x senior new)) ≡ rule_broken kind (lined m senior junior)
    unfolding lined
    asks_lined kind x t = ap (asks_rule kind m) ((table-put x senior new h t).each ∙ ap (put m.juniors senior) e) ∙ asks-lines kind m (put m.juniors senior (with (m.juniors senior) junior)) (m.line_count + 1)

    pub lined_stored : (after : Model) (standing : ℕ) → standing ≡ m.line_count → after ≡ in_range 64 senior m (with_lines m (put m.juniors senior new) (standing + 1)) → after ≡ lined m senior junior
    unfolding lined
    lined_stored after standing n s = placed 64 senior m _ after h s ∙ ap₂ (λ (roles count : ℕ). with_lines m (put m.juniors senior roles) (count + 1)) e n

  -- without the line: what a sweep that sheds finds, and the lines and the active roles stored
  module _ (new : ℕ) (e : new ≡ without (m.juniors senior) junior) (x y : List ℕ) (kept : List ℕ) (lines : Table 64 m.juniors x) (holds : Table 256 m.assigned y) (sheds : ShedsAll (table_of (set x senior new)) (part y 0 256) m.sessions kept) where
    fewer : ShedsAll (unlined m senior junior).juniors (unlined m senior junior).assigned (unlined m senior junior).sessions kept
    unfolding unlined
    fewer = sheds-same kept ((table-put x senior new h lines).each ∙ ap (put m.juniors senior) e) (as-part y holds) refl sheds

    pub unlined_stored : ((k : ℕ) → 64 ≤ k → m.sessions k ≡ closed_session) → (between after : Model) (standing : ℕ) → standing ≡ m.line_count - 1 → between ≡ in_range 64 senior m (with_lines m (put m.juniors senior new) standing) → after ≡ with_sessions between (with_active between.sessions (part kept 0 64)) → after ≡ shed (unlined m senior junior)
    unfolding unlined
    unlined_stored past between after standing n s t = shed_stored (unlined m senior junior) kept fewer past between after (placed 64 senior m _ between h s ∙ ap₂ (λ (roles count : ℕ). with_lines m (put m.juniors senior roles) count) e n) t
