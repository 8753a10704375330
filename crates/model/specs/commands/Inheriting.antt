-- `inherit`, `disinherit`. Assumes nothing.
use Rattle.std.specs.Prelude.{Bool, not, ◌||◌, [], ◌∷◌, ℕ, ◌+◌, ◌-◌, leb}
use Rattle.roleset.specs.Bounded.{some}
use Rattle.roleset.specs.Roles.{has, with, without, none}
use Rattle.numbers.specs.Ranges.{most_lines}
use Rattle.model.specs.Model.{Model, put, with_lines}
use Rattle.model.specs.Sheet.{Told, ◌when◌, settle}
use Rattle.model.specs.Words.{reached, static_broken, dynamic_broken, shed}
use Rattle.model.specs.commands.Naming.{role_beyond, role_missing}

-- the line (senior, junior) stands, one line more; it no longer does, one less
unfoldable pub lined : Model → ℕ → ℕ → Model
lined m senior junior = with_lines m (put m.juniors senior (with (m.juniors senior) junior)) (m.line_count + 1)

unfoldable pub unlined : Model → ℕ → ℕ → Model
unlined m senior junior = with_lines m (put m.juniors senior (without (m.juniors senior) junior)) (m.line_count - 1)

-- the senior is the junior, or the junior inherits the senior
abbrev pub would_circle : Model → ℕ → ℕ → Bool
would_circle m senior junior = has (reached m (with none junior)) senior

-- "`inherit senior junior`: 1, 2, 4 (this direct line stands), 6 (equal, or the junior inherits the senior), 10, 12. A line that a longer
-- chain already implies is recorded all the same." "`inherit` may now answer 11, after 10" (request 2). The static rule is asked of every user,
-- the dynamic one of every session
unfoldable pub inherit : Model → ℕ → ℕ → Told
inherit m senior junior =
    settle
    (1 when (role_beyond senior || role_beyond junior)
    ∷ 2 when (role_missing m senior || role_missing m junior)
    ∷ 4 when has (m.juniors senior) junior
    ∷ 6 when would_circle m senior junior
    ∷ 10 when some 256 (static_broken (lined m senior junior))
    ∷ 11 when some 64 (dynamic_broken (lined m senior junior))
    ∷ 12 when leb most_lines m.line_count
    ∷ [])
    m
    []
    (lined m senior junior)

-- "`disinherit senior junior`: 1, 2, 5, then sheds."
unfoldable pub disinherit : Model → ℕ → ℕ → Told
disinherit m senior junior =
    settle
    (1 when (role_beyond senior || role_beyond junior)
    ∷ 2 when (role_missing m senior || role_missing m junior)
    ∷ 5 when not (has (m.juniors senior) junior)
    ∷ [])
    m
    []
    (shed (unlined m senior junior))
