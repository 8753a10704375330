-- The refusals that `activate` and `drop` begin with: 1, 2 and 3 of the user, the session and the role that they name. Assumes nothing.
use Rattle.std.specs.Prelude.{◌||◌, List, [], ◌∷◌, ℕ}
use Rattle.model.specs.Model.{Model}
use Rattle.model.specs.Sheet.{Refusal, ◌when◌}
use Rattle.model.specs.commands.Naming.{user_beyond, role_beyond, session_beyond, user_missing, role_missing, session_missing}
use Rattle.model.specs.commands.Sessions.{not_owner}

abbrev pub first_refusals : Model → ℕ → ℕ → ℕ → List Refusal
first_refusals m u s r =
    1 when (user_beyond u || (session_beyond s || role_beyond r))
    ∷ 2 when (user_missing m u || (session_missing m s || role_missing m r))
    ∷ 3 when not_owner m u s
    ∷ []
