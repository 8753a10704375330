-- What `norole` stores, part by part. Assumes nothing.
use Rattle.std.specs.Prelude.{ℕ, ◌-◌}
use Rattle.roleset.specs.Bounded.{bit}
use Rattle.roleset.specs.Roles.{has, without}
use Rattle.model.specs.Model.{Model, put, with_roles, with_lines, with_assignments, with_grants}
use Rattle.model.specs.commands.Users.{holding}

-- the role r does not hold the permission p, and a grant that went is counted
abbrev pub ungranted : Model → ℕ → ℕ → Model
ungranted m p r = with_grants m (put m.holders p (without (m.holders p) r)) (m.grant_count - bit (has (m.holders p) r))

-- the role holds no permission, and the grants that went are counted
abbrev pub all_ungranted : Model → ℕ → Model
all_ungranted m r = with_grants m (λ p. without (m.holders p) r) (m.grant_count - holding 4096 m.holders r)

-- the role is gone, and its grants; the lines and the assignments are these, so many fewer than before
abbrev pub leaving : Model → ℕ → (ℕ → ℕ) → ℕ → (ℕ → ℕ) → ℕ → Model
leaving m r juniors lines assigned assignments = all_ungranted (with_assignments (with_lines (with_roles m (without m.roles r)) juniors (m.line_count - lines)) assigned (m.assignment_count - assignments)) r
