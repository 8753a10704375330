-- What is gathered from any bytes, whether or not they are a file: the eight sections, each read from the place past the one before it, into
-- a policy with nothing in it; and how many lines, assignments and grants there are then. Assumes nothing.
use Rattle.std.specs.Prelude.{List, ℕ}
use Rattle.model.specs.Model.{Model, empty, with_roles, with_juniors, with_assigned, with_holders}
use Rattle.model.specs.declared.Kind.TheVariants.{Static, Dynamic}
use Rattle.text.specs.Places.{read_section}
use Rattle.policyread.specs.Steps.{read_user, read_roles, read_line, read_assignment, read_grant, read_set, read_session}

-- each section: the place past it, and what is gathered so far
unfoldable pub users_read : List ℕ → ℕ × Model
users_read bytes = read_section bytes 256 (read_user bytes) 0 empty

abbrev pub roles_after : List ℕ → ℕ × Model → ℕ × Model
roles_after bytes p = ((read_roles bytes p.0).0, with_roles p.1 (read_roles bytes p.0).1)

unfoldable pub roles_read : List ℕ → ℕ × Model
roles_read bytes = roles_after bytes (users_read bytes)

unfoldable pub lines_read : List ℕ → ℕ × Model
lines_read bytes = read_section bytes 512 (read_line bytes) (roles_read bytes).0 (roles_read bytes).1

unfoldable pub assigned_read : List ℕ → ℕ × Model
assigned_read bytes = read_section bytes 2048 (read_assignment bytes) (lines_read bytes).0 (lines_read bytes).1

unfoldable pub grants_read : List ℕ → ℕ × Model
grants_read bytes = read_section bytes 2048 (read_grant bytes) (assigned_read bytes).0 (assigned_read bytes).1

unfoldable pub ssd_read : List ℕ → ℕ × Model
ssd_read bytes = read_section bytes 16 (read_set Static bytes) (grants_read bytes).0 (grants_read bytes).1

unfoldable pub dsd_read : List ℕ → ℕ × Model
dsd_read bytes = read_section bytes 16 (read_set Dynamic bytes) (ssd_read bytes).0 (ssd_read bytes).1

unfoldable pub sessions_read : List ℕ → ℕ × Model
sessions_read bytes = read_section bytes 64 (read_session bytes) (dsd_read bytes).0 (dsd_read bytes).1

-- the lines, assignments and grants are counted
unfoldable pub counted : Model → Model
counted m = with_holders (with_assigned (with_juniors m m.juniors) m.assigned) m.holders

unfoldable pub gathered : List ℕ → Model
gathered bytes = counted (sessions_read bytes).1
