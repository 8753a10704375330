-- From what the tests find to the form of a policy file, and back. Assumes nothing.
use Prim.Native.Nat.{ℕ}
use native.Mathlib.Omega.{arith}
use Rattle.model.specs.Model.{Model, RoleSet, Session}
use Rattle.model.specs.Sound.{Existing, SessionShape, Counted}
use Rattle.policyform.specs.Form.{SetForm, Formed}
use Rattle.policycheck.specs.Tests.{Inside, SetFine, SessionFine, Fits}

existing : (m : Model) (set : ℕ) → Inside m.roles set → Existing m set
existing m set x = record { small = x.small; exist = x.each }

inside : (m : Model) (set : ℕ) → Existing m set → Inside m.roles set
inside m set x = record { small = x.small; each = x.exist }

set-of : (m : Model) (n : ℕ) (x : RoleSet) → SetForm m n x → SetFine m.roles x
set-of m n x f = record { absent = f.absent; small = f.small; members = inside m x.roles f.members }

session-of : (m : Model) (n : ℕ) (x : Session) → SessionShape m n x → SessionFine m.users m.roles x
session-of m n x f = record { closed = f.closed; owned = f.owned; active = inside m x.active f.active }

-- Where the kept counts are the tables' own, what the tests find is what a policy file may hold,
pub fits-formed : (m : Model) → Fits m → Counted m → Formed m
fits-formed m x c = record {
  users = x.ranged.users;
  roles = x.tables.roles;
  seniors = x.tables.seniors;
  juniors = λ s. existing m (m.juniors s) (x.tables.juniors s);
  assignees = x.tables.assignees;
  assigned = λ u. existing m (m.assigned u) (x.tables.assigned u);
  permissions = x.ranged.permissions;
  holders = λ p. existing m (m.holders p) (x.tables.holders p);
  ssd = λ n. record { absent = (x.ssd n).absent; named = x.ranged.ssd n; small = (x.ssd n).small; members = existing m (m.ssd n).roles (x.ssd n).members };
  dsd = λ n. record { absent = (x.dsd n).absent; named = x.ranged.dsd n; small = (x.dsd n).small; members = existing m (m.dsd n).roles (x.dsd n).members };
  sessions = λ s. record { closed = (x.sessions s).closed; numbered = x.ranged.sessions s; owned = (x.sessions s).owned; active = existing m (m.sessions s).active (x.sessions s).active };
  limits = record { assigned = omega (arith, x.few.assignments, c.assigned); granted = omega (arith, x.few.grants, c.granted); lined = omega (arith, x.few.lines, c.lined) };
  counted = c;
}

-- and what a policy file may hold passes them.
pub formed-fits : (m : Model) → Formed m → Fits m
formed-fits m f = record {
  ranged = record { users = f.users; permissions = f.permissions; ssd = λ n. (f.ssd n).named; dsd = λ n. (f.dsd n).named; sessions = λ s. (f.sessions s).numbered };
  few = record { lines = omega (arith, f.limits.lined, f.counted.lined); assignments = omega (arith, f.limits.assigned, f.counted.assigned); grants = omega (arith, f.limits.granted, f.counted.granted) };
  tables = record { roles = f.roles; seniors = f.seniors; juniors = λ s. inside m (m.juniors s) (f.juniors s); assignees = f.assignees; assigned = λ u. inside m (m.assigned u) (f.assigned u); holders = λ p. inside m (m.holders p) (f.holders p) };
  ssd = λ n. set-of m n (m.ssd n) (f.ssd n);
  dsd = λ n. set-of m n (m.dsd n) (f.dsd n);
  sessions = λ s. session-of m s (m.sessions s) (f.sessions s);
}
