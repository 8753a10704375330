-- What a policy file may hold, whether or not it obeys the rules: "Answer 14: .. a count or number beyond its limit (a cardinality has none
-- here), .. an entry naming a user or role not listed." A file is of the form where it is the file of such a model. Assumes nothing.
use Rattle.std.specs.Prelude.{true, false, List, ◌≡◌, ℕ, ◌<◌, ◌^◌}
use Rattle.roleset.specs.Roles.{has}
use Rattle.hierarchy.specs.Lines.{line}
use Rattle.model.specs.Model.{Model, RoleSet, absent_set}
use Rattle.model.specs.Sound.{Existing, SessionShape, Limits, Counted}
use Rattle.policyform.specs.Encode.{encode}

-- a set with any sixteen-bit cardinality, or all zero
pub record SetForm (m : Model) (n : ℕ) (set : RoleSet) : Type 0 where
  pub absent : set.there ≡ false → set ≡ absent_set
  pub named : set.there ≡ true → n < 16
  pub small : set.card < 65536
  pub members : Existing m set.roles

-- every user and role that is named exists, no number is beyond its range, and no table has more than its limit. A file says what the tables
-- hold, so what is kept of how full they are is their own count
pub record Formed (m : Model) : Type 0 where
  pub users : (u : ℕ) → m.users u ≡ true → u < 256
  pub roles : m.roles < 2 ^ 64
  pub seniors : (s j : ℕ) → line m.juniors s j ≡ true → has m.roles s ≡ true
  pub juniors : (s : ℕ) → Existing m (m.juniors s)
  pub assignees : (u r : ℕ) → has (m.assigned u) r ≡ true → m.users u ≡ true
  pub assigned : (u : ℕ) → Existing m (m.assigned u)
  pub permissions : (p r : ℕ) → has (m.holders p) r ≡ true → p < 4096
  pub holders : (p : ℕ) → Existing m (m.holders p)
  pub ssd : (n : ℕ) → SetForm m n (m.ssd n)
  pub dsd : (n : ℕ) → SetForm m n (m.dsd n)
  pub sessions : (s : ℕ) → SessionShape m s (m.sessions s)
  pub limits : Limits m
  pub counted : Counted m

-- the bytes are the file of the model
pub record FileOf (m : Model) (bytes : List ℕ) : Type 0 where
  pub formed : Formed m
  pub written : encode m ≡ bytes
