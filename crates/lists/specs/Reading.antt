-- What reading a list of roles finds. Assumes nothing.
use Rattle.std.specs.Prelude.{List, ◌≡◌, ℕ}
use Rattle.model.specs.Lists.{ascending, some_from, set_of}
use Rattle.lists.specs.declared.Listed.{Listed}

pub record Reads (list : List ℕ) (x : Listed) : Type 0 where
  pub ascending : x.ascending ≡ ascending list
  pub beyond : x.beyond ≡ some_from 64 list
  pub roles : x.roles ≡ set_of list
