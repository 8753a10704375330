-- The file of the paper's bench policy. Assumes nothing.
use mathlib.Core.List.{[], ◌∷◌}
use mathlib.Core.Path.{◌≡◌, refl}
use Rattle.roleset.specs.Bounded.{some, every, tally, members}
use Rattle.roleset.specs.Roles.{has, pack, those, with, without, union, common, minus, subset, is_empty, count}
use Rattle.hierarchy.specs.Walks.{juniors_of, walk, reach}
use Rattle.model.specs.Lists.{rising, some_from, listed, set_of}
use Rattle.model.specs.Model.{empty, put}
use Rattle.model.specs.Sheet.{verdict, settle}
use Rattle.model.specs.Step.{step}
use Rattle.model.specs.Words.{breaks, breaks_some, static_broken, dynamic_broken, sessions_open}
use Rattle.model.specs.commands.Users.{user, role}
use Rattle.model.specs.commands.Assigning.{assign, assigned, grant, granted}
use Rattle.model.specs.commands.Inheriting.{inherit, lined}
use Rattle.model.specs.commands.Sets.{broken, make_set}
use Rattle.model.specs.commands.Sessions.{free_from, opened, session}
use Rattle.demands.specs.Reachable.{start}
use Rattle.benchsheet.specs.Lines.{afterwards, first_ten, at_the_bench}
use Rattle.filebytes.specs.Sections.{Sections, entries, listing, bytes_of}
use Rattle.filebytes.proofs.Lists.{any}
use Rattle.filebytes.proofs.Decided.{all, in_order, Tested}
use Rattle.filebytes.proofs.Tables.{seen, told}
use Rattle.filetables.specs.Rows.{bytes_in}
use Rattle.filetables.specs.PolicyBytes.{bench_file, FileIs}
use Rattle.filetables.proofs.Saved.{reachable-lines, file-seen}

abbrev sections : Sections
sections =
    record {
      users = 7 ∷ [];
      roles = 0 ∷ 1 ∷ 2 ∷ [];
      lines = (2, 0) ∷ [];
      assignments = (7, 2) ∷ [];
      grants = (0, 4, 30) ∷ [];
      ssd = record { name = 0; cardinality = 2; members = 0 ∷ 1 ∷ [] } ∷ [];
      dsd = [];
      sessions = record { number = 0; owner = 7; active = 2 ∷ [] } ∷ [];
    }

tested : Tested sections
unfolding all any in_order
tested = record { users = refl; roles = refl; lines = refl; assignments = refl; grants = refl; ssd = refl; dsd = refl; sessions = refl }

written : bytes_of sections ≡ bytes_in bench_file
unfolding bytes_of listing entries
written = refl

computed : seen at_the_bench sections ≡ told sections
unfolding some every tally members has pack those with without union common minus subset is_empty count juniors_of walk reach rising some_from listed set_of empty put verdict settle step breaks breaks_some static_broken dynamic_broken sessions_open user role assign assigned grant granted inherit lined broken make_set free_from opened session afterwards at_the_bench seen told all
computed = refl

pub bench-file : FileIs at_the_bench (bytes_in bench_file)
unfolding at_the_bench
bench-file = file-seen at_the_bench (reachable-lines start first_ten) sections tested computed (bytes_in bench_file) written
