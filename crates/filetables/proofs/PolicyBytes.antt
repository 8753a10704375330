-- The tables hold. Assumes nothing.
use Rattle.model.specs.Model.{empty}
use Rattle.sound.proofs.Empty.{empty-sound}
use Rattle.policyfile.proofs.Laws.{empty-file}
use Rattle.filetables.specs.Rows.{bytes_in}
use Rattle.filetables.specs.PolicyBytes.{empty_file, PolicyBytes}
use Rattle.filetables.proofs.Saved.{file-is}
use Rattle.filetables.proofs.Bench.{bench-file}
use Rattle.filetables.proofs.Mixed.{mixed-file, mixed-loaded, wide-file, wide-number, wide-refused, seniors-file, seniors-says, seniors-active, seniors-refused}

-- the files, byte by byte
pub policy-bytes : PolicyBytes
policy-bytes = record { empty_policy = file-is empty empty-sound (bytes_in empty_file) empty-file; bench_policy = bench-file; mixed_policy = mixed-file; mixed_loaded = mixed-loaded; wide_policy = wide-file; wide_number = wide-number; wide_refused = wide-refused; seniors_policy = seniors-file; seniors_says = seniors-says; seniors_active = seniors-active; seniors_refused = seniors-refused }
