use Rattle.std.proofs.Common.{◌≡◌, ◌+◌, ℕ, length}
use Rattle.dk_io.specs.NamedFiles.{named_file, bytes_at}
use Rattle.dk_io.proofs.named_files.place_of.Given as goal

abbrev pub invariant-loop-rest : goal.invariant-loop-rest
invariant-loop-rest l = record {
  held : named_file l.files l.name ≡ named_file l.rest l.name;
  there : (k : ℕ) → bytes_at l.files (l.place + k) ≡ bytes_at l.rest k;
  count : l.place + length l.rest ≡ length l.files;
}

abbrev pub decreases-loop-rest : goal.decreases-loop-rest
decreases-loop-rest l = length l.rest
