use Rattle.std.proofs.Common.{ap, ℕ, List, length, arith, ◌≤◌}
use Rattle.dk_io.specs.NamedFiles.{Files}
use Rattle.dk_io.proofs.Files.{bytes_at_end}
use Rattle.dk_io.proofs.named_files.NamedFiles.new.Goals as goal

pub returns : goal.returns
returns c =
    let long : length c.args.named ≤ length c.as_slice-started.result.now = omega (arith, ap length c.as_slice-started.ensures) in
    ap (λ (r : List ℕ). let f : Files = record { named = c.args.named; piece = c.args.piece; rest = r } in f)
    (bytes_at_end c.args.named (length c.as_slice-started.result.now) long)
