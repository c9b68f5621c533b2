use Rattle.std.proofs.Common.{ap, ℕ, List, [], length, arith, ◌≤◌, ◌∙◌}
use Rattle.dk_io.specs.NamedFiles.{Files}
use Rattle.dk_io.proofs.Files.{bytes_at_end}
use Rattle.dk_io.proofs.named_files.NamedFiles.start_empty.Goals as goal

pub returns : goal.returns
returns c =
    let long : length c.self.inside.named ≤ length c.as_slice.result.now = omega (arith, ap length c.as_slice.ensures) in
    ap (λ (r : List ℕ). let f : Files = record { named = c.self.inside.named; piece = c.self.inside.piece; rest = r } in f)
    (bytes_at_end c.self.inside.named (length c.as_slice.result.now) long)
    ∙ ap (λ (f : Files). record f { rest = [] }) c.self.view_is
