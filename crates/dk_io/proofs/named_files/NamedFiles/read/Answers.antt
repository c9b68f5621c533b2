use Rattle.std.proofs.Common.{ap, ℕ, List, length, take, drop, arith, ◌∙◌, ◌≡◌, sym}
use Rattle.std.proofs.lemmas.Grind.{common_steps}
use Rattle.dk_io.specs.NamedFiles.{Files, bytes_at}
use Rattle.dk_io.proofs.Files.{moved}
use Rattle.dk_io.proofs.named_files.NamedFiles.read.Goals as goal

pub returns-clause-bytes : goal.returns-clause-bytes
returns-clause-bytes c =
    let bytes : List ℕ = bytes_at c.self.inside.named c.self.inside.started in
    let rest : c.args.self.now.rest ≡ drop c.self.inside.from bytes = sym (ap (λ (f : Files). f.rest) c.self.view_is) in
    let part : c.copy_from_slice.new.self ≡ take c.min-count.result (drop c.self.inside.from bytes) = grind (arith, common_steps) in
    let long : length c.copy_from_slice.new.self ≡ c.min-count.result = grind (arith, common_steps) in
    rest ∙ sym (moved bytes c.args.buf.now c.copy_from_slice.new.self c.self.inside.from c.min-count.result part long)
