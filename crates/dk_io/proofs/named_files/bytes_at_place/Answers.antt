use Rattle.std.proofs.Common.{◌∙◌, sym, ap, List, ℕ}
use Rattle.dk_io.proofs.Files.{bytes_at_get, bytes_at_end}
use Rattle.dk_io.proofs.named_files.bytes_at_place.Goals as goal

pub returns-then-place-files : goal.returns-then-place-files
returns-then-place-files c = c.as_slice.ensures ∙ ap (λ (x : List ℕ × List ℕ). x.1) (sym c.index-files-place.is) ∙ sym (bytes_at_get c.args.files.now c.args.place c.index-files-place.result c.if-place-files.true c.index-files-place.is)

pub returns-else-place-files : goal.returns-else-place-files
returns-else-place-files c = sym (bytes_at_end c.args.files.now c.args.place c.if-place-files.false)
