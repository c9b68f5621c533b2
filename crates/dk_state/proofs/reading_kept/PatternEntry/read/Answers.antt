use Rattle.std.specs.Prelude.{◌∷◌, codes}
use Rattle.std.specs.Fmt.{decimal}
use Rattle.std.proofs.Common.{◌∙◌, sym}
use Rattle.dk_state.specs.Kept.{bits_of, if_any}
use Rattle.dk_state.proofs.KeptLines.{bits_first}
use Rattle.dk_state.proofs.Onto.{fields_onto, fields_text_onto, line_onto}
use Rattle.dk_state.proofs.reading_kept.PatternEntry.read.Goals as goal

pub returns-clause-read : goal.returns-clause-read
returns-clause-read c p rest fits last is =
    let bits = if_any (bits_of p.present) in
    let passed = c.pass.ensures.read (fields_onto (decimal p.count ∷ bits) (10 ∷ rest)) (is ∙ line_onto (codes "pattern") (decimal p.count ∷ bits) rest) in
    let count = c.natural-count.ensures.read p.count (fields_onto bits (10 ∷ rest)) fits (bits_first p.present rest) passed in
    let present = c.in_ok-present.ensures.read p.present rest (count.1 ∙ sym (fields_text_onto bits (10 ∷ rest))) in
    ((λ i. record { count = count.0 i; present = present.0 i }), c.pass-2.ensures.read rest present.1)
