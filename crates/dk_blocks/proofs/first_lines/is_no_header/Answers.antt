use Rattle.std.proofs.Common.{◌∙◌, sym, codes}
use Rattle.dk_blocks.proofs.FirstLines.{awaits_none, no_header, not_true}
use Rattle.dk_blocks.proofs.first_lines.is_no_header.Goals as goal

pub returns : goal.returns
returns c is =
    no_header c.args.header.now c.args.bytes.now
    (awaits_none c.args.header.now.awaits_word c.end.result c.end.ensures.value (sym c.is_err.ensures.value ∙ c.if-is_err.false))
    (λ len. c.begins_with.ensures c.if-begins_with.false len (codes "rComparability"))
    (λ len. c.begins_with-2.ensures c.if-begins_with-2.false len (codes "r-comparability"))
    (λ len. c.begins_with-3.ensures c.if-begins_with-3.false len (codes "cl-version"))
    (λ len. c.begins_with-4.ensures (not_true c.begins_with-4.result is) len (codes "put-language"))
