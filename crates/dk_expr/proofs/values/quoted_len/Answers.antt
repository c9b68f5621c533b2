use Rattle.std.proofs.Common.{◌∙◌, ap, arith, drop, sym}
use Rattle.std.specs.Prelude.{◌+◌}
use Rattle.dk_expr.specs.Valued.{quoted_end}
use Rattle.dk_expr.proofs.ValueTexts.{quoted_closed, quoted_more}
use Rattle.dk_expr.proofs.values.quoted_len.Goals as goal

pub returns-then-closes-clause-value : goal.returns-then-closes-clause-value
returns-then-closes-clause-value c =
    let one = quoted_closed c.loop-i.is_escaped c.args.bytes.now c.loop-i.i c.loop-i-test.true (sym c.closes.ensures ∙ c.if-closes.true) in
    omega (arith, one, c.loop-i.invariant)

pub loop-i-preserved : goal.loop-i-preserved
loop-i-preserved c =
    let bytes = c.args.bytes.now in
    let i = c.loop-i.i in
    let more = quoted_more c.loop-i.is_escaped bytes i c.loop-i-test.true (sym c.closes.ensures ∙ c.if-closes.false) in
    ap (λ e. i + 1 + quoted_end e (drop (i + 1) bytes)) c.escapes-is_escaped.ensures ∙ omega (arith, more) ∙ c.loop-i.invariant
