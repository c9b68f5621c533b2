use Rattle.std.proofs.Common.{◌+◌, ◌∙◌, ap, sym}
use Rattle.dk_expr.proofs.ValueTexts.{value_plain, value_quoted}
use Rattle.dk_expr.proofs.values.value_len.Goals as goal

pub returns-in-Some-clause-value : goal.returns-in-Some-clause-value
returns-in-Some-clause-value c = ap (λ n. 1 + n) c.quoted_len.ensures.value ∙ sym (value_quoted c.args.bytes.now c.in-Some.rest.now c.in-Some.ensures.front)

pub returns-in-None-clause-value : goal.returns-in-None-clause-value
returns-in-None-clause-value c = c.number_len.ensures.value ∙ sym (value_plain c.args.bytes.now c.in-None.ensures.read)
