use Rattle.std.proofs.Common.{◌∙◌, ◌++◌, ℕ, List, ap, subst}
use Rattle.std.proofs.lemmas.List.{take_all}
use Rattle.dk_functions.specs.Functions.{assertion_if, comment_if}
use Rattle.dk_formats.specs.Steps.{AreParts}
use Rattle.dk_formats.proofs.Adding.{more_parts, no_parts, says_by}
use Rattle.dk_formats.proofs.functions.parts_of.Goals as goal

pub loop-line-init : goal.loop-line-init
loop-line-init c = no_parts c.args.language c.args.vars.now _ c.new.ensures c.new-2.ensures

pub loop-line-preserved : goal.loop-line-preserved
loop-line-preserved c =
    let says = says_by c.args.vars.now c.line-item.result.text c.as_slice.result.now c.in_ok-says.says c.as_slice.ensures c.in_ok-says.ensures.read c.in_ok-says.ensures.none in
    more_parts c.args.vars.now c.args.lines.now c.loop-line.line-index c.line-item.result c.loop-line-test.true c.line-item.is c.in_ok-says.says says
    c.args.language c.loop-line.parts c.push.new.self c.in_ok-expression.expression c.loop-line.invariant c.in_ok-expression.ensures
    (c.in_ok-push.ensures.comments
    ∙ ap (λ (t : List ℕ). c.loop-line.parts.comments ++ comment_if c.args.language t c.in_ok-expression.expression) c.as_slice-in-loop-line-2.ensures)
    (c.in_ok-push.ensures.assertions
    ∙ ap (λ (t : List ℕ). c.loop-line.parts.assertions ++ assertion_if c.args.language t c.in_ok-expression.expression) c.as_slice-in-loop-line-2.ensures)

pub returns : goal.returns
returns c =
    subst (λ lines. AreParts c.args.language c.args.vars.now lines c.loop-line.parts)
    (take_all c.loop-line.line-index c.args.lines.now c.loop-line-test.false) c.loop-line.invariant
