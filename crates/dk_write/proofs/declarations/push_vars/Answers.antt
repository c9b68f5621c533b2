use Rattle.dk_write.specs.Declarations.{var_lines}
use Rattle.dk_write.proofs.Loops.{lines_more}
use Rattle.dk_write.proofs.declarations.push_vars.Goals as goal

pub loop-var-preserved : goal.loop-var-preserved
loop-var-preserved c =
    lines_more (var_lines c.args.edges.now) c.args.vars.now c.loop-var.var-index c.var-item.result c.args.text.now c.loop-var.text c.push_var.new.text
    c.loop-var-test.true c.var-item.is c.loop-var.invariant c.in_ok-push_var.ensures
