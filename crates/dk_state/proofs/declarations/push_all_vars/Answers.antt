use Rattle.dk_state.specs.Declarations.{var_lines}
use Rattle.dk_state.proofs.Pieces.{one_more}
use Rattle.dk_state.proofs.declarations.push_all_vars.Goals as goal

pub loop-var-preserved : goal.loop-var-preserved
loop-var-preserved c =
    one_more var_lines c.args.vars.now c.loop-var.var-index c.var-item.result c.args.text.now c.loop-var.text c.push_var_lines.new.text
    c.loop-var-test.true c.var-item.is c.loop-var.invariant c.in_ok-push_var_lines.ensures
