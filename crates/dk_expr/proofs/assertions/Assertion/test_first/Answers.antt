use Rattle.dk_base.specs.Values.{values_of}
use Rattle.dk_forms.specs.declared.states.State.TheVariants as state
use Rattle.dk_expr.proofs.Violating.{first_kept, first_not_violated, is_other}
use Rattle.dk_expr.proofs.assertions.Assertion.test_first.Goals as goal

pub returns-clause-violated : goal.returns-clause-violated
returns-clause-violated c =
    first_not_violated c.args.self.now.row c.requires.row (values_of c.args.tuple.now) c.requires.tuple c.in_ok-next.next c.in_ok-next.ensures.state
    (is_other c.is_broken.result c.in_ok-next.next state.Broken c.if-is_broken.false c.is_broken.ensures)

pub returns-clause-state : goal.returns-clause-state
returns-clause-state c =
    first_kept c.args.self.now.row c.requires.row (values_of c.args.tuple.now) c.requires.tuple c.in_ok-next.next c.in_ok-next.ensures.state
    (is_other c.is_broken.result c.in_ok-next.next state.Broken c.if-is_broken.false c.is_broken.ensures)
