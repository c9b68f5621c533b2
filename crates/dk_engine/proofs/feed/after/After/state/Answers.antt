use Rattle.std.proofs.Common.{sym}
use Rattle.dk_template.proofs.ProperStates.{proper_laws}
use Rattle.dk_template.specs.Templates.{form_of}
use Rattle.dk_engine.proofs.feed.after.After.state.Goals as goal

pub returns-then-breaks-clause-state : goal.returns-then-breaks-clause-state
returns-then-breaks-clause-state c = sym (c.breaks.ensures c.if-breaks.true)

pub returns-then-breaks-clause-proper : goal.returns-then-breaks-clause-proper
returns-then-breaks-clause-proper c = (proper_laws (form_of c.args.row)).broken_proper
