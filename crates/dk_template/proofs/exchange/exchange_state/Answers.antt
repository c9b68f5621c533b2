use Rattle.std.proofs.Common.{sym, subst}
use Rattle.dk_template.proofs.Exchanges.{proper_bounds, proper_exchanged}
use Rattle.dk_template.specs.Proper.{IsProper}
use Rattle.dk_template.proofs.exchange.exchange_state.Goals as goal

pub exchanged_state-requires : goal.exchanged_state-requires
exchanged_state-requires c = proper_bounds c.args.form c.args.state c.requires

pub returns-clause-proper : goal.returns-clause-proper
returns-clause-proper c = subst (IsProper c.args.form) (sym c.exchanged_state.ensures) (proper_exchanged c.args.form c.args.exchange c.args.state c.requires)
