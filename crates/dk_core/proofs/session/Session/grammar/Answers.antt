use Rattle.std.proofs.Common.{◌∙◌}
use Rattle.dk_core.proofs.Resuming.{grammar_told}
use Rattle.dk_core.proofs.session.Session.grammar.Goals as goal

pub returns-clause-history : goal.returns-clause-history
returns-clause-history g c h stands = c.grammar.ensures ∙ grammar_told c.args.self.now.kept h stands
