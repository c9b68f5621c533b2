use Rattle.std.proofs.Common.{◌∙◌, sym}
use Rattle.dk_engine.proofs.saved.conditions.is_over.Goals as goal

pub returns-then-admits : goal.returns-then-admits
returns-then-admits c = (
  λ t. record { of_grammar = c.has.ensures.0 c.if-not-has.false; admitted = sym c.admits.ensures ∙ c.if-admits.true; lead = c.all_lead.ensures.0 t },
  λ over. c.all_lead.ensures.1 over.lead,
)
