use Rattle.std.specs.Prelude.{filter, not}
use Rattle.std.proofs.Common.{◌∙◌, ap, rules}
use Rattle.std.proofs.lemmas.Fn.{filter_same}
use Rattle.dk_engine.specs.Feeding.{is_broken}
use Rattle.dk_engine.specs.declared.slots.slot.Slot.{Slot}
use Rattle.dk_engine.proofs.slots.Slots.drop_broken.Goals as goal

pub returns : goal.returns
returns c = filter_same _ (λ (s : Slot). not (is_broken s.state)) _ (λ x b f called. search rules) _ _ c.retain.ensures.filtered ∙ ap (filter (λ (s : Slot). not (is_broken s.state))) c.self.view_is
