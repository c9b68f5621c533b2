use Rattle.std.specs.Prelude.{◌↔◌, ◌<◌, IsTrue, List}
use Rattle.std.proofs.Common.{subst}
use Rattle.dk_base.specs.declared.kinds.VarId.{VarId}
use Rattle.dk_presence.specs.Patterns.{counted_by}
use Rattle.dk_template.specs.Templates.{form_of}
use Rattle.dk_engine.specs.Saved.Restored.{IsStateOf}
use Rattle.dk_engine.proofs.BitmapFacts.{state_alike}
use Rattle.dk_engine.proofs.saved.conditions.has_state.Goals as goal

pub returns : goal.returns
returns c =
    let held = c.args.kept.now.held in
    let by_held = subst (λ hs. IsTrue c.are_together-together.result ↔ (0 < counted_by hs c.as_slice.result.now)) c.requires.bitmaps c.are_together-together.ensures in
    let slot = c.args.slot.now in
    let told = subst (λ (vs : List VarId). IsTrue c.are_together-together.result ↔ (0 < counted_by held vs)) c.as_slice.ensures.items by_held in
    let alike = state_alike (form_of slot.row) (counted_by held slot.leaders) c.are_together-together.result slot.state told in
    let is = subst (λ n. IsTrue c.is_state_of.result ↔ IsStateOf (form_of slot.row) n slot.state) c.bit.ensures c.is_state_of.ensures in
    (λ t. alike.0 (is.0 t), λ s. is.1 (alike.1 s))
