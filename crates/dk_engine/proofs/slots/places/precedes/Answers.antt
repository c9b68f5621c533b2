use Rattle.std.proofs.Common.{◌∙◌, arith, sym}
use Rattle.dk_engine.proofs.SlotPlaces.{precedes_past}
use Rattle.dk_engine.proofs.slots.places.precedes.Goals as goal

pub returns-then-i-others : goal.returns-then-i-others
returns-then-i-others c = sym (precedes_past c.args.vars.now c.args.others.now c.loop-i.i (omega arith)) ∙ c.loop-i.invariant
