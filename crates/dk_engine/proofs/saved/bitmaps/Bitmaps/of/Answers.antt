use Rattle.dk_engine.proofs.saved.bitmaps.Bitmaps.of.Goals as goal

pub invariant_of-result : goal.invariant_of-result
invariant_of-result c = (c.held-held.ensures.held, c.requires)
