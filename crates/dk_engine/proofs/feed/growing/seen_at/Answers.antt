use Rattle.dk_engine.proofs.Stretches.{planar_proper}
use Rattle.dk_engine.proofs.feed.growing.seen_at.Goals as goal

pub stays_at-requires : goal.stays_at-requires
stays_at-requires c = planar_proper c.args.slot.now.row c.requires.row c.args.slot.now.state c.requires.proper

pub grows-requires-clause-state : goal.grows-requires-clause-state
grows-requires-clause-state c = planar_proper c.args.slot.now.row c.requires.row c.args.slot.now.state c.requires.proper
