use Rattle.std.proofs.Common.{sym}
use Rattle.dk_points.proofs.Keeping.{entry-at, entry-before}
use Rattle.dk_points.proofs.points.Points.entry.Goals as goal

pub returns-clause-entry : goal.returns-clause-entry
returns-clause-entry c = rw (c.deref.ensures) (sym (entry-at c.args.self.now c.args.p.0 c.place.result.now c.place.ensures.point c.place.ensures.kept))

pub returns-clause-within : goal.returns-clause-within
returns-clause-within c = rw (c.deref.ensures) (entry-before c.args.self.now c.args.p.0 c.place.result.now c.place.ensures.kept)
