use Rattle.std.proofs.Common.{◌∙◌, refl, sym}
use Rattle.dk_points.proofs.Keeping.{decl-at}
use Rattle.dk_points.proofs.points.Points.decl.Goals as goal

pub returns-then-place : goal.returns-then-place
returns-then-place c = sym (decl-at c.args.self.now c.args.p.0 c.place-place.result.now c.place-place.ensures.point ∙ rw (c.if-place.true) refl)

pub returns-else-place : goal.returns-else-place
returns-else-place c = sym (decl-at c.args.self.now c.args.p.0 c.place-place.result.now c.place-place.ensures.point ∙ rw (c.if-place.false, c.deref.ensures) refl)
