use Rattle.std.proofs.Common.{◌∙◌, ap, length, sym, subst}
use Rattle.dk_core.proofs.Asking.{asked, have_told, if_ok_map}
use Rattle.dk_blocks.specs.Standing.{points_of as points_in}
use Rattle.dk_core.specs.Keeping.{Keeping}
use Rattle.dk_core.specs.Standing.{Stands}
use Rattle.dk_core.proofs.kept.SessionParts.have_samples.Goals as goal

pub returns-clause-long : goal.returns-clause-long
returns-clause-long c =
    if_ok_map c.have_samples.result _ _ c.have_samples.ensures.long
    (λ marks long. long ∙ ap length (c.points.ensures.points ∙ ap (λ (x : Keeping). points_in x.reader) c.self.view_is))

pub returns-clause-marks : goal.returns-clause-marks
returns-clause-marks c h stands =
    let k : Keeping = record { reader = c.self.inside.reader; grammar = c.self.inside.grammar; engines = c.self.inside.engines.items } in
    let own : Stands k h = subst (λ (x : Keeping). Stands x h) (sym c.self.view_is) stands in
    if_ok_map c.have_samples.result _ _ c.have_samples.ensures.marks
    (λ marks says. have_told k c.points.result.now h marks.items own c.points.ensures.points
    (says h.samples (asked k c.points.result.now c.as_slice.result.now h own c.points.ensures.points c.as_slice.ensures.value)))
