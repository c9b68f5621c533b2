use Rattle.std.proofs.Common.{Some, subst, sym}
use Rattle.dk_base.specs.Values.{values_of}
use Rattle.dk_events.specs.Telling.{EventFits}
use Rattle.dk_events.specs.declared.event.Event.{Event}
use Rattle.dk_hierarchy.specs.Samples.{all_vars_of}
use Rattle.dk_check.proofs.Taking.{on_ok, sample_fits}
use Rattle.dk_check.specs.Taking.{TakesEvent}
use Rattle.dk_check.proofs.checking.Checking.take_event.Goals as goal

pub take-requires-clause-point : goal.take-requires-clause-point
take-requires-clause-point c =
    let fits = subst (λ (e : Event). EventFits c.args.points.now (Some e)) c.in-Sample.is c.requires.fits in
    fits.0

pub take-requires-clause-sample : goal.take-requires-clause-sample
take-requires-clause-sample c =
    let fits = subst (λ (e : Event). EventFits c.args.points.now (Some e)) c.in-Sample.is c.requires.fits in
    sample_fits (all_vars_of c.args.points.now c.in-Sample.point.0) (values_of c.in-Sample.values.now) fits.1

pub returns-in-Sample : goal.returns-in-Sample
returns-in-Sample c =
    on_ok c.take.result _ _ _ _
    (λ claims up stands. subst (λ (e : Event). TakesEvent c.args.points.now c.args.file e c.args.self.now.checker c.take.new.self) (sym c.in-Sample.is)
    (record { claims = claims; kept_up = up; stands = stands }))
    c.take.ensures.claims c.take.ensures.kept_up c.take.ensures.stands
