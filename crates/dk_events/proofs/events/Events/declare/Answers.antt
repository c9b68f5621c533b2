use Rattle.std.proofs.Common.{sym, subst}
use Rattle.std.proofs.lemmas.Result.{err_from_is_err_and}
use Rattle.dk_events.specs.Following.{Following}
use Rattle.dk_events.specs.Standing.{EventsStandFor}
use Rattle.dk_events.proofs.events.Events.declare.Goals as goal

pub returns-clause-gives : goal.returns-clause-gives
returns-clause-gives c h stands =
    let taken = c.in_ok-events.ensures.gives h (subst (λ (f : Following). EventsStandFor f h) (sym c.replace.ensures.value) stands) in
    (taken.0, subst (λ (f : Following). EventsStandFor f taken.0) (sym c.drop-2.view_is) taken.1, taken.2)

pub returns-in_err-events-clause-gives : goal.returns-in_err-events-clause-gives
returns-in_err-events-clause-gives c h stands =
    let p = err_from_is_err_and c.from_residual.result c.from_residual.ensures.1 in
    rw (p.1, p.2) (c.in_err-events.ensures.gives h (subst (λ (f : Following). EventsStandFor f h) (sym c.replace.ensures.value) stands))
