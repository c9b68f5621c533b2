use Rattle.std.proofs.Common.{◌≡◌, arith, refl, slice_get, slice_set, subst, sym, Some}
use Rattle.dk_base.specs.Values.{values_of}
use Rattle.dk_events.proofs.Followed.{got}
use Rattle.dk_events.specs.Telling.{EventFits}
use Rattle.dk_events.specs.declared.event.Event.{Event}
use Rattle.dk_split.proofs.Sections.{if_on}
use Rattle.dk_split.proofs.Taking.{sample_fits}
use Rattle.dk_split.specs.Growing.{AreKeptUp, TakesEvent}
use Rattle.dk_split.proofs.splits.Splits.take_event.Goals as goal

pub feed-requires : goal.feed-requires
feed-requires c =
    let ps = c.args.points.now in
    let splits = c.args.self.now.splits.items in
    let p = c.in-Sample.point.0 in
    let fits = subst (λ (e : Event). EventFits ps (Some e)) c.in-Sample.is c.requires.fits in
    let kept = subst (λ (e : Event). AreKeptUp ps e splits) c.in-Sample.is c.requires.kept in
    let at : slice_get splits p ≡ Some c.index_mut.result.now = got splits p c.index_mut.result.now (omega (arith, fits.0, kept.long)) c.index_mut.ensures.value in
    sample_fits ps splits p c.index_mut.result.now (values_of c.in-Sample.values.now) kept at fits.1

pub returns-in-Sample : goal.returns-in-Sample
returns-in-Sample c =
    let ps = c.args.points.now in
    let splits = c.args.self.now.splits.items in
    let p = c.in-Sample.point.0 in
    let fits = subst (λ (e : Event). EventFits ps (Some e)) c.in-Sample.is c.requires.fits in
    let kept = subst (λ (e : Event). AreKeptUp ps e splits) c.in-Sample.is c.requires.kept in
    let at : slice_get splits p ≡ Some c.index_mut.result.now = got splits p c.index_mut.result.now (omega (arith, fits.0, kept.long)) c.index_mut.ensures.value in
    if_on c.feed.result _ _
    (λ fed. subst (λ (e : Event). TakesEvent ps e splits (slice_set splits p c.feed.new.self)) (sym c.in-Sample.is)
    (record { old = c.index_mut.result.now; there = at; new = c.feed.new.self; is = refl; infos = c.feed.ensures.infos; by_grammar = c.feed.ensures.grammar; fed = fed }))
    c.feed.ensures.stand
