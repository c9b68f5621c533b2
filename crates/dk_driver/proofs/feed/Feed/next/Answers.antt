use Rattle.std.proofs.Common.{◌≡◌, ◌∙◌, IfSome, List, Option, Some, None, Result, Ok, refl, rules, subst, sym}
use Rattle.dk_base.specs.declared.faults.Fault.{Fault}
use Rattle.dk_blocks.specs.Standing.{left_with_answer}
use Rattle.dk_events.specs.Standing.{NextEvent, points_of}
use Rattle.dk_events.specs.Telling.{PointsGoOn}
use Rattle.dk_events.specs.declared.event.Event.{Event}
use Rattle.dk_lines.specs.Reading.{left_of}
use Rattle.dk_points.specs.Table.{Point}
use Rattle.dk_driver.proofs.Taking.{none_on, taken_on}
use Rattle.dk_driver.proofs.feed.Feed.next.Goals as goal

pub take-requires-clause-behind : goal.take-requires-clause-behind
take-requires-clause-behind g c =
    let found : c.in_ok-event.field-0 ≡ Some c.in-Some.event = search rules in
    let goes = subst (λ (o : Option Event). PointsGoOn (points_of c.args.self.now.events) o (points_of c.next.new.self)) found c.in_ok-event.ensures.points in (
      points_of c.args.self.now.events,
      c.requires.fits,
      subst (λ (ps : List Point). PointsGoOn (points_of c.args.self.now.events) (Some c.in-Some.event) ps) (sym c.points.ensures.points) goes,
    )

pub returns-in-Ok-clause-gives : goal.returns-in-Ok-clause-gives
returns-in-Ok-clause-gives g c h records stands =
    let is : c.next.result ≡ Ok (Some c.in-Some.event) = search rules in
    taken_on g.C.Consumer.stands c.args.place c.args.self.now (record c.args.self.now { events = c.next.new.self; consumer = c.take.new.self }) c.next.new.self h records c.args.lines.now c.next.new.lines _ _ c.in-Some.event refl
    (λ old all points stand tells. c.in-Ok.ensures.stands old all (points ∙ sym c.points.ensures.points) stand tells)
    stands
    (subst (λ (r : Result (Option Event) Fault). IfSome (left_of c.args.lines.now (g.I.Inputs.rest c.args.inputs.now)) (λ xs. NextEvent c.args.self.now.events h c.args.lines.now xs (left_with_answer c.next.new.self r) c.next.new.lines (left_of c.next.new.lines (g.I.Inputs.rest c.next.new.inputs)))) is
    (c.next.ensures.gives h stands.events))

pub returns-in-None-clause-fits : goal.returns-in-None-clause-fits
returns-in-None-clause-fits g c =
    let found : c.in_ok-event.field-0 ≡ None = search rules in
    let same : points_of c.next.new.self ≡ points_of c.args.self.now.events =
    subst (λ (o : Option Event). PointsGoOn (points_of c.args.self.now.events) o (points_of c.next.new.self)) found c.in_ok-event.ensures.points in
    subst (λ (ps : List Point). g.C.Consumer.fits c.args.self.now.consumer ps) (sym same) c.requires.fits

pub returns-in-None-clause-gives : goal.returns-in-None-clause-gives
returns-in-None-clause-gives g c h records stands =
    let is : c.next.result ≡ Ok None = search rules in
    none_on g.C.Consumer.stands c.args.place c.args.self.now (record c.args.self.now { events = c.next.new.self }) h records c.args.lines.now c.next.new.lines _ _ refl stands
    (subst (λ (r : Result (Option Event) Fault). IfSome (left_of c.args.lines.now (g.I.Inputs.rest c.args.inputs.now)) (λ xs. NextEvent c.args.self.now.events h c.args.lines.now xs (left_with_answer c.next.new.self r) c.next.new.lines (left_of c.next.new.lines (g.I.Inputs.rest c.next.new.inputs)))) is
    (c.next.ensures.gives h stands.events))
