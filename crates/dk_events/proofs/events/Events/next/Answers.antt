use Rattle.std.proofs.Common.{◌≡◌, IfSome, Option, Some, None, Result, Ok, Err, rules, subst, sym}
use Rattle.std.proofs.lemmas.Result.{err_from_is_err_and}
use Rattle.dk_base.specs.declared.faults.Fault.{Fault}
use Rattle.dk_lines.specs.Reading.{left_of}
use Rattle.dk_blocks.specs.Finding.{outcome_of}
use Rattle.dk_blocks.specs.Standing.{left_with_answer}
use Rattle.dk_blocks.specs.Steps.{NextBlock}
use Rattle.dk_blocks.specs.declared.found.Found.{Found}
use Rattle.dk_events.proofs.Followed.{told_fault, told_none, told_refused, told_taken}
use Rattle.dk_events.specs.Following.{Following}
use Rattle.dk_events.specs.Standing.{EventsStandFor, NextEvent, TakenAs}
use Rattle.dk_events.specs.declared.event.Event.{Event}
use Rattle.dk_events.proofs.events.Events.next.Goals as goal

pub returns-in_ok-take-in-Some-clause-gives : goal.returns-in_ok-take-in-Some-clause-gives
returns-in_ok-take-in-Some-clause-gives g c h stands =
    let f : Following = record { reader = c.self.inside.reader; vars = c.self.inside.vars.items; ignores = c.self.inside.ignores } in
    let own : EventsStandFor f h = subst (λ (x : Following). EventsStandFor x h) (sym c.self.view_is) stands in
    let is : c.next.result ≡ Ok (Some c.in-Some.found) = search rules in
    let takes : c.take.result ≡ Ok c.in_ok-take-in-Some.field-0 = search rules in
    subst (λ (x : Following). IfSome (left_of c.args.lines.now (g.I.Inputs.rest c.args.inputs.now)) (λ xs. NextEvent x h c.args.lines.now xs (Ok (c.take.new.self, Some c.in_ok-take-in-Some.field-0)) c.next.new.lines (left_of c.next.new.lines (g.I.Inputs.rest c.next.new.inputs)))) c.self.view_is
    (told_taken f c.take.new.self c.next.new.self h c.args.lines.now c.next.new.lines _ _ c.in-Some.found c.in_ok-take-in-Some.field-0 c.in_ok-take-in-Some.ensures.counts.1
    (λ now holds. subst (λ (r : Result Event Fault). TakenAs (left_with_answer c.take.new.self r) (outcome_of now (Some c.in-Some.found))) takes (c.take.ensures.gives now holds))
    (subst (λ (r : Result (Option Found) Fault). IfSome (left_of c.args.lines.now (g.I.Inputs.rest c.args.inputs.now)) (λ xs. NextBlock f.ignores f.reader h c.args.lines.now xs (left_with_answer c.next.new.self r) c.next.new.lines (left_of c.next.new.lines (g.I.Inputs.rest c.next.new.inputs)))) is (c.next.ensures.gives h own)))

pub returns-in_err-take-in-Some-clause-gives : goal.returns-in_err-take-in-Some-clause-gives
returns-in_err-take-in-Some-clause-gives g c h stands =
    let p = err_from_is_err_and c.from_residual-in_err-take-in-Some.result c.from_residual-in_err-take-in-Some.ensures.1 in
    let f : Following = record { reader = c.self.inside.reader; vars = c.self.inside.vars.items; ignores = c.self.inside.ignores } in
    let own : EventsStandFor f h = subst (λ (x : Following). EventsStandFor x h) (sym c.self.view_is) stands in
    let is : c.next.result ≡ Ok (Some c.in-Some.found) = search rules in
    let takes : c.take.result ≡ Err c.in_err-take-in-Some.field-0.0 = search rules in
    rw (p.1, p.2) (subst (λ (x : Following). IfSome (left_of c.args.lines.now (g.I.Inputs.rest c.args.inputs.now)) (λ xs. NextEvent x h c.args.lines.now xs (Err c.in_err-take-in-Some.field-0.0) c.next.new.lines (left_of c.next.new.lines (g.I.Inputs.rest c.next.new.inputs)))) c.self.view_is
    (told_refused f c.next.new.self h c.args.lines.now c.next.new.lines _ _ c.in-Some.found c.in_err-take-in-Some.field-0.0
    (λ now holds. subst (λ (r : Result Event Fault). TakenAs (left_with_answer c.take.new.self r) (outcome_of now (Some c.in-Some.found))) takes (c.take.ensures.gives now holds))
    (subst (λ (r : Result (Option Found) Fault). IfSome (left_of c.args.lines.now (g.I.Inputs.rest c.args.inputs.now)) (λ xs. NextBlock f.ignores f.reader h c.args.lines.now xs (left_with_answer c.next.new.self r) c.next.new.lines (left_of c.next.new.lines (g.I.Inputs.rest c.next.new.inputs)))) is (c.next.ensures.gives h own))))

pub returns-in-None-clause-gives : goal.returns-in-None-clause-gives
returns-in-None-clause-gives g c h stands =
    let f : Following = record { reader = c.self.inside.reader; vars = c.self.inside.vars.items; ignores = c.self.inside.ignores } in
    let own : EventsStandFor f h = subst (λ (x : Following). EventsStandFor x h) (sym c.self.view_is) stands in
    let is : c.next.result ≡ Ok None = search rules in
    subst (λ (x : Following). IfSome (left_of c.args.lines.now (g.I.Inputs.rest c.args.inputs.now)) (λ xs. NextEvent x h c.args.lines.now xs (Ok (record f { reader = c.next.new.self }, None)) c.next.new.lines (left_of c.next.new.lines (g.I.Inputs.rest c.next.new.inputs)))) c.self.view_is
    (told_none f c.next.new.self h c.args.lines.now c.next.new.lines _ _
    (subst (λ (r : Result (Option Found) Fault). IfSome (left_of c.args.lines.now (g.I.Inputs.rest c.args.inputs.now)) (λ xs. NextBlock f.ignores f.reader h c.args.lines.now xs (left_with_answer c.next.new.self r) c.next.new.lines (left_of c.next.new.lines (g.I.Inputs.rest c.next.new.inputs)))) is (c.next.ensures.gives h own)))

pub returns-in_err-found-clause-gives : goal.returns-in_err-found-clause-gives
returns-in_err-found-clause-gives g c h stands =
    let p = err_from_is_err_and c.from_residual.result c.from_residual.ensures.1 in
    let f : Following = record { reader = c.self.inside.reader; vars = c.self.inside.vars.items; ignores = c.self.inside.ignores } in
    let own : EventsStandFor f h = subst (λ (x : Following). EventsStandFor x h) (sym c.self.view_is) stands in
    let is : c.next.result ≡ Err c.in_err-found.field-0.0 = search rules in
    rw (p.1, p.2) (subst (λ (x : Following). IfSome (left_of c.args.lines.now (g.I.Inputs.rest c.args.inputs.now)) (λ xs. NextEvent x h c.args.lines.now xs (Err c.in_err-found.field-0.0) c.next.new.lines (left_of c.next.new.lines (g.I.Inputs.rest c.next.new.inputs)))) c.self.view_is
    (told_fault f h c.args.lines.now c.next.new.lines _ _ c.in_err-found.field-0.0
    (subst (λ (r : Result (Option Found) Fault). IfSome (left_of c.args.lines.now (g.I.Inputs.rest c.args.inputs.now)) (λ xs. NextBlock f.ignores f.reader h c.args.lines.now xs (left_with_answer c.next.new.self r) c.next.new.lines (left_of c.next.new.lines (g.I.Inputs.rest c.next.new.inputs)))) is (c.next.ensures.gives h own))))
