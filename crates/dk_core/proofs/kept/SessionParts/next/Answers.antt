use Rattle.std.proofs.Common.{◌≡◌, true, false, IfSome, Option, Some, None, Result, Ok, Err, rules, subst, sym}
use Rattle.std.proofs.lemmas.Result.{err_from_is_err_and}
use Rattle.dk_base.specs.declared.faults.Fault.{Fault}
use Rattle.dk_lines.specs.Reading.{left_of}
use Rattle.dk_blocks.specs.Finding.{outcome_of}
use Rattle.dk_blocks.specs.Standing.{ReaderStandsFor, left_behind, left_with_answer}
use Rattle.dk_blocks.specs.Steps.{NextBlock}
use Rattle.dk_blocks.specs.declared.found.Found.{Found}
use Rattle.dk_core.proofs.Taking.{fault_on, none_on, refused_on, taken_on}
use Rattle.dk_core.specs.Keeping.{Keeping}
use Rattle.dk_core.specs.Steps.{NextKept}
use Rattle.dk_core.specs.Taking.{TakenAs}
use Rattle.dk_core.proofs.kept.SessionParts.next.Goals as goal

pub returns-in-Some-clause-gives : goal.returns-in-Some-clause-gives
returns-in-Some-clause-gives g c h reads =
    let k : Keeping = record { reader = c.self.inside.reader; grammar = c.self.inside.grammar; engines = c.self.inside.engines.items } in
    let own : ReaderStandsFor k.reader h = subst (λ (x : Keeping). ReaderStandsFor x.reader h) (sym c.self.view_is) reads in
    let is : c.next.result ≡ Ok (Some c.in-Some.found) = search rules in
    let takes : c.take.result ≡ Ok tt = search rules in
    subst (λ (x : Keeping). IfSome (left_of c.args.lines.now (g.I.Inputs.rest c.args.inputs.now)) (λ xs. NextKept c.args.ignores x h c.args.lines.now xs (Ok (c.take.new.self, true)) c.next.new.lines (left_of c.next.new.lines (g.I.Inputs.rest c.next.new.inputs)))) c.self.view_is
    (taken_on c.args.ignores k c.next.new.self c.take.new.self h c.args.lines.now c.next.new.lines _ _ c.in-Some.found c.self.invariant c.in_ok-take-in-Some.ensures.counts.1
    (λ now holds. subst (λ (r : Result Unit Fault). TakenAs (record k { reader = c.next.new.self }) h (left_behind c.take.new.self r) (outcome_of now (Some c.in-Some.found))) takes (c.take.ensures.gives h now holds))
    (subst (λ (r : Result (Option Found) Fault). IfSome (left_of c.args.lines.now (g.I.Inputs.rest c.args.inputs.now)) (λ xs. NextBlock c.args.ignores k.reader h c.args.lines.now xs (left_with_answer c.next.new.self r) c.next.new.lines (left_of c.next.new.lines (g.I.Inputs.rest c.next.new.inputs)))) is (c.next.ensures.gives h own)))

pub returns-in_err-take-in-Some-clause-gives : goal.returns-in_err-take-in-Some-clause-gives
returns-in_err-take-in-Some-clause-gives g c h reads =
    let p = err_from_is_err_and c.from_residual-in_err-take-in-Some.result c.from_residual-in_err-take-in-Some.ensures.1 in
    let k : Keeping = record { reader = c.self.inside.reader; grammar = c.self.inside.grammar; engines = c.self.inside.engines.items } in
    let own : ReaderStandsFor k.reader h = subst (λ (x : Keeping). ReaderStandsFor x.reader h) (sym c.self.view_is) reads in
    let is : c.next.result ≡ Ok (Some c.in-Some.found) = search rules in
    let takes : c.take.result ≡ Err c.in_err-take-in-Some.field-0.0 = search rules in
    rw (p.1, p.2) (subst (λ (x : Keeping). IfSome (left_of c.args.lines.now (g.I.Inputs.rest c.args.inputs.now)) (λ xs. NextKept c.args.ignores x h c.args.lines.now xs (Err c.in_err-take-in-Some.field-0.0) c.next.new.lines (left_of c.next.new.lines (g.I.Inputs.rest c.next.new.inputs)))) c.self.view_is
    (refused_on c.args.ignores k c.next.new.self h c.args.lines.now c.next.new.lines _ _ c.in-Some.found c.in_err-take-in-Some.field-0.0
    (λ now holds. subst (λ (r : Result Unit Fault). TakenAs (record k { reader = c.next.new.self }) h (left_behind c.take.new.self r) (outcome_of now (Some c.in-Some.found))) takes (c.take.ensures.gives h now holds))
    (subst (λ (r : Result (Option Found) Fault). IfSome (left_of c.args.lines.now (g.I.Inputs.rest c.args.inputs.now)) (λ xs. NextBlock c.args.ignores k.reader h c.args.lines.now xs (left_with_answer c.next.new.self r) c.next.new.lines (left_of c.next.new.lines (g.I.Inputs.rest c.next.new.inputs)))) is (c.next.ensures.gives h own))))

pub returns-clause-gives : goal.returns-clause-gives
returns-clause-gives g c h reads =
    let k : Keeping = record { reader = c.self.inside.reader; grammar = c.self.inside.grammar; engines = c.self.inside.engines.items } in
    let own : ReaderStandsFor k.reader h = subst (λ (x : Keeping). ReaderStandsFor x.reader h) (sym c.self.view_is) reads in
    let is : c.next.result ≡ Ok None = search rules in
    subst (λ (x : Keeping). IfSome (left_of c.args.lines.now (g.I.Inputs.rest c.args.inputs.now)) (λ xs. NextKept c.args.ignores x h c.args.lines.now xs (Ok (record k { reader = c.next.new.self }, false)) c.next.new.lines (left_of c.next.new.lines (g.I.Inputs.rest c.next.new.inputs)))) c.self.view_is
    (none_on c.args.ignores k c.next.new.self h c.args.lines.now c.next.new.lines _ _ c.self.invariant
    (subst (λ (r : Result (Option Found) Fault). IfSome (left_of c.args.lines.now (g.I.Inputs.rest c.args.inputs.now)) (λ xs. NextBlock c.args.ignores k.reader h c.args.lines.now xs (left_with_answer c.next.new.self r) c.next.new.lines (left_of c.next.new.lines (g.I.Inputs.rest c.next.new.inputs)))) is (c.next.ensures.gives h own)))

pub returns-in_err-found-clause-gives : goal.returns-in_err-found-clause-gives
returns-in_err-found-clause-gives g c h reads =
    let p = err_from_is_err_and c.from_residual.result c.from_residual.ensures.1 in
    let k : Keeping = record { reader = c.self.inside.reader; grammar = c.self.inside.grammar; engines = c.self.inside.engines.items } in
    let own : ReaderStandsFor k.reader h = subst (λ (x : Keeping). ReaderStandsFor x.reader h) (sym c.self.view_is) reads in
    let is : c.next.result ≡ Err c.in_err-found.field-0.0 = search rules in
    rw (p.1, p.2) (subst (λ (x : Keeping). IfSome (left_of c.args.lines.now (g.I.Inputs.rest c.args.inputs.now)) (λ xs. NextKept c.args.ignores x h c.args.lines.now xs (Err c.in_err-found.field-0.0) c.next.new.lines (left_of c.next.new.lines (g.I.Inputs.rest c.next.new.inputs)))) c.self.view_is
    (fault_on c.args.ignores k h c.args.lines.now c.next.new.lines _ _ c.in_err-found.field-0.0
    (subst (λ (r : Result (Option Found) Fault). IfSome (left_of c.args.lines.now (g.I.Inputs.rest c.args.inputs.now)) (λ xs. NextBlock c.args.ignores k.reader h c.args.lines.now xs (left_with_answer c.next.new.self r) c.next.new.lines (left_of c.next.new.lines (g.I.Inputs.rest c.next.new.inputs)))) is (c.next.ensures.gives h own))))
