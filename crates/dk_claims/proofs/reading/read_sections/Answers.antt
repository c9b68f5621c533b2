use Rattle.std.proofs.Common.{◌≡◌, ◌∙◌, ap, arith, refl, rules, subst, Bool, true, false, Result, Ok, Err}
use Rattle.dk_lines.specs.Reading.{left_of}
use Rattle.dk_lines.specs.declared.lines.LineFault.{LineFault}
use Rattle.dk_claims.specs.Steps.{TakesLine}
use Rattle.dk_claims.proofs.Lining.{all_begin, all_end, all_faulty, grew, no_more, no_more_behind, steps}
use Rattle.dk_claims.proofs.reading.read_sections.Goals as goal

pub reading-init : goal.reading-init
reading-init g c = record {
  started = c.requires;
  limits = refl;
  files = refl;
  later = omega arith;
  goes = all_begin c.args.lines.now _ c.new-sections.result c.new-sections.ensures;
}

pub reading-preserved : goal.reading-preserved
reading-preserved g c =
    let is : c.take_line.result ≡ Ok true = search rules in
    let took = subst (λ (r : Result Bool LineFault). TakesLine c.reading.sections c.reading.lines (left_of c.reading.lines (g.I.Inputs.rest c.reading.inputs)) r c.take_line.new.sections c.take_line.new.lines (left_of c.take_line.new.lines (g.I.Inputs.rest c.take_line.new.inputs))) is c.take_line.ensures.takes in
    let numbers = grew _ _ _ _ _ _ took in
    record {
      started = numbers.started;
      limits = numbers.limits ∙ c.reading.invariant.limits;
      files = c.take_line.ensures.files ∙ c.reading.invariant.files;
      later = omega (arith, c.take_line.ensures.later, c.reading.invariant.later);
      goes = steps c.args.lines.now c.reading.lines c.take_line.new.lines _ _ _ c.reading.sections c.take_line.new.sections c.reading.invariant.goes took;
    }

pub returns-in-Ok-clause-gives : goal.returns-in-Ok-clause-gives
returns-in-Ok-clause-gives g c =
    let is : c.take_line.result ≡ Ok false = search rules in
    let took = subst (λ (r : Result Bool LineFault). TakesLine c.reading.sections c.reading.lines (left_of c.reading.lines (g.I.Inputs.rest c.reading.inputs)) r c.take_line.new.sections c.take_line.new.lines (left_of c.take_line.new.lines (g.I.Inputs.rest c.take_line.new.inputs))) is c.take_line.ensures.takes in
    all_end c.args.lines.now c.reading.lines c.take_line.new.lines _ _ _ c.reading.sections c.take_line.new.sections _ c.reading.invariant.goes took c.in-Ok.ensures

pub returns-in-Err-clause-gives : goal.returns-in-Err-clause-gives
returns-in-Err-clause-gives g c =
    let is : c.take_line.result ≡ Err c.in-Err.fault = search rules in
    let took = subst (λ (r : Result Bool LineFault). TakesLine c.reading.sections c.reading.lines (left_of c.reading.lines (g.I.Inputs.rest c.reading.inputs)) r c.take_line.new.sections c.take_line.new.lines (left_of c.take_line.new.lines (g.I.Inputs.rest c.take_line.new.inputs))) is c.take_line.ensures.takes in
    all_faulty c.args.lines.now c.reading.lines c.take_line.new.lines _ _ _ c.reading.sections c.take_line.new.sections c.in-Err.fault c.reading.invariant.goes took

pub returns-in-Ok-clause-ended : goal.returns-in-Ok-clause-ended
returns-in-Ok-clause-ended g c other =
    let is : c.take_line.result ≡ Ok false = search rules in
    let took = subst (λ (r : Result Bool LineFault). TakesLine c.reading.sections c.reading.lines (left_of c.reading.lines (g.I.Inputs.rest c.reading.inputs)) r c.take_line.new.sections c.take_line.new.lines (left_of c.take_line.new.lines (g.I.Inputs.rest c.take_line.new.inputs))) is c.take_line.ensures.takes in
    no_more c.reading.lines c.take_line.new.lines _ _ c.reading.sections c.take_line.new.sections took

pub returns-in-Err-clause-ended : goal.returns-in-Err-clause-ended
returns-in-Err-clause-ended g c other =
    let is : c.take_line.result ≡ Err c.in-Err.fault = search rules in
    let took = subst (λ (r : Result Bool LineFault). TakesLine c.reading.sections c.reading.lines (left_of c.reading.lines (g.I.Inputs.rest c.reading.inputs)) r c.take_line.new.sections c.take_line.new.lines (left_of c.take_line.new.lines (g.I.Inputs.rest c.take_line.new.inputs))) is c.take_line.ensures.takes in
    no_more_behind c.reading.lines c.take_line.new.lines _ _ c.reading.sections c.take_line.new.sections c.in-Err.fault took
    (λ e. other (ap (λ (f : LineFault). Err f) e))
