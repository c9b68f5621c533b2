use Rattle.std.proofs.Common.{arith, rules, refl, subst, ◌≡◌, ◌∙◌, IfSome, Result, Ok, Err}
use Rattle.dk_lines.specs.Reading.{left_of}
use Rattle.dk_blocks.specs.History.{effect_of}
use Rattle.dk_blocks.specs.Standing.{block_resumed}
use Rattle.dk_blocks.specs.declared.reader.Step.{Step}
use Rattle.dk_blocks.specs.declared.reader.Step.TheVariants.{More, Ended}
use Rattle.dk_blocks.specs.declared.reader.Stop.{Stop}
use Rattle.dk_blocks.specs.LineSteps.{ClosesAt, ShapeAt, StepGives, StepShape, StepCounts, TurnCounts}
use Rattle.dk_blocks.proofs.Stepping.{begun, block_counts, closed_on, fits_at, told_on, told_stop}
use Rattle.dk_blocks.specs.Turns.{AfterFits, Goes, Ends, ending_at, turn_of}
use Rattle.dk_blocks.specs.declared.reader.Closed.{Closed}
use Rattle.dk_blocks.specs.declared.reader.Closed.TheVariants as after
use Rattle.dk_blocks.proofs.reader.read_block.Goals as goal

pub reading-init : goal.reading-init
reading-init g c = record {
  started = search rules;
  limits = search rules;
  grown = search rules;
  files = search rules;
  later = search rules;
  points = refl;
  fits = c.begin-block.ensures.fits;
  goes = λ h stands. begun c.args.ignores h c.args.kept.now c.begin-block.result c.args.lines.now (left_of c.args.lines.now (g.I.Inputs.rest c.args.inputs.now)) stands (c.begin-block.ensures.resumes c.args.ignores h stands);
}

pub reading-preserved-in-Ok-More : goal.reading-preserved-in-Ok-More
reading-preserved-in-Ok-More g c =
    let is : c.take_line.result ≡ Ok More = search rules in
    let counts = subst (λ (t : Result Step Stop). StepCounts c.reading.lines t c.take_line.new.lines) is c.take_line.ensures.counts in
    record {
      started = counts.1;
      limits = counts.0 ∙ c.reading.invariant.limits;
      grown = omega (arith, counts.2, c.reading.invariant.grown);
      files = c.take_line.ensures.files ∙ c.reading.invariant.files;
      later = omega (arith, c.take_line.ensures.later, c.reading.invariant.later);
      points = c.reading.invariant.points;
      fits = subst (λ (t : Result Step Stop). StepShape c.reading.kept c.reading.block c.take_line.new.block t) is c.take_line.ensures.shape;
      goes = λ h stands.
          told_on c.args.ignores (effect_of c.args.ignores h) c.args.lines.now c.reading.lines c.take_line.new.lines _ _ _ c.reading.kept c.reading.block (Ok (Goes c.reading.kept c.take_line.new.block)) (c.reading.invariant.goes h stands)
          (λ now holds. subst (λ (t : Result Step Stop). IfSome (left_of c.reading.lines (g.I.Inputs.rest c.reading.inputs)) (λ ys. StepGives c.args.ignores c.reading.kept c.take_line.new.block (block_resumed c.args.ignores now c.reading.block) c.reading.lines ys t c.take_line.new.lines (left_of c.take_line.new.lines (g.I.Inputs.rest c.take_line.new.inputs)))) is
          (c.take_line.ensures.gives c.args.ignores now holds));
    }

pub reading-preserved : goal.reading-preserved
reading-preserved g c =
    let is : c.take_line.result ≡ Ok (Ended c.in-Ok-Ended.number c.in-Ok-Ended.is_over) = search rules in
    let turns : c.close_block.result ≡ Ok after.Goes = search rules in
    let shape : ShapeAt c.in-Ok-Ended.is_over (Ok (Goes c.close_block.new.kept c.close_block.new.block)) = subst (λ (t : Result Closed Stop). ShapeAt c.in-Ok-Ended.is_over (turn_of c.close_block.new.kept c.close_block.new.block t)) turns c.close_block.ensures.shape in
    let counts : TurnCounts c.reading.lines (Ok (Goes c.close_block.new.kept c.close_block.new.block)) c.take_line.new.lines =
    subst (λ (t : Result Step Stop). StepCounts c.reading.lines t c.take_line.new.lines) is c.take_line.ensures.counts (Ok (Goes c.close_block.new.kept c.close_block.new.block)) shape in
    let same = subst (λ (t : Result Step Stop). StepShape c.reading.kept c.reading.block c.take_line.new.block t) is c.take_line.ensures.shape in
    record {
      started = counts.1;
      limits = counts.0 ∙ c.reading.invariant.limits;
      grown = omega (arith, counts.2, c.reading.invariant.grown);
      files = c.take_line.ensures.files ∙ c.reading.invariant.files;
      later = omega (arith, c.take_line.ensures.later, c.reading.invariant.later);
      points = c.close_block.ensures.points ∙ c.reading.invariant.points;
      fits = fits_at c.in-Ok-Ended.is_over c.close_block.new.kept c.close_block.new.block shape;
      goes = λ h stands.
          told_on c.args.ignores (effect_of c.args.ignores h) c.args.lines.now c.reading.lines c.take_line.new.lines _ _ _ c.reading.kept c.reading.block (Ok (Goes c.close_block.new.kept c.close_block.new.block)) (c.reading.invariant.goes h stands)
          (λ now holds. closed_on c.args.ignores now c.reading.kept c.reading.block c.take_line.new.block c.reading.lines c.take_line.new.lines c.in-Ok-Ended.number c.in-Ok-Ended.is_over _ _ (Ok (Goes c.close_block.new.kept c.close_block.new.block)) same
          (subst (λ (t : Result Step Stop). IfSome (left_of c.reading.lines (g.I.Inputs.rest c.reading.inputs)) (λ ys. StepGives c.args.ignores c.reading.kept c.take_line.new.block (block_resumed c.args.ignores now c.reading.block) c.reading.lines ys t c.take_line.new.lines (left_of c.take_line.new.lines (g.I.Inputs.rest c.take_line.new.inputs)))) is
          (c.take_line.ensures.gives c.args.ignores now holds))
          (subst (λ (t : Result Closed Stop). ClosesAt c.args.ignores c.in-Ok-Ended.is_over (block_resumed c.args.ignores now c.take_line.new.block) c.in-Ok-Ended.number (turn_of c.close_block.new.kept c.close_block.new.block t)) turns (c.close_block.ensures.gives now holds)));
    }

pub returns-in-Ok-Ends-clause-gives : goal.returns-in-Ok-Ends-clause-gives
returns-in-Ok-Ends-clause-gives g c h stands =
    let is : c.take_line.result ≡ Ok (Ended c.in-Ok-Ended.number c.in-Ok-Ended.is_over) = search rules in
    let turns : c.close_block.result ≡ Ok (after.Ends c.in-Ok-Ends.end) = search rules in
    let same = subst (λ (t : Result Step Stop). StepShape c.reading.kept c.reading.block c.take_line.new.block t) is c.take_line.ensures.shape in
    told_on c.args.ignores (effect_of c.args.ignores h) c.args.lines.now c.reading.lines c.take_line.new.lines _ _ _ c.reading.kept c.reading.block (Ok (Ends (ending_at c.close_block.new.kept c.in-Ok-Ends.end))) (c.reading.invariant.goes h stands)
    (λ now holds. closed_on c.args.ignores now c.reading.kept c.reading.block c.take_line.new.block c.reading.lines c.take_line.new.lines c.in-Ok-Ended.number c.in-Ok-Ended.is_over _ _ (Ok (Ends (ending_at c.close_block.new.kept c.in-Ok-Ends.end))) same
    (subst (λ (t : Result Step Stop). IfSome (left_of c.reading.lines (g.I.Inputs.rest c.reading.inputs)) (λ ys. StepGives c.args.ignores c.reading.kept c.take_line.new.block (block_resumed c.args.ignores now c.reading.block) c.reading.lines ys t c.take_line.new.lines (left_of c.take_line.new.lines (g.I.Inputs.rest c.take_line.new.inputs)))) is
    (c.take_line.ensures.gives c.args.ignores now holds))
    (subst (λ (t : Result Closed Stop). ClosesAt c.args.ignores c.in-Ok-Ended.is_over (block_resumed c.args.ignores now c.take_line.new.block) c.in-Ok-Ended.number (turn_of c.close_block.new.kept c.close_block.new.block t)) turns (c.close_block.ensures.gives now holds)))

pub returns-in-Ok-Ends-clause-counts : goal.returns-in-Ok-Ends-clause-counts
returns-in-Ok-Ends-clause-counts g c =
    let is : c.take_line.result ≡ Ok (Ended c.in-Ok-Ended.number c.in-Ok-Ended.is_over) = search rules in
    let turns : c.close_block.result ≡ Ok (after.Ends c.in-Ok-Ends.end) = search rules in
    let shape : ShapeAt c.in-Ok-Ended.is_over (Ok (Ends (ending_at c.close_block.new.kept c.in-Ok-Ends.end))) = subst (λ (t : Result Closed Stop). ShapeAt c.in-Ok-Ended.is_over (turn_of c.close_block.new.kept c.close_block.new.block t)) turns c.close_block.ensures.shape in
    block_counts c.args.lines.now c.reading.lines c.take_line.new.lines (ending_at c.close_block.new.kept c.in-Ok-Ends.end) c.reading.invariant.limits c.reading.invariant.grown
    (subst (λ (t : Result Step Stop). StepCounts c.reading.lines t c.take_line.new.lines) is c.take_line.ensures.counts (Ok (Ends (ending_at c.close_block.new.kept c.in-Ok-Ends.end))) shape)

pub returns-in-Err-close_block-clause-gives : goal.returns-in-Err-close_block-clause-gives
returns-in-Err-close_block-clause-gives g c h stands =
    let is : c.take_line.result ≡ Ok (Ended c.in-Ok-Ended.number c.in-Ok-Ended.is_over) = search rules in
    let turns : c.close_block.result ≡ Err c.in-Err-close_block.stop = search rules in
    let same = subst (λ (t : Result Step Stop). StepShape c.reading.kept c.reading.block c.take_line.new.block t) is c.take_line.ensures.shape in
    told_stop c.args.ignores (effect_of c.args.ignores h) c.args.lines.now c.take_line.new.lines _ _ c.in-Err-close_block.stop
    (told_on c.args.ignores (effect_of c.args.ignores h) c.args.lines.now c.reading.lines c.take_line.new.lines _ _ _ c.reading.kept c.reading.block (Err c.in-Err-close_block.stop) (c.reading.invariant.goes h stands)
    (λ now holds. closed_on c.args.ignores now c.reading.kept c.reading.block c.take_line.new.block c.reading.lines c.take_line.new.lines c.in-Ok-Ended.number c.in-Ok-Ended.is_over _ _ (Err c.in-Err-close_block.stop) same
    (subst (λ (t : Result Step Stop). IfSome (left_of c.reading.lines (g.I.Inputs.rest c.reading.inputs)) (λ ys. StepGives c.args.ignores c.reading.kept c.take_line.new.block (block_resumed c.args.ignores now c.reading.block) c.reading.lines ys t c.take_line.new.lines (left_of c.take_line.new.lines (g.I.Inputs.rest c.take_line.new.inputs)))) is
    (c.take_line.ensures.gives c.args.ignores now holds))
    (subst (λ (t : Result Closed Stop). ClosesAt c.args.ignores c.in-Ok-Ended.is_over (block_resumed c.args.ignores now c.take_line.new.block) c.in-Ok-Ended.number (turn_of c.close_block.new.kept c.close_block.new.block t)) turns (c.close_block.ensures.gives now holds))))

pub returns-in-Err-clause-gives : goal.returns-in-Err-clause-gives
returns-in-Err-clause-gives g c h stands =
    let is : c.take_line.result ≡ Err c.in-Err.stop = search rules in
    told_stop c.args.ignores (effect_of c.args.ignores h) c.args.lines.now c.take_line.new.lines _ _ c.in-Err.stop
    (told_on c.args.ignores (effect_of c.args.ignores h) c.args.lines.now c.reading.lines c.take_line.new.lines _ _ _ c.reading.kept c.reading.block (Err c.in-Err.stop) (c.reading.invariant.goes h stands)
    (λ now holds. subst (λ (t : Result Step Stop). IfSome (left_of c.reading.lines (g.I.Inputs.rest c.reading.inputs)) (λ ys. StepGives c.args.ignores c.reading.kept c.take_line.new.block (block_resumed c.args.ignores now c.reading.block) c.reading.lines ys t c.take_line.new.lines (left_of c.take_line.new.lines (g.I.Inputs.rest c.take_line.new.inputs)))) is
    (c.take_line.ensures.gives c.args.ignores now holds)))

pub returns-in-Ok-Ends-clause-fits : goal.returns-in-Ok-Ends-clause-fits
returns-in-Ok-Ends-clause-fits g c =
    let turns : c.close_block.result ≡ Ok (after.Ends c.in-Ok-Ends.end) = search rules in
    subst (λ (t : Result Closed Stop). AfterFits c.close_block.new.kept.points t) turns c.close_block.ensures.fits
