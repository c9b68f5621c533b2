use Rattle.std.proofs.Common.{rules, subst, ◌≡◌, Option, Some, None, Result, Ok, Err}
use Rattle.dk_lines.specs.declared.lines.LineFault.{LineFault}
use Rattle.dk_base.specs.Reading.{Line}
use Rattle.dk_lines.specs.Reading.{left_of}
use Rattle.dk_lines.specs.Answers.{heard, IsNextLine}
use Rattle.dk_blocks.proofs.Stepping.{step_line, step_end, step_fault, step_counts, end_counts, line_step_shape, never_read_step}
use Rattle.dk_blocks.proofs.reader.take_line.Goals as goal

pub returns-in-Ok-Some-clause-gives : goal.returns-in-Ok-Some-clause-gives
returns-in-Ok-Some-clause-gives g c ignores h stands =
    let line : Line = record { number = c.in-Ok-Some.line.number; bytes = c.in-Ok-Some.line.bytes.now } in
    let is : heard c.next.result ≡ Ok (Some line) = search rules in
    let gives = subst (λ (a : Result (Option Line) LineFault). IsNextLine c.args.lines.now (left_of c.args.lines.now (g.I.Inputs.rest c.args.inputs.now)) a c.next.follows.lender-at-none (left_of c.next.follows.lender-at-none (g.I.Inputs.rest c.next.new.inputs))) is c.next.follows.holds-at-none in
    step_line ignores h c.args.kept.now c.args.block.now c.with_line.new.block c.args.lines.now c.next.follows.lender-at-none _ _ line c.with_line.result gives (c.with_line.ensures.gives ignores h stands)

pub returns-in-Ok-Some-clause-counts : goal.returns-in-Ok-Some-clause-counts
returns-in-Ok-Some-clause-counts g c =
    let line : Line = record { number = c.in-Ok-Some.line.number; bytes = c.in-Ok-Some.line.bytes.now } in
    let is : heard c.next.result ≡ Ok (Some line) = search rules in
    let gives = subst (λ (a : Result (Option Line) LineFault). IsNextLine c.args.lines.now (left_of c.args.lines.now (g.I.Inputs.rest c.args.inputs.now)) a c.next.follows.lender-at-none (left_of c.next.follows.lender-at-none (g.I.Inputs.rest c.next.new.inputs))) is c.next.follows.holds-at-none in
    step_counts c.args.kept.now c.args.block.now c.with_line.new.block c.args.lines.now c.next.follows.lender-at-none _ _ line c.with_line.result gives c.with_line.ensures.shape

pub returns-in-Ok-Some-clause-shape : goal.returns-in-Ok-Some-clause-shape
returns-in-Ok-Some-clause-shape g c = line_step_shape c.args.kept.now c.args.block.now c.with_line.new.block c.with_line.result c.with_line.ensures.shape

pub returns-in-Ok-Some-clause-cause : goal.returns-in-Ok-Some-clause-cause
returns-in-Ok-Some-clause-cause g c e = absurd (never_read_step c.args.kept.now c.args.block.now c.with_line.new.block c.with_line.result c.with_line.ensures.shape e)

pub returns-in-Ok-Some-clause-emptied : goal.returns-in-Ok-Some-clause-emptied
returns-in-Ok-Some-clause-emptied g c e = absurd (never_read_step c.args.kept.now c.args.block.now c.with_line.new.block c.with_line.result c.with_line.ensures.shape e)

pub returns-in-Ok-None-clause-gives : goal.returns-in-Ok-None-clause-gives
returns-in-Ok-None-clause-gives g c ignores h stands =
    let is : heard c.next.result ≡ Ok None = search rules in
    let gives = subst (λ (a : Result (Option Line) LineFault). IsNextLine c.args.lines.now (left_of c.args.lines.now (g.I.Inputs.rest c.args.inputs.now)) a c.next.follows.lender-at-none (left_of c.next.follows.lender-at-none (g.I.Inputs.rest c.next.new.inputs))) is c.next.follows.holds-at-none in
    step_end ignores h c.args.kept.now c.args.block.now c.args.block.now c.args.lines.now c.next.follows.lender-at-none _ _ c.next_number-next.result c.next_number-next.ensures gives

pub returns-in-Ok-None-clause-counts : goal.returns-in-Ok-None-clause-counts
returns-in-Ok-None-clause-counts g c =
    let is : heard c.next.result ≡ Ok None = search rules in
    let gives = subst (λ (a : Result (Option Line) LineFault). IsNextLine c.args.lines.now (left_of c.args.lines.now (g.I.Inputs.rest c.args.inputs.now)) a c.next.follows.lender-at-none (left_of c.next.follows.lender-at-none (g.I.Inputs.rest c.next.new.inputs))) is c.next.follows.holds-at-none in
    end_counts c.args.lines.now c.next.follows.lender-at-none _ _ c.next_number-next.result gives

pub returns-in-Err-clause-gives : goal.returns-in-Err-clause-gives
returns-in-Err-clause-gives g c ignores h stands =
    let is : heard c.next.result ≡ Err c.in-Err.fault = search rules in
    let gives = subst (λ (a : Result (Option Line) LineFault). IsNextLine c.args.lines.now (left_of c.args.lines.now (g.I.Inputs.rest c.args.inputs.now)) a c.next.follows.lender-at-none (left_of c.next.follows.lender-at-none (g.I.Inputs.rest c.next.new.inputs))) is c.next.follows.holds-at-none in
    rw c.line_stop.ensures (step_fault ignores h c.args.kept.now c.args.block.now c.args.block.now c.args.lines.now c.next.follows.lender-at-none _ _ c.in-Err.fault gives)
