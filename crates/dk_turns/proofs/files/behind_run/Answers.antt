use Rattle.std.proofs.Common.{◌≡◌, ◌∙◌, ◌==◌, [], true, false, ap, arith, length, sym}
use Rattle.dk_turns.specs.Reading.{behind_run, trimmed_lines}
use Rattle.dk_turns.proofs.Fronting.{behind_on, behind_over}
use Rattle.dk_turns.proofs.Lining.{nothing_left}
use Rattle.dk_turns.proofs.files.behind_run.Goals as goal

pub returns-then-is_empty-clause-lines : goal.returns-then-is_empty-clause-lines
returns-then-is_empty-clause-lines c =
    let none : (length c.in-Some.line.now == 0) ≡ true = cc in
    sym (behind_over c.in-Some.line.now (trimmed_lines c.in-Some.rest.now) none)
    ∙ ap behind_run (sym c.in-Some.ensures.first) ∙ c.run.invariant.lines

pub run-preserved : goal.run-preserved
run-preserved c =
    let some : (length c.in-Some.line.now == 0) ≡ false = cc in
    record {
      lines = sym (behind_on c.in-Some.line.now (trimmed_lines c.in-Some.rest.now) some)
          ∙ ap behind_run (sym c.in-Some.ensures.first) ∙ c.run.invariant.lines;
      within = omega (arith, c.in-Some.ensures.shorter);
    }

pub returns-clause-lines : goal.returns-clause-lines
returns-clause-lines c =
    let none : trimmed_lines c.run.left.now ≡ [] = nothing_left c.run.left.now c.in_default.ensures.first in
    none ∙ ap behind_run (sym none) ∙ c.run.invariant.lines

pub returns-clause-shorter : goal.returns-clause-shorter
returns-clause-shorter c some = omega (arith, ap length c.in_default.ensures.first)
