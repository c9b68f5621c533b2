use Rattle.std.proofs.Common.{◌≡◌, ◌∙◌, ◌==◌, ◌++◌, true, false, List, ℕ, length, append-nil, ap, sym}
use Rattle.dk_turns.specs.Reading.{first_run, trimmed_lines}
use Rattle.dk_turns.specs.Turns.{lines_text}
use Rattle.dk_turns.proofs.Fronting.{run_on, run_over}
use Rattle.dk_turns.proofs.Lining.{nothing_left}
use Rattle.dk_turns.proofs.writing.push_run.Goals as goal

pub run-preserved : goal.run-preserved
run-preserved c =
    let some : (length c.in-Some.line.now == 0) ≡ false = cc in
    ap (λ (t : List ℕ). t ++ lines_text (first_run (trimmed_lines c.in-Some.rest.now))) c.in_ok-push_line.ensures
    ∙ run_on c.in-Some.line.now (trimmed_lines c.in-Some.rest.now) c.run.text some
    ∙ ap (λ (ls : List (List ℕ)). c.run.text ++ lines_text (first_run ls)) (sym c.in-Some.ensures.first)
    ∙ c.run.invariant

pub returns-then-is_empty : goal.returns-then-is_empty
returns-then-is_empty c =
    let none : (length c.in-Some.line.now == 0) ≡ true = cc in
    sym (run_over c.in-Some.line.now (trimmed_lines c.in-Some.rest.now) c.run.text none)
    ∙ ap (λ (ls : List (List ℕ)). c.run.text ++ lines_text (first_run ls)) (sym c.in-Some.ensures.first)
    ∙ c.run.invariant

pub returns : goal.returns
returns c =
    sym (append-nil c.run.text)
    ∙ ap (λ (ls : List (List ℕ)). c.run.text ++ lines_text (first_run ls)) (sym (nothing_left c.run.left.now c.in_default.ensures.first))
    ∙ c.run.invariant
