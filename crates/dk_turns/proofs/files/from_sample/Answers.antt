use Rattle.std.proofs.Common.{◌≡◌, ◌∙◌, false, sym}
use Rattle.dk_turns.specs.Blocks.{has_sample}
use Rattle.dk_turns.specs.Reading.{first_block, trimmed_lines}
use Rattle.dk_turns.proofs.Running.{sample_not_here}
use Rattle.dk_turns.proofs.files.from_sample.Goals as goal

pub runs-preserved : goal.runs-preserved
runs-preserved c =
    let no : has_sample (first_block (trimmed_lines c.runs.left.now)) ≡ false = sym c.has_sample.ensures ∙ c.if-has_sample.false in
    sample_not_here c.runs.left.now c.behind_run-left.result.now c.behind_run-left.ensures.lines no ∙ c.runs.invariant

pub returns-then-has_sample-clause-first : goal.returns-then-has_sample-clause-first
returns-then-has_sample-clause-first c some = sym c.has_sample.ensures ∙ c.if-has_sample.true
