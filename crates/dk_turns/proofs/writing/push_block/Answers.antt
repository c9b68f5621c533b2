use Rattle.std.proofs.Common.{◌∙◌, ◌++◌, ℕ, List, ap}
use Rattle.dk_turns.specs.Reading.{first_block, trimmed_lines}
use Rattle.dk_turns.specs.Turns.{block_text}
use Rattle.dk_turns.proofs.writing.push_block.Goals as goal

pub returns : goal.returns
returns c =
    c.in_ok-push_run.ensures ∙ c.in_ok-record.ensures
    ∙ ap (λ (t : List ℕ). t ++ block_text (first_block (trimmed_lines c.args.bytes.now))) c.in_ok-push_gap.ensures
