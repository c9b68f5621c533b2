use Rattle.std.proofs.Common.{◌≡◌, ◌∙◌, ◌==◌, [], true, ap, fold, length, sym}
use Rattle.dk_turns.specs.Blocks.{plain_blocks}
use Rattle.dk_turns.specs.Reading.{with_block}
use Rattle.dk_turns.proofs.Fronting.{blank_is}
use Rattle.dk_turns.proofs.Running.{no_plain, plain_on}
use Rattle.dk_turns.proofs.files.push_plain_blocks.Goals as goal

pub runs-preserved : goal.runs-preserved
runs-preserved c =
    plain_on c.runs.left.now c.behind_run-left.result.now c.runs.text c.push_if_plain.new.text c.behind_run-left.ensures.lines c.in_ok-push_if_plain.ensures
    ∙ c.runs.invariant

pub returns : goal.returns
returns c =
    let over : (length c.runs.left.now == 0) ≡ true = cc in
    let none : plain_blocks c.runs.left.now ≡ [] = ap plain_blocks (blank_is c.runs.left.now over) ∙ no_plain in
    sym (ap (fold with_block c.runs.text) none) ∙ c.runs.invariant
