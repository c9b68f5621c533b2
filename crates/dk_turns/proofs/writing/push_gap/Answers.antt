use Rattle.std.proofs.Common.{◌≡◌, ◌∙◌, ◌==◌, true, false, length}
use Rattle.dk_turns.proofs.Fronting.{gap_none, gap_some}
use Rattle.dk_turns.proofs.writing.push_gap.Goals as goal

pub returns-then-is_empty : goal.returns-then-is_empty
returns-then-is_empty c =
    let none : (length c.args.text.now == 0) ≡ true = cc in
    gap_none c.args.text.now none

pub returns : goal.returns
returns c =
    let some : (length c.args.text.now == 0) ≡ false = cc in
    c.in_ok-push.ensures.ok ∙ gap_some c.args.text.now some
