use Rattle.std.proofs.Common.{◌≡◌, ◌⊎◌, inl, inr, rules}
use Rattle.dk_trace.specs.Answers.{shown_value}
use Rattle.dk_trace.proofs.InPlace.{missing_stands, said_stands}
use Rattle.dk_trace.proofs.whole.read_mark.Goals as goal
use Rattle.dk_trace.proofs.whole.read_mark.Goals.{else-mark-ne48-via-then-mark-ne48+else-mark-ne49, else-mark-ne48-via-else-mark-ne48}

pub returns-then-mark-eq50 : goal.returns-then-mark-eq50
returns-then-mark-eq50 c =
    missing_stands c.args.unmarked c.args.bytes.now c.in-Some.rest.now c.in-Some.mark (shown_value c.missing.result) c.if-mark-eq50.true c.in-Some.ensures (search rules)

pub returns-in-Ok : goal.returns-in-Ok
returns-in-Ok c =
    let is : (c.in-Some.mark ≡ 48) ⊎ (c.in-Some.mark ≡ 49) = elim c.else-mark-ne48.branch [
      | else-mark-ne48-via-then-mark-ne48+else-mark-ne49 w ↦ inr w.if-mark-ne49.false
      | else-mark-ne48-via-else-mark-ne48 w ↦ inl w.if-mark-ne48.false
    ] in
    said_stands c.args.unmarked c.args.bytes.now c.in-Some.rest.now c.in-Some.mark (shown_value c.in-Ok.value) is c.in-Some.ensures c.in-Ok.ensures
