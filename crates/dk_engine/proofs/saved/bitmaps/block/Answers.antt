use Rattle.std.proofs.Common.{◌≡◌, ◌∙◌, ◌-◌, ap, arith, drop, sym, take}
use Rattle.std.proofs.lemmas.List.{length-drop, take_all}
use Rattle.dk_engine.proofs.saved.bitmaps.block.Goals as goal
use Rattle.dk_engine.proofs.saved.bitmaps.block.Goals.{then-held-start-lt-BLOCK, else-held-start-lt-BLOCK}

pub returns : goal.returns
returns c =
    let held = c.args.held.now in
    let rest = drop c.args.start held in
    let long = length-drop c.args.start held in
    elim c.if-held-start-lt-BLOCK.branch [
      | then-held-start-lt-BLOCK w ↦
          let few = w.if-held-start-lt-BLOCK.true in
          take_all (c.if-held-start-lt-BLOCK.end - c.args.start) rest (omega (arith, long, w.end-is)) ∙ sym (take_all 64 rest (omega (arith, long, few)))
      | else-held-start-lt-BLOCK w ↦
          let whole : c.if-held-start-lt-BLOCK.end - c.args.start ≡ 64 = omega (arith, w.end-is) in
          ap (λ n. take n rest) whole
    ]
