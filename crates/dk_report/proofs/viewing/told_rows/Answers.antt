use Rattle.std.specs.Prelude.{◌≡◌}
use Rattle.std.proofs.Common.{◌∙◌, ap, arith}
use Rattle.dk_report.proofs.Shown.{level-more}
use Rattle.dk_report.specs.Viewing.{told_rows}
use Rattle.dk_report.proofs.viewing.told_rows.Goals as goal

pub loop-preserved : goal.loop-preserved
loop-preserved c =
    level-more c.args.grammar c.args.engine.now.kept c.args.led.now c.as_slice.result.now c.as_slice-in-loop.result.now c.in_ok-rows.rows.items c.loop.counter
    (c.as_slice.ensures.value ∙ c.in_ok-shown.ensures) (c.as_slice-in-loop.ensures.value ∙ c.loop.invariant) c.in_ok-rows.ensures

pub returns : goal.returns
returns c =
    let test = c.loop-test.false in
    let end = c.loop.auto.counter-end in
    let last : c.loop.counter ≡ 4 = omega (arith, test, end) in
    c.loop.invariant ∙ ap (λ n. told_rows n c.args.grammar c.args.engine.now.kept c.args.led.now) last
