use Rattle.std.proofs.Common.{◌∙◌, ap, arith}
use Rattle.dk_presence.specs.Patterns.{capped}
use Rattle.dk_bitmaps.proofs.Counts.{all_blocks, block_more}
use Rattle.dk_bitmaps.proofs.counting.common.Goals as goal

pub loop-j-init : goal.loop-j-init
loop-j-init c = λ held p q r s ia ib ic id. omega arith

pub loop-j-preserved : goal.loop-j-preserved
loop-j-preserved c = λ held p q r s ia ib ic id.
    let before = c.loop-j.invariant held p q r s ia ib ic id in
    let more = block_more p q r s held c.args.a.now c.args.b.now c.args.c.now c.args.d.now ia ib ic id c.loop-j.j c.loop-j-test.true in
    omega (arith, before, more, c.from.ensures, c.saturating_add-count.ensures)

pub returns : goal.returns
returns c = λ held p q r s ia ib ic id.
    c.loop-j.invariant held p q r s ia ib ic id ∙ ap capped (all_blocks p q r s held c.args.a.now ia c.loop-j.j (let past = c.loop-j-test.false in omega (arith, past)))
