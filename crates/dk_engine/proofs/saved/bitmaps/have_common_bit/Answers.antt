use Rattle.std.proofs.Common.{arith, sym}
use Rattle.dk_engine.proofs.BitmapFacts.{common_none, common_some}
use Rattle.dk_engine.proofs.saved.bitmaps.have_common_bit.Goals as goal

pub returns-then-a-j-ne0 : goal.returns-then-a-j-ne0
returns-then-a-j-ne0 c = λ held x y z ia ib ic.
    sym (common_some held x y z c.args.a.now c.args.b.now c.args.c.now ia ib ic c.loop-j.j c.loop-j-test.true c.if-a-j-ne0.true)

pub returns : goal.returns
returns c = λ held x y z ia ib ic.
    let past = c.loop-j-test.false in
    sym (common_none held x y z c.args.a.now c.args.b.now c.args.c.now ia ib ic (λ k l. c.loop-j.invariant k (omega (arith, past, l))))
