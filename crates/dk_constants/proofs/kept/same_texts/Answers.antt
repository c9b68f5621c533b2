use Rattle.std.proofs.Common.{◌<◌, length, arith, ◌∙◌, [], refl}
use Rattle.std.proofs.lemmas.List.{get_or_default}
use Rattle.dk_constants.proofs.TextLists.{same_more}
use Rattle.dk_constants.proofs.kept.same_texts.Goals as goal

pub loop-i-preserved : goal.loop-i-preserved
loop-i-preserved c =
    let i = c.loop-i.i in
    let la : i < length c.args.a.now = omega arith in
    let read = c.index-b-i.is ∙ get_or_default c.args.b.now i c.index-b-i.result [] c.loop-i-test.true in
    same_more c.args.a.now c.args.b.now i (record { ref_ptr = (0, 0); now = [] }) la c.loop-i-test.true c.loop-i.invariant
    (c.if-not-same_items.ensures.0 refl ∙ (c.as_slice.ensures ∙ read))
