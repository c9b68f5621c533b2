use Rattle.std.proofs.Common.{sym, ◌∙◌, w64}
use Rattle.std.proofs.lemmas.Int.{to_z-of_z}
use Rattle.dk_lanes.proofs.BlockLemmas.{left_decides, seen_decides}
use Rattle.dk_lanes.proofs.OffsetLemmas.{below_block, above_block, below_yes, below_no}
use Rattle.dk_lanes.proofs.offsets.block_is_above.Goals as goal

pub returns-then-block_wraps_to : goal.returns-then-block_wraps_to
returns-then-block_wraps_to c =
    let low = rw (to_z-of_z w64 c.args.y c.ranges.y, to_z-of_z w64 c.args.x c.ranges.x) at c.if-y-x.true in
    let h = c.block_wraps_to.ensures in
    c.block_holds.ensures
    ∙ left_decides _ (sym h.wraps ∙ c.if-block_wraps_to.true) (below_block c.args.x c.args.y c.ranges.x c.ranges.y (below_yes c.args.x c.args.y low) c.args.left.now c.args.right.now h.left h.right)

pub returns-else-block_wraps_to : goal.returns-else-block_wraps_to
returns-else-block_wraps_to c =
    let low = rw (to_z-of_z w64 c.args.y c.ranges.y, to_z-of_z w64 c.args.x c.ranges.x) at c.if-y-x.true in
    let h = c.block_wraps_to.ensures in
    h.wraps
    ∙ seen_decides _ (sym h.wraps ∙ c.if-block_wraps_to.false) (below_block c.args.x c.args.y c.ranges.x c.ranges.y (below_yes c.args.x c.args.y low) c.args.left.now c.args.right.now h.left h.right)

pub returns-then-block_wraps_to-2 : goal.returns-then-block_wraps_to-2
returns-then-block_wraps_to-2 c =
    let high = rw (to_z-of_z w64 c.args.y c.ranges.y, to_z-of_z w64 c.args.x c.ranges.x) at c.if-y-x.false in
    let h = c.block_wraps_to-else-y-x.ensures in
    c.block_holds-then-block_wraps_to-2.ensures
    ∙ left_decides _ (sym h.wraps ∙ c.if-block_wraps_to-2.true) (above_block c.args.x c.args.y c.ranges.x c.ranges.y (below_no c.args.x c.args.y high) c.args.left.now c.args.right.now h.left h.right)

pub returns-else-block_wraps_to-2 : goal.returns-else-block_wraps_to-2
returns-else-block_wraps_to-2 c =
    let high = rw (to_z-of_z w64 c.args.y c.ranges.y, to_z-of_z w64 c.args.x c.ranges.x) at c.if-y-x.false in
    let h = c.block_wraps_to-else-y-x.ensures in
    h.wraps
    ∙ seen_decides _ (sym h.wraps ∙ c.if-block_wraps_to-2.false) (above_block c.args.x c.args.y c.ranges.x c.ranges.y (below_no c.args.x c.args.y high) c.args.left.now c.args.right.now h.left h.right)
