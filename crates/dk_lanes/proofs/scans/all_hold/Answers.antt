use Rattle.std.proofs.Common.{sym, ◌∙◌, length, ◌/◌, w64}
use Rattle.std.proofs.lemmas.Int.{to_z-of_z}
use Rattle.dk_lanes.proofs.BlockLemmas.{left_decides, seen_decides, all_found}
use Rattle.dk_lanes.proofs.scans.all_hold.Goals as goal

pub returns-then-blocks_hold : goal.returns-then-blocks_hold
returns-then-blocks_hold g c =
    let seen = rw (to_z-of_z w64 c.args.k c.ranges.k) at c.blocks_hold.ensures in
    let left = rw (to_z-of_z w64 c.args.k c.ranges.k) at c.rest_holds-then-blocks_hold.ensures in
    left ∙ left_decides _ (sym seen ∙ c.if-blocks_hold.true) (all_found g.R.Relation.related c.args.k c.args.s.now (length c.args.s.now / 8) _ _ c.as_chunks.ensures.front c.as_chunks.ensures.back)

pub returns-else-blocks_hold : goal.returns-else-blocks_hold
returns-else-blocks_hold g c =
    let seen = rw (to_z-of_z w64 c.args.k c.ranges.k) at c.blocks_hold.ensures in
    seen ∙ seen_decides _ (sym seen ∙ c.if-blocks_hold.false) (all_found g.R.Relation.related c.args.k c.args.s.now (length c.args.s.now / 8) _ _ c.as_chunks.ensures.front c.as_chunks.ensures.back)
