use Rattle.std.proofs.Common.{ℤ, ◌-ℤ◌, sym, ◌∙◌, w64}
use Rattle.std.proofs.lemmas.Int.{to_z-of_z}
use Rattle.std.specs.Ordering.{int_eq}
use Rattle.dk_lanes.proofs.BlockLemmas.{left_decides, seen_decides, partners_found}
use Rattle.dk_lanes.proofs.offsets.is_above.Goals as goal

pub returns-then-blocks_are_above : goal.returns-then-blocks_are_above
returns-then-blocks_are_above c =
    let front = c.as_chunks.ensures in
    let other = c.as_chunks-2.ensures in
    let seen = rw (to_z-of_z w64 c.args.y c.ranges.y, to_z-of_z w64 c.args.x c.ranges.x) at c.blocks_are_above.ensures in
    let left = rw (to_z-of_z w64 c.args.y c.ranges.y, to_z-of_z w64 c.args.x c.ranges.x) at c.rest_is_above.ensures in
    left
    ∙ left_decides _ (sym seen ∙ c.if-blocks_are_above.true)
    (partners_found (λ (q : ℤ × ℤ). int_eq (c.args.y -ℤ c.args.x) (q.1 -ℤ q.0)) 8 c.args.s.now c.args.t.now _ _ _ _ c.requires front.front front.back other.front other.back)

pub returns-else-blocks_are_above : goal.returns-else-blocks_are_above
returns-else-blocks_are_above c =
    let front = c.as_chunks.ensures in
    let other = c.as_chunks-2.ensures in
    let seen = rw (to_z-of_z w64 c.args.y c.ranges.y, to_z-of_z w64 c.args.x c.ranges.x) at c.blocks_are_above.ensures in
    seen
    ∙ seen_decides _ (sym seen ∙ c.if-blocks_are_above.false)
    (partners_found (λ (q : ℤ × ℤ). int_eq (c.args.y -ℤ c.args.x) (q.1 -ℤ q.0)) 8 c.args.s.now c.args.t.now _ _ _ _ c.requires front.front front.back other.front other.back)
