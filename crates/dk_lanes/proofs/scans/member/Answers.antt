use Rattle.std.proofs.Common.{sym, ◌∙◌, length, ◌/◌, w64}
use Rattle.std.proofs.lemmas.Int.{to_z-of_z}
use Rattle.std.specs.Ordering.{int_eq}
use Rattle.dk_lanes.proofs.BlockLemmas.{left_finds, seen_finds, any_found}
use Rattle.dk_lanes.proofs.scans.member.Goals as goal

pub returns-then-blocks_have : goal.returns-then-blocks_have
returns-then-blocks_have c =
    let seen = rw (to_z-of_z w64 c.args.k c.ranges.k) at c.blocks_have.ensures in
    seen ∙ seen_finds _ (sym seen ∙ c.if-blocks_have.true) (any_found (λ x. int_eq x c.args.k) c.args.s.now (length c.args.s.now / 8) _ _ c.as_chunks.ensures.front c.as_chunks.ensures.back)

pub returns-else-blocks_have : goal.returns-else-blocks_have
returns-else-blocks_have c =
    let seen = rw (to_z-of_z w64 c.args.k c.ranges.k) at c.blocks_have.ensures in
    let left = rw (to_z-of_z w64 c.args.k c.ranges.k) at c.rest_has-else-blocks_have.ensures in
    left ∙ left_finds _ (sym seen ∙ c.if-blocks_have.false) (any_found (λ x. int_eq x c.args.k) c.args.s.now (length c.args.s.now / 8) _ _ c.as_chunks.ensures.front c.as_chunks.ensures.back)
