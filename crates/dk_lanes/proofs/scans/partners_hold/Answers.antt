use Rattle.std.proofs.Common.{ℤ, sym, ◌∙◌}
use Rattle.dk_lanes.proofs.BlockLemmas.{left_decides, seen_decides, partners_found}
use Rattle.dk_lanes.proofs.scans.partners_hold.Goals as goal

pub returns-then-partner_blocks_hold : goal.returns-then-partner_blocks_hold
returns-then-partner_blocks_hold g c =
    let front = c.as_chunks.ensures in
    let other = c.as_chunks-2.ensures in
    c.partner_rest_holds-then-partner_blocks_hold.ensures
    ∙ left_decides _ (sym c.partner_blocks_hold.ensures ∙ c.if-partner_blocks_hold.true)
    (partners_found (λ (q : ℤ × ℤ). g.R.Relation.related q.0 q.1) 8 c.args.s.now c.args.t.now _ _ _ _ c.requires front.front front.back other.front other.back)

pub returns-else-partner_blocks_hold : goal.returns-else-partner_blocks_hold
returns-else-partner_blocks_hold g c =
    let front = c.as_chunks.ensures in
    let other = c.as_chunks-2.ensures in
    c.partner_blocks_hold.ensures
    ∙ seen_decides _ (sym c.partner_blocks_hold.ensures ∙ c.if-partner_blocks_hold.false)
    (partners_found (λ (q : ℤ × ℤ). g.R.Relation.related q.0 q.1) 8 c.args.s.now c.args.t.now _ _ _ _ c.requires front.front front.back other.front other.back)
