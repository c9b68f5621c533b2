use Rattle.std.proofs.Common.{ℤ, List, zip, sym, ◌∙◌}
use Rattle.std.specs.List.{list_all}
use Rattle.dk_lanes.proofs.BlockLemmas.{left_decides, seen_decides, partners_found}
use Rattle.dk_lanes.proofs.scans.partner_blocks_hold.Goals as goal

pub returns-then-twos_hold : goal.returns-then-twos_hold
returns-then-twos_hold g c =
    let front = c.as_chunks.ensures in
    let other = c.as_chunks-2.ensures in
    let holds = λ (b : List ℤ × List ℤ). list_all (λ (q : ℤ × ℤ). g.R.Relation.related q.0 q.1) (zip b.0 b.1) in
    c.last_holds.ensures
    ∙ left_decides _ (sym c.twos_hold.ensures ∙ c.if-twos_hold.true)
    (partners_found holds 2 c.args.blocks.now c.args.others.now _ _ _ _ c.requires front.front front.back other.front other.back)

pub returns-else-twos_hold : goal.returns-else-twos_hold
returns-else-twos_hold g c =
    let front = c.as_chunks.ensures in
    let other = c.as_chunks-2.ensures in
    let holds = λ (b : List ℤ × List ℤ). list_all (λ (q : ℤ × ℤ). g.R.Relation.related q.0 q.1) (zip b.0 b.1) in
    c.twos_hold.ensures
    ∙ seen_decides _ (sym c.twos_hold.ensures ∙ c.if-twos_hold.false)
    (partners_found holds 2 c.args.blocks.now c.args.others.now _ _ _ _ c.requires front.front front.back other.front other.back)
