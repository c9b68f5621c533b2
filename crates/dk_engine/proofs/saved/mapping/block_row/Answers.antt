use Rattle.std.proofs.Common.{◌≡◌, ◌<◌, ◌^◌, All, rules, subst, sym}
use Rattle.dk_engine.proofs.MappingFacts.{row_room}
use Rattle.dk_engine.proofs.saved.mapping.block_row.Goals as goal

pub push_pattern-requires-clause-room : goal.push_pattern-requires-clause-room
push_pattern-requires-clause-room c =
    let row = c.loop-pattern.row.items in
    let same : c.as_mut_slice.result.now ≡ row = search rules in
    subst (All (λ n. n < 2 ^ 63)) (sym same)
    (row_room c.args.leaders.now c.args.block.now row c.loop-pattern.pattern-index c.pattern-item.result c.loop-pattern.invariant c.loop-pattern-test.true c.requires.few)
