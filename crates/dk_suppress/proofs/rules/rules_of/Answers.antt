use Rattle.std.proofs.Common.{arith, rules, sym}
use Rattle.dk_suppress.proofs.Parts.{found, none_later, part_told}
use Rattle.dk_suppress.proofs.rules.rules_of.Goals as goal

pub offset_bounds-rules-starts : goal.offset_bounds-rules-starts
offset_bounds-rules-starts c =
    let h = found c.starts-starts.result.now c.rules.result.now c.starts-starts.ensures c.rules.ensures c.args.row c.if-row-starts.true in
    omega (arith, h.few, h.ordered, h.ends)

pub slice_bounds-result-count : goal.slice_bounds-result-count
slice_bounds-result-count c =
    let h = found c.starts-starts.result.now c.rules.result.now c.starts-starts.ensures c.rules.ensures c.args.row c.if-row-starts.true in h.ordered

pub slice_bounds-result-start : goal.slice_bounds-result-start
slice_bounds-result-start c =
    let h = found c.starts-starts.result.now c.rules.result.now c.starts-starts.ensures c.rules.ensures c.args.row c.if-row-starts.true in search (rules, h.ordered)

pub slice_bounds-result-end : goal.slice_bounds-result-end
slice_bounds-result-end c =
    let h = found c.starts-starts.result.now c.rules.result.now c.starts-starts.ensures c.rules.ensures c.args.row c.if-row-starts.true in search (rules, h.ends)

pub returns-then-row-starts : goal.returns-then-row-starts
returns-then-row-starts c = part_told c.starts-starts.result.now c.rules.result.now c.starts-starts.ensures c.rules.ensures c.args.row c.if-row-starts.true

pub returns-else-row-starts : goal.returns-else-row-starts
returns-else-row-starts c = sym (none_later c.starts-starts.result.now c.starts-starts.ensures c.args.row c.if-row-starts.false)
