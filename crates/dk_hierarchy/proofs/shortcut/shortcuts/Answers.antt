use Rattle.std.specs.Prelude.{◌<◌, ℕ, All, length}
use Rattle.std.proofs.Common.{arith, subst, sym}
use Rattle.dk_points.proofs.Nodes.{length-nodes}
use Rattle.dk_hierarchy.proofs.shortcut.shortcuts.Goals as goal

pub by_rank-requires : goal.by_rank-requires
by_rank-requires c =
    let all = c.ranks.ensures.all in
    let long = length-nodes c.args.points.now in
    let few = c.len.ensures.few in
    omega (arith, all, long, few)

pub shorten-requires-clause-point : goal.shorten-requires-clause-point
shorten-requires-clause-point c =
    let none : ℕ × ℕ = (0, 0) in
    let all = c.ranks.ensures.all in
    let long = length-nodes c.args.points.now in
    let within =
    subst (All (λ (at : ℕ × ℕ). at.1 < length c.ranks.result.now)) (sym c.as_slice-p-items.ensures.value) c.in_ok-order.ensures
    c.loop-p.p-index none c.loop-p-test.true in
    omega (arith, all, long, within)
