use Rattle.std.proofs.Common.{◌≡◌, ◌∙◌, ◌+◌, None, Some, length, subst, arith}
use Rattle.dk_graph.specs.Graphs.{edges}
use Rattle.dk_graph.specs.Raising.{Raising, first_rank, raised, HasLongPath}
use Rattle.dk_graph.proofs.Turns.{first-below, row-below, turn, turn-less, turn-long}
use Rattle.dk_graph.proofs.raising.raise_all.Goals as goal

pub edges_from-row-requires : goal.edges_from-row-requires
edges_from-row-requires c =
    let first = first-below c.args.nodes.now c.loop-child.ranks c.loop-child.queue.items c.in-Some.child c.pop_front.new.self.items
    (c.loop-child.auto.ranks ∙ c.requires.all) c.in-Some.ensures.items c.loop-child.invariant in
    omega (arith, first, c.loop-child.auto.ranks, c.requires.all)

pub raise_parents-requires-clause-child : goal.raise_parents-requires-clause-child
raise_parents-requires-clause-child c =
    first-below c.args.nodes.now c.loop-child.ranks c.loop-child.queue.items c.in-Some.child c.pop_front.new.self.items
    (c.loop-child.auto.ranks ∙ c.requires.all) c.in-Some.ensures.items c.loop-child.invariant

pub raise_parents-requires-clause-parents : goal.raise_parents-requires-clause-parents
raise_parents-requires-clause-parents c =
    row-below c.args.nodes.now c.loop-child.ranks c.loop-child.queue.items c.in-Some.child c.pop_front.new.self.items
    (c.loop-child.auto.ranks ∙ c.requires.all) c.in-Some.ensures.items c.loop-child.invariant
    c.edges_from-row.result.now c.edges_from-row.ensures

pub returns-then-not-branch : goal.returns-then-not-branch
returns-then-not-branch c =
    let old : Raising = record { ranks = c.loop-child.ranks; queue = c.pop_front.new.self.items } in
    let none : raised (first_rank + c.len-limit.result) c.in-Some.child c.edges_from-row.result.now old ≡ None = rw c.if-not-branch.true at c.in_ok-raise_parents.ensures in
    let long : HasLongPath (length c.args.nodes.now) (length c.loop-child.ranks) (edges c.args.nodes.now) =
    turn-long c.args.nodes.now c.loop-child.ranks c.loop-child.queue.items c.in-Some.child c.pop_front.new.self.items
    (c.loop-child.auto.ranks ∙ c.requires.all) c.in-Some.ensures.items c.loop-child.invariant
    c.edges_from-row.result.now c.edges_from-row.ensures
    (subst (λ n. raised (first_rank + n) c.in-Some.child c.edges_from-row.result.now old ≡ None) c.len-limit.ensures.len none) in
    (long.0, omega (arith, long.1, c.raise_parents.auto.ranks), long.2)

pub loop-child-preserved : goal.loop-child-preserved
loop-child-preserved c =
    let old : Raising = record { ranks = c.loop-child.ranks; queue = c.pop_front.new.self.items } in
    let new : Raising = record { ranks = c.raise_parents.new.ranks; queue = c.raise_parents.new.queue.items } in
    let went : raised (first_rank + c.len-limit.result) c.in-Some.child c.edges_from-row.result.now old ≡ Some new = rw c.if-not-branch.false at c.in_ok-raise_parents.ensures in
    turn c.args.nodes.now c.loop-child.ranks c.loop-child.queue.items c.in-Some.child c.pop_front.new.self.items
    (c.loop-child.auto.ranks ∙ c.requires.all) c.in-Some.ensures.items c.loop-child.invariant
    c.edges_from-row.result.now c.edges_from-row.ensures new
    (subst (λ n. raised (first_rank + n) c.in-Some.child c.edges_from-row.result.now old ≡ Some new) c.len-limit.ensures.len went)

pub loop-child-smaller : goal.loop-child-smaller
loop-child-smaller c =
    let old : Raising = record { ranks = c.loop-child.ranks; queue = c.pop_front.new.self.items } in
    let new : Raising = record { ranks = c.raise_parents.new.ranks; queue = c.raise_parents.new.queue.items } in
    let went : raised (first_rank + c.len-limit.result) c.in-Some.child c.edges_from-row.result.now old ≡ Some new = rw c.if-not-branch.false at c.in_ok-raise_parents.ensures in
    turn-less c.args.nodes.now c.loop-child.ranks c.loop-child.queue.items c.in-Some.child c.pop_front.new.self.items
    (c.loop-child.auto.ranks ∙ c.requires.all) c.in-Some.ensures.items c.loop-child.invariant
    c.edges_from-row.result.now c.edges_from-row.ensures new
    (subst (λ n. raised (first_rank + n) c.in-Some.child c.edges_from-row.result.now old ≡ Some new) c.len-limit.ensures.len went)
