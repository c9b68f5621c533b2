use Rattle.std.proofs.Common.{◌∙◌, ◌<◌, get_or, length, ap, arith}
use Rattle.std.proofs.lemmas.List.{length-set}
use Rattle.dk_graph.specs.Rows.{by_number}
use Rattle.dk_graph.specs.declared.nodes.Edge.{Edge}
use Rattle.dk_graph.proofs.Orders.{inserted-next}
use Rattle.dk_graph.proofs.Places.{slice_get-at}
use Rattle.dk_graph.proofs.rows.insert_by_child.Goals as goal

pub loop-edge-preserved : goal.loop-edge-preserved
loop-edge-preserved c =
    let none : Edge = record { child = record { 0 = 0 }; parent = record { 0 = 0 }; number = 0 } in
    let e : Edge = get_or c.args.edges.now c.loop-edge.edge-index none in
    let below : e.child.0 < length c.args.from.now.items =
    c.requires c.loop-edge.edge-index e (slice_get-at c.args.edges.now c.loop-edge.edge-index none c.loop-edge-test.true) in (
      length-set c.loop-edge.from.items e.child.0 c.insert_by_number.new.self ∙ c.loop-edge.invariant.0,
      inserted-next c.loop-edge.from.items c.args.edges.now c.loop-edge.edge-index none c.index_mut.result.now c.insert_by_number.new.self
          c.loop-edge-test.true (omega (arith, below, c.loop-edge.invariant.0))
          (c.in_ok-insert_by_number.ensures ∙ ap (by_number e) c.index_mut.ensures.value)
          ∙ c.loop-edge.invariant.1,
    )
