use Rattle.dk_write.specs.Declarations.{edge_line}
use Rattle.dk_write.proofs.Loops.{line_more}
use Rattle.dk_write.proofs.declarations.push_edges.Goals as goal

pub loop-edge-preserved : goal.loop-edge-preserved
loop-edge-preserved c =
    line_more edge_line c.args.edges.now c.loop-edge.edge-index c.edge-item.result c.args.text.now c.loop-edge.text c.push_edge.new.text
    c.loop-edge-test.true c.edge-item.is c.loop-edge.invariant c.in_ok-push_edge.ensures
