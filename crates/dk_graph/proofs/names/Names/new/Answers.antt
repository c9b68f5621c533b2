use Rattle.std.proofs.Common.{ap, map}
use Rattle.dk_graph.proofs.Different.{none_are}
use Rattle.dk_graph.proofs.names.Names.new.Goals as goal

pub invariant_of-result : goal.invariant_of-result
invariant_of-result c = none_are _ (ap (map (λ k. k.items)) c.new.ensures.empty)
