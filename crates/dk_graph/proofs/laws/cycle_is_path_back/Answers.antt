use Rattle.dk_graph.proofs.Walks.{cycle-law}
use Rattle.dk_graph.proofs.laws.cycle_is_path_back.Goals as goal

pub returns : goal.returns
returns c = cycle-law
