use Rattle.dk_graph.proofs.Walks.{longest}
use Rattle.dk_graph.proofs.laws.depth_is_longest_path.Goals as goal

pub returns : goal.returns
returns c = longest
