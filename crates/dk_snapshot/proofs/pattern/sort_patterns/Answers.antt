use Rattle.dk_snapshot.proofs.PatternOrder.{sorted_patterns}
use Rattle.dk_snapshot.proofs.pattern.sort_patterns.Goals as goal

pub returns : goal.returns
returns c = sorted_patterns c.args.all.items c.sort.new.self.items c.sort.ensures.permutation c.in_ok-sort.ensures.sorted
