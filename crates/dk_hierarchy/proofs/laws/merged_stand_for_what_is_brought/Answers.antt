use Rattle.dk_hierarchy.proofs.Merging.{merged_stand}
use Rattle.dk_hierarchy.proofs.Standing.{merged_at}
use Rattle.dk_hierarchy.proofs.laws.merged_stand_for_what_is_brought.Goals as goal

pub returns-clause-brought : goal.returns-clause-brought
returns-clause-brought c = merged_stand

pub returns-clause-all : goal.returns-clause-all
returns-clause-all c = λ ps p engines are here at ways descent. merged_at ps p engines are here at ways descent
