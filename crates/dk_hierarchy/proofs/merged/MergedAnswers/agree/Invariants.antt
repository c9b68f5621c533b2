use Rattle.std.specs.Prelude.{◌≡◌, take, true}
use Rattle.std.specs.List.{list_all}
use Rattle.dk_hierarchy.specs.Merging.{agree_through}
use Rattle.dk_hierarchy.proofs.merged.MergedAnswers.agree.Given as goal

abbrev pub invariant-loop-way : goal.invariant-loop-way
invariant-loop-way l = list_all (agree_through l.self l.v l.w) (take l.way-index l.ways) ≡ true
