use Rattle.std.proofs.Common.{◌≡◌, ◌++◌, take}
use Rattle.std.specs.List.{flat_map}
use Rattle.dk_print.specs.Sections.{candidate_line}
use Rattle.dk_print.proofs.sections.push_candidates.Given as goal

abbrev pub invariant-loop-candidate : goal.invariant-loop-candidate
invariant-loop-candidate l = l.text ≡ l.fn.text ++ flat_map (candidate_line l.vars) (take l.candidate-index l.list)
