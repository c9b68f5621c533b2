use Rattle.std.proofs.Common.{take}
use Rattle.std.specs.List.{flat_map}
use Rattle.json.specs.Tree.{json_tokens}
use Rattle.dk_json.specs.Trees.{Adds}
use Rattle.dk_json.proofs.texts.push_each.Given as goal

abbrev pub invariant-loop-item : goal.invariant-loop-item
invariant-loop-item g l = Adds l.fn.writer l.writer (flat_map (λ x. json_tokens (g.T.Told.json_of x)) (take l.item-index l.items))
