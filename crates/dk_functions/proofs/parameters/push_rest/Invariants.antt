use Rattle.std.proofs.Common.{◌≡◌, ◌++◌, ℕ, List, take}
use Rattle.std.specs.List.{flat_map}
use Rattle.dk_functions.proofs.parameters.push_rest.Given as goal

abbrev pub invariant-loop-other : goal.invariant-loop-other
invariant-loop-other l = l.text ≡ l.fn.text ++ flat_map (λ (t : List ℕ). l.between ++ t) (take l.other-index l.texts)
