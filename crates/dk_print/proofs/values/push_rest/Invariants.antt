use Rattle.std.proofs.Common.{◌≡◌, ◌++◌, codes, take}
use Rattle.std.specs.List.{flat_map}
use Rattle.dk_print.proofs.values.push_rest.Given as goal

abbrev pub invariant-loop-value : goal.invariant-loop-value
invariant-loop-value g l = l.text ≡ l.fn.text ++ flat_map (λ x. codes ", " ++ g.T.Printed.text_of x) (take l.value-index l.values)
