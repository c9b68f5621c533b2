use Rattle.std.proofs.Common.{◌≡◌, ◌++◌, map, take}
use Rattle.std.specs.Fmt.{signed_decimal}
use Rattle.dk_state.specs.Lines.{fields_text}
use Rattle.dk_state.proofs.states.push_numbers.Given as goal

abbrev pub invariant-loop-number : goal.invariant-loop-number
invariant-loop-number l = l.text ≡ l.fn.text ++ fields_text (map signed_decimal (take l.number-index l.numbers))
