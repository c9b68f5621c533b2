use Rattle.std.proofs.Common.{◌≡◌, ◌++◌, take}
use Rattle.dk_state.specs.Lines.{fields_text}
use Rattle.dk_state.proofs.states.push_texts.Given as goal

abbrev pub invariant-loop-item : goal.invariant-loop-item
invariant-loop-item l = l.text ≡ l.fn.text ++ fields_text (take l.item-index l.texts)
