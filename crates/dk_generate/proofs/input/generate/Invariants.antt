use Rattle.std.proofs.Common.{◌≡◌, ◌++◌}
use Rattle.dk_generate.specs.Generated.{calls_text, turn_after}
use Rattle.dk_generate.specs.Texts.{declarations}
use Rattle.dk_generate.proofs.input.generate.Given as goal

abbrev pub invariant-loop-done : goal.invariant-loop-done
invariant-loop-done l = record {
  turn : l.turn ≡ turn_after l.n l.done;
  text : l.text ≡ declarations ++ calls_text l.n l.done;
}
