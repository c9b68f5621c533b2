use Rattle.std.specs.Prelude.{◌≡◌, drop}
use Rattle.dk_engine.specs.Reading.Parts.{all_known}
use Rattle.dk_join.proofs.constants.are_known.Given as goal

abbrev pub invariant-loop-v : goal.invariant-loop-v
invariant-loop-v l = all_known l.known (drop l.v-index l.vars) ≡ all_known l.known l.vars
