use Rattle.std.specs.Prelude.{◌≡◌, take}
use Rattle.dk_engine.specs.Sweeps.Suited.{suited_vars}
use Rattle.dk_engine.proofs.sweeps.suited.suited_vars.Given as goal

abbrev pub invariant-loop-v : goal.invariant-loop-v
invariant-loop-v l = l.list ≡ suited_vars l.role l.infos (take l.v-index l.of)
