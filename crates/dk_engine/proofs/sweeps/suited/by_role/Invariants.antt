use Rattle.std.specs.Prelude.{◌≡◌, map, take}
use Rattle.dk_engine.specs.Sweeps.Suited.{suited_vars}
use Rattle.dk_engine.proofs.sweeps.suited.by_role.Given as goal

abbrev pub invariant-loop-role : goal.invariant-loop-role
invariant-loop-role l = l.lists.items ≡ map (λ role. suited_vars role l.infos l.of) (take l.role-index l.role-items)
