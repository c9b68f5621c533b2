use Rattle.std.proofs.Common.{◌≡◌, take}
use Rattle.dk_languages.specs.Bases.{parameters}
use Rattle.dk_languages.proofs.variables.parameters.Given as goal

abbrev pub invariant-loop-info : goal.invariant-loop-info
invariant-loop-info l = l.found ≡ parameters l.language (take l.info-index l.infos)
