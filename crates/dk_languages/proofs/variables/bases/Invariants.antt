use Rattle.std.proofs.Common.{◌≡◌, map, take}
use Rattle.dk_languages.specs.Bases.{base_of}
use Rattle.dk_languages.proofs.variables.bases.Given as goal

abbrev pub invariant-loop-info : goal.invariant-loop-info
invariant-loop-info l = l.found ≡ map (base_of l.language l.others) (take l.info-index l.infos)
