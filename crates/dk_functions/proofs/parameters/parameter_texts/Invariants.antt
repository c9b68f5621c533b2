use Rattle.std.proofs.Common.{◌≡◌, [], take}
use Rattle.std.specs.List.{flat_map, fold}
use Rattle.dk_functions.specs.Parameters.{texts_of, with_text}
use Rattle.dk_functions.proofs.parameters.parameter_texts.Given as goal

abbrev pub invariant-loop-info : goal.invariant-loop-info
invariant-loop-info l = l.texts ≡ fold with_text [] (flat_map (texts_of l.language) (take l.info-index l.infos))
