use Rattle.std.proofs.Common.{◌≡◌, map, take}
use Rattle.std.specs.List.{fold}
use Rattle.dk_functions.specs.Parameters.{parameter_text, with_text}
use Rattle.dk_functions.proofs.parameters.push_texts_of.Given as goal

abbrev pub invariant-loop-parameter : goal.invariant-loop-parameter
invariant-loop-parameter l = l.texts ≡ fold with_text l.fn.texts (map (parameter_text l.language l.info.kind) (take l.parameter-index l.own))
