use Rattle.std.proofs.Common.{◌≡◌, drop}
use Rattle.std.specs.List.{list_all}
use Rattle.dk_languages.specs.Literals.{has_string}
use Rattle.dk_languages.proofs.literals.has_strings.Given as goal

abbrev pub invariant-loop-text : goal.invariant-loop-text
invariant-loop-text l = list_all (has_string l.language) (drop l.text-index l.texts) ≡ list_all (has_string l.language) l.texts
