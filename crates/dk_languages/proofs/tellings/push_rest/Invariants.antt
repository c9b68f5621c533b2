use Rattle.std.proofs.Common.{◌≡◌, ◌++◌, take}
use Rattle.std.specs.List.{flat_map}
use Rattle.dk_languages.specs.Rows.{separator_in}
use Rattle.dk_languages.specs.Tellings.{value_text}
use Rattle.dk_languages.proofs.tellings.push_rest.Given as goal

abbrev pub invariant-loop-value : goal.invariant-loop-value
invariant-loop-value g l = l.text ≡ l.fn.text ++ flat_map (λ x. separator_in l.language ++ value_text l.language l.row l.roles l.state (g.T.Literal.literal_of l.language x)) (take l.value-index l.values)
