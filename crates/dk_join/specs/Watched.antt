-- Which premises are watched for a row of three variables: where none of them holds, no rule of the row applies.
use Rattle.std.specs.Prelude.{◌==◌, ◌++◌, ℕ, zero, suc, List, [], flat_map, if◌then◌else◌, take}
use Rattle.dk_suppress.specs.Rules.{Rule, rules}
use Rattle.dk_template.specs.Premises.{row_of}
use Rattle.dk_template.specs.declared.answers.Premise.{Premise}
use Rattle.dk_template.specs.declared.grammar.RowId.{RowId}

-- the premises of a row's rules, and the first of each rule
unfoldable pub premises_of : RowId → List Premise
premises_of row = flat_map (λ (r : Rule). if r.0.0 == row.0 then r.1 else []) rules

unfoldable pub first_premises : RowId → List Premise
first_premises row = flat_map (λ (r : Rule). if r.0.0 == row.0 then take 1 r.1 else []) rules

-- the premises of the rules by which premises follow themselves
abbrev pub premises_below : List Premise → List Premise
premises_below premises = flat_map (λ p. premises_of (row_of p)) premises

-- premises with those below them, so many levels in all
abbrev pub with_below : ℕ → List Premise → List Premise
with_below zero premises = []
with_below (suc n) premises = premises ++ with_below n (premises_below premises)

-- Of each rule of a row the first premise is watched, and so is all below it. A premise has a lower rank than what follows from it, so
-- there are three levels at most.
unfoldable pub watched : RowId → List Premise
watched row = with_below 3 (first_premises row)
