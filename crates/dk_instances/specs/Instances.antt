-- Instances: rows of a grammar with variables that they are asked about.
use Rattle.std.specs.Prelude.{◌≡◌, ◌<◌, ◌⊎◌, ◌&&◌, ◌==◌, ℕ, zero, suc, Bool, true, not, IsTrue, List, [], ◌∷◌, filter, flat_map, length, map}
use Rattle.std.specs.List.{list_all, range_with_len}
use Rattle.dk_base.specs.declared.kinds.VarId.{VarId}
use Rattle.dk_base.specs.declared.kinds.VarInfo.{VarInfo}
use Rattle.dk_template.specs.Admitted.{admits, is_written}
use Rattle.dk_template.specs.Templates.{IsRowOf, arity_of, rows_in}
use Rattle.dk_template.specs.declared.grammar.Grammar.{Grammar}
use Rattle.dk_template.specs.declared.grammar.RowId.{RowId}

-- no variable comes twice
abbrev pub are_distinct : List VarId → Bool
are_distinct [] = true
are_distinct (v ∷ vars) = list_all (λ w. not (v.0 == w.0)) vars && are_distinct vars

-- the row admits the variables, they are in its written order, and they are distinct
abbrev pub is_asked : List VarInfo → RowId → List VarId → Bool
is_asked infos row vars = admits row infos vars && (is_written row vars && are_distinct vars)

-- an instance of a grammar: one of its rows, with variables that it is asked about
pub record IsInstance (grammar : Grammar) (infos : List VarInfo) (row : RowId) (vars : List VarId) : Type 0 where
  pub of_grammar : IsRowOf grammar row
  pub asked : IsTrue (is_asked infos row vars)

-- ---- all of them
-- the rows of a grammar, in order
abbrev pub rows_of : Grammar → List RowId
rows_of grammar = map (λ n. record { 0 = n }) (range_with_len 1 (rows_in grammar))

-- the variables, in order
abbrev pub all_vars : List VarInfo → List VarId
all_vars infos = map (λ n. record { 0 = n }) (range_with_len 0 (length infos))

-- all tuples of so many of the variables: first those with the first variable in front, and so on
abbrev pub tuples_over : ℕ → List VarId → List (List VarId)
tuples_over zero vars = [] ∷ []
tuples_over (suc n) vars = flat_map (λ v. map (λ rest. v ∷ rest) (tuples_over n vars)) vars

-- a row's instances, by their variables in the order of the roles
abbrev pub asked_of : List VarInfo → RowId → List (List VarId)
asked_of infos row = filter (is_asked infos row) (tuples_over (arity_of row) (all_vars infos))

-- the instances of a grammar, by their rows, and then by their variables
unfoldable pub instances_of : Grammar → List VarInfo → List (RowId × List VarId)
instances_of grammar infos = flat_map (λ row. map (λ vars. (row, vars)) (asked_of infos row)) (rows_of grammar)

-- ---- their order
-- at the first place at which they differ the first tuple has the earlier variable
abbrev pub Precedes : List VarId → List VarId → Type 0
Precedes [] others = ⊥
Precedes (v ∷ vars) [] = ⊥
Precedes (v ∷ vars) (w ∷ others) = (v.0 < w.0) ⊎ ((v.0 ≡ w.0) × Precedes vars others)

-- an instance of an earlier row, or of the same row with variables that precede
abbrev pub ComesBefore : RowId × List VarId → RowId × List VarId → Type 0
ComesBefore i j = (i.0.0 < j.0.0) ⊎ ((i.0 ≡ j.0) × Precedes i.1 j.1)
