-- Columns give as many variables, and nothing is derived from those.
use Rattle.std.proofs.Common.{◌≡◌, ◌≤◌, ◌+◌, ◌∙◌, ◌||◌, ◌∷◌, ◌++◌, [], ℕ, Bool, true, false, List, None, append-nil, flat_map, length, map, ap, refl, if◌then◌else◌, arith}
use Rattle.std.specs.Prelude.{nat_lt}
use Rattle.std.specs.List.{enumerate_from, zip}
use Rattle.std.proofs.lemmas.Bool.{le-ltb}
use Rattle.dk_base.specs.Shapes.{Shape, of_sequence, shape_of, with_derived}
use Rattle.dk_base.specs.declared.kinds.VarInfo.{VarInfo}
use Rattle.dk_decl.specs.declared.decls.VarDecl.{VarDecl}
use Rattle.dk_graph.specs.Names.{place_of}
use Rattle.dk_points.specs.Declaring.{has_many_vars}
use Rattle.dk_points.specs.Names.{entry_name, is_exit, role_of}
use Rattle.dk_points.specs.Vars.{base_vars, declared_vars, entry_before, orig_vars, vars_of_entry}
use Rattle.dk_table.specs.Traces.{declaration_of, var_of}
use Rattle.dk_table.specs.declared.columns.ColumnKind.{ColumnKind}
use Rattle.dk_table.specs.declared.columns.ColumnKind.TheVariants as kind

-- the shapes of the variables of these columns
abbrev shapes : List (List ℕ) → List ColumnKind → List Shape
shapes names kinds = map shape_of (declared_vars (map var_of (zip names kinds)))

-- no column has sequences
none_derived : (all : List (ℕ × Shape)) (n : ℕ) (names : List (List ℕ)) (kinds : List ColumnKind) → flat_map (of_sequence all) (enumerate_from n (shapes names kinds)) ≡ []
none_derived all n [] kinds = refl
none_derived all n (name ∷ names) [] = refl
none_derived all n (name ∷ names) (kind.Whole ∷ kinds) = none_derived all (n + 1) names kinds
none_derived all n (name ∷ names) (kind.Truth words ∷ kinds) = none_derived all (n + 1) names kinds
none_derived all n (name ∷ names) (kind.Decimal places ∷ kinds) = none_derived all (n + 1) names kinds
none_derived all n (name ∷ names) (kind.Text ∷ kinds) = none_derived all (n + 1) names kinds

vars_at_most : (names : List (List ℕ)) (kinds : List ColumnKind) → length (map var_of (zip names kinds)) ≤ length names
vars_at_most [] kinds = omega arith
vars_at_most (name ∷ names) [] = omega arith
vars_at_most (name ∷ names) (k ∷ kinds) = omega (arith, vars_at_most names kinds)

shapes_at_most : (names : List (List ℕ)) (kinds : List ColumnKind) → length (shapes names kinds) ≤ length names
shapes_at_most [] kinds = omega arith
shapes_at_most (name ∷ names) [] = omega arith
shapes_at_most (name ∷ names) (k ∷ kinds) = omega (arith, shapes_at_most names kinds)

-- where no point stands before it, a declaration has its own variables alone
own_vars : (point : List ℕ) (names : List (List ℕ)) (kinds : List ColumnKind) → base_vars [] (declaration_of point names kinds) ≡ declared_vars (map var_of (zip names kinds))
unfolding entry_before orig_vars place_of
own_vars point names kinds = go (is_exit (role_of point))
  where
    own : List VarInfo
    own = declared_vars (map var_of (zip names kinds))

    go : (b : Bool) → own ++ orig_vars (vars_of_entry [] (if b then place_of [] (entry_name point) else None)) own ≡ own
    go true = append-nil own
    go false = append-nil own

pub few_vars : (point : List ℕ) (names : List (List ℕ)) (kinds : List ColumnKind) → length names ≤ 1024 → has_many_vars [] (declaration_of point names kinds) ≡ false
unfolding has_many_vars
few_vars point names kinds few =
    let vars : List VarDecl = map var_of (zip names kinds) in
    let own : List Shape = shapes names kinds in
    let all : with_derived (map shape_of (base_vars [] (declaration_of point names kinds))) ≡ own =
    ap (λ (infos : List VarInfo). with_derived (map shape_of infos)) (own_vars point names kinds)
    ∙ ap (λ (more : List Shape). own ++ more) (none_derived (enumerate_from 0 own) 0 names kinds) ∙ append-nil own in
    let declared : nat_lt 1024 (length vars) ≡ false = le-ltb 1024 (length vars) (omega (arith, few, vars_at_most names kinds)) in
    let derived : nat_lt 16384 (length own) ≡ false = le-ltb 16384 (length own) (omega (arith, few, shapes_at_most names kinds)) in
    ap (λ (l : List Shape). nat_lt 1024 (length vars) || nat_lt 16384 (length l)) all
    ∙ ap (λ (b : Bool). b || nat_lt 16384 (length own)) declared ∙ derived
