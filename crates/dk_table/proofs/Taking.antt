-- The rows of a file, one after another.
use Rattle.std.proofs.Common.{◌≡◌, ◌∙◌, ◌∷◌, [], ℕ, Bool, true, false, cond, List, Option, Some, None, Result, Ok, Err, ◌++◌, is_some, option_map, refl, sym, ap, if◌then◌else◌}
use Rattle.std.specs.Prelude.{find, is_none, not}
use Rattle.dk_decl.specs.declared.decls.PointDecl.{PointDecl}
use Rattle.dk_table.specs.Outcomes.{Answers}
use Rattle.dk_table.specs.Tables.{refused}
use Rattle.dk_table.specs.Tables.PlacedRows.{Placed}
use Rattle.dk_table.specs.Traces.{are_named, bad_cell, if_told, is_told, trace_by, untold_row, writes_of}
use Rattle.dk_table.specs.declared.columns.ColumnKind.{ColumnKind}
use Rattle.dk_table.specs.declared.faults.Refusal.{Refusal}
use Rattle.dk_table.specs.declared.faults.TableFault.{TableFault}
use Rattle.dk_table.specs.declared.faults.TableFault.TheVariants.{NoMemory, Refused}
use Rattle.dk_table.specs.declared.faults.TableWhy.{TableWhy}
use Rattle.dk_table.specs.declared.faults.TableWhy.TheVariants.{BadName}

abbrev pub refusal_at : ℕ → ℕ → TableWhy → Refusal
refusal_at file row why = record { file = file; row = row; why = why }

-- ---- the rows of several files
abbrev either_found : {X : Type 0} → Option X → Option X → Option X
either_found (Some x) p = Some x
either_found None p = p

either_behind : {X : Type 0} (b : Bool) (x : X) (o p : Option X) → cond b (Some x) (either_found o p) ≡ either_found (cond b (Some x) o) p
either_behind true x o p = refl
either_behind false x o p = refl

find_append : {X : Type 0} (test : X → Bool) (xs ys : List X) → find test (xs ++ ys) ≡ either_found (find test xs) (find test ys)
find_append test [] ys = refl
find_append {X} test (x ∷ xs) ys = ap (λ (o : Option X). cond (test x) (Some x) o) (find_append test xs ys) ∙ either_behind (test x) x (find test xs) (find test ys)

module _ (kinds : List ColumnKind) (own rest : List Placed) where
  split : untold_row kinds (own ++ rest) ≡ either_found (untold_row kinds own) (untold_row kinds rest)
  split = find_append (λ row. not (is_told kinds row)) own rest

  pub found_here : is_some (option_map bad_cell (untold_row kinds own)) ≡ true → untold_row kinds own ≡ untold_row kinds (own ++ rest)
  found_here h = go (untold_row kinds own) h ∙ sym split
    where
      go : (o : Option Placed) → is_some (option_map bad_cell o) ≡ true → o ≡ either_found o (untold_row kinds rest)
      go (Some row) h = refl
      go None h = absurd (cc h)

  pub found_later : is_some (option_map bad_cell (untold_row kinds own)) ≡ false → untold_row kinds (own ++ rest) ≡ untold_row kinds rest
  found_later h = split ∙ go (untold_row kinds own) h
    where
      go : (o : Option Placed) → is_some (option_map bad_cell o) ≡ false → either_found o (untold_row kinds rest) ≡ untold_row kinds rest
      go (Some row) h = absurd (cc h)
      go None h = refl

-- ---- a table that is judged
pub none_asked : {X : Type 0} (o : Option X) → is_none o ≡ true → o ≡ None
none_asked (Some x) e = absurd (cc e)
none_asked None e = refl

pub all_told : (d : PointDecl) (kinds : List ColumnKind) (rows : List Placed) → are_named d ≡ true → untold_row kinds rows ≡ None
    → trace_by d kinds rows ≡ Ok (writes_of d kinds rows)
unfolding trace_by
all_told d kinds rows named told =
    ap (λ (b : Bool). if b then if_told (option_map bad_cell (untold_row kinds rows)) (writes_of d kinds rows) else refused 0 1 BadName) named
    ∙ ap (λ (o : Option Placed). if_told (option_map bad_cell o) (writes_of d kinds rows)) told

-- an answer to what is the same
pub answered_as : {A B C : Type 0} (own : A → C) (shown : B → C) (x y : Result C Refusal) (fault : TableFault) → y ≡ x → Answers own x (Err fault) → Answers shown y (Err fault)
answered_as own shown x y (Refused refusal) same e = same ∙ e
answered_as own shown x y NoMemory same e = tt
