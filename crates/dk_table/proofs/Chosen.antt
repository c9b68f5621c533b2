-- Finding kinds row by row, up to the first that is refused.
use Rattle.std.proofs.Common.{◌≡◌, ◌∙◌, [], ℕ, Bool, true, false, List, Result, Ok, Err, sym, ap, if◌then◌else◌}
use Rattle.dk_table.specs.Tables.Cursors.{Cursor, Moves}
use Rattle.dk_table.specs.Columns.Judging.{Judged, judging}
use Rattle.dk_table.specs.Outcomes.{Answers}
use Rattle.dk_table.specs.Tables.PlacedRows.{Placed}
use Rattle.dk_table.specs.Streams.Stages.{is_done, judging_steps, steps_by}
use Rattle.dk_table.specs.Streams.{Step, row_steps, rows_steps}
use Rattle.dk_table.specs.Tables.{◌>>=◌}
use Rattle.dk_table.specs.declared.faults.Refusal.{Refusal}
use Rattle.dk_table.specs.declared.faults.TableFault.{TableFault}
use Rattle.dk_table.specs.declared.faults.TableFault.TheVariants.{NoMemory, Refused}
use Rattle.dk_table.proofs.Moving.{moved}
use Rattle.dk_table.proofs.Streamed.{judged_apart}

-- ---- one row
pub body_judged : (header : Bool) (names : List (List ℕ)) (j next : Judged) (row : Placed) → is_done j ≡ false → steps_by row (Ok true) ≡ row_steps header names row → next ≡ judging j row
    → judging_steps j (row_steps header names row) ≡ Ok next
body_judged header names j next row going is judged =
    ap (judging_steps j) (sym is) ∙ ap (λ (b : Bool). (if b then Ok j else Ok (judging j row)) >>= λ k. Ok k) going ∙ ap (λ (k : Judged). Ok k) (sym judged)

pub header_judged : (header : Bool) (names : List (List ℕ)) (j : Judged) (row : Placed) → steps_by row (Ok false) ≡ row_steps header names row
    → judging_steps j (row_steps header names row) ≡ Ok j
header_judged header names j row is = ap (judging_steps j) (sym is)

pub refused_judged : (header : Bool) (names : List (List ℕ)) (j : Judged) (row : Placed) (refusal : Refusal) → is_done j ≡ false → steps_by row (Err refusal) ≡ row_steps header names row
    → judging_steps j (row_steps header names row) ≡ Err refusal
refused_judged header names j row refusal going is =
    let step : Step = Err refusal in
    ap (judging_steps j) (sym is) ∙ ap (λ (b : Bool). (if b then Ok j else (step >>= λ r. Ok (judging j r))) >>= λ k. Ok k) going

-- ---- rows that are left
module _ (header : Bool) (names : List (List ℕ)) (first j : Judged) (all left : List Placed) (after : Cursor) (m : Moves left after true)
    (so_far : judging_steps j (rows_steps header names left) ≡ judging_steps first (rows_steps header names all)) where
  parts : judging_steps j (rows_steps header names left) ≡ (judging_steps j (row_steps header names after.row) >>= λ next. judging_steps next (rows_steps header names after.left))
  parts =
      ap (λ (l : List Placed). judging_steps j (rows_steps header names l)) (moved left after m)
      ∙ judged_apart j (row_steps header names after.row) (rows_steps header names after.left)

  pub row_judged : (next : Judged) → judging_steps j (row_steps header names after.row) ≡ Ok next
      → judging_steps next (rows_steps header names after.left) ≡ judging_steps first (rows_steps header names all)
  row_judged next e =
      sym (parts ∙ ap (λ (r : Result Judged Refusal). r >>= λ k. judging_steps k (rows_steps header names after.left)) e) ∙ so_far

  pub row_fails : {A B : Type 0} (own : A → Judged) (shown : B → Judged) (fault : TableFault) → Answers own (judging_steps j (row_steps header names after.row)) (Err fault)
      → Answers shown (judging_steps first (rows_steps header names all)) (Err fault)
  row_fails own shown (Refused refusal) e =
      sym so_far ∙ parts ∙ ap (λ (r : Result Judged Refusal). r >>= λ k. judging_steps k (rows_steps header names after.left)) e
  row_fails own shown NoMemory e = tt

-- no row is left
pub all_judged : (header : Bool) (names : List (List ℕ)) (first j : Judged) (all left : List Placed) → left ≡ [] → judging_steps j (rows_steps header names left) ≡ judging_steps first (rows_steps header names all)
    → judging_steps first (rows_steps header names all) ≡ Ok j
all_judged header names first j all left none so_far = sym so_far ∙ ap (λ (l : List Placed). judging_steps j (rows_steps header names l)) none
