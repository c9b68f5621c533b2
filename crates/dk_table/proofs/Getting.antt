-- Cells of rows.
use Rattle.std.proofs.Common.{◌≡◌, ◌<◌, ◌∙◌, [], ℕ, zero, suc, List, length, get_or, refl, ap, ◌∷◌}
use Rattle.std.specs.Prelude.{slice_get, unwrap_or, Option}
use Rattle.std.proofs.lemmas.List.{get_or_default}
use Rattle.std.proofs.lemmas.Option.{unwrap_or-slice_get}
use Rattle.csv.specs.Records.{field_at}
use Rattle.dk_table.specs.Tables.PlacedRows.{Placed, cell_at}

field_get : (fields : List (List ℕ)) (i : ℕ) → field_at fields i ≡ slice_get fields i
unfolding field_at
field_get [] i = refl
field_get (f ∷ fs) zero = refl
field_get (f ∷ fs) (suc i) = field_get fs i

-- the cell that a record gives
pub cell_got : (row : Placed) (fields : List (List ℕ)) (place : ℕ) (got : Option (List ℕ)) → fields ≡ row.cells → got ≡ field_at fields place
    → unwrap_or got [] ≡ cell_at place row
cell_got row fields place got same e =
    ap (λ (o : Option (List ℕ)). unwrap_or o []) (e ∙ field_get fields place) ∙ ap (λ (l : List (List ℕ)). unwrap_or (slice_get l place) []) same

-- a cell by its place, whatever stands for one behind the last
pub cell_read : (row : Placed) (i : ℕ) (cell : List ℕ) → i < length row.cells → cell ≡ cell_at i row → cell ≡ get_or row.cells i cell
cell_read row i cell lt is = is ∙ unwrap_or-slice_get row.cells i [] ∙ get_or_default row.cells i [] cell lt
