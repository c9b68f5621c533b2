-- The rows of the files, where none is refused.
use Rattle.std.proofs.Common.{◌≡◌, ◌+◌, ◌∙◌, ◌&&◌, ◌∷◌, ◌++◌, [], ℕ, Bool, true, false, List, Option, Some, None, Result, Ok, Err, length, refl, sym, ap, if◌then◌else◌}
use Rattle.std.specs.Prelude.{not}
use Rattle.dk_table.specs.Tables.PlacedRows.{Placed}
use Rattle.dk_table.specs.Tables.{◌>>=◌, are_paired, behind_header, bodies_in, body_in, file_rows, first_of, if_even, names_of, refused, rows_in, rows_of, rows_of_all, same_cells, uneven_row}
use Rattle.dk_table.specs.Traces.{IsJudged, declaration_of, judged, kinds_in, kinds_of, trace_at, trace_by, trace_of_table, untold_row}
use Rattle.dk_table.specs.declared.columns.ColumnKind.{ColumnKind}
use Rattle.dk_table.specs.declared.words.command.Command.{Command}
use Rattle.dk_table.specs.declared.faults.Refusal.{Refusal}
use Rattle.dk_table.specs.declared.faults.TableWhy.TheVariants.{OpenQuote, OtherHeader}
use Rattle.dk_table.specs.declared.writing.traces.Plan.{Plan}
use Rattle.dk_table.proofs.Judged.{told}

-- a step that is not refused
pub bound : {A B : Type 0} (r : Result A Refusal) (f : A → Result B Refusal) (y : B) → (r >>= f) ≡ Ok y → (x : A) × (r ≡ Ok x) × (f x ≡ Ok y)
bound (Ok x) f y e = (x, refl, e)
bound (Err refusal) f y e = absurd (cc e)

rows_body : (header : Bool) (names : List (List ℕ)) (file : ℕ) (all rows : List Placed) → rows_of header names file all ≡ Ok rows → rows ≡ behind_header header all
rows_body header names file [] rows e = absurd (cc e)
rows_body header names file (first ∷ rest) rows e = by (header && not (same_cells names first.cells)) e
  where
    all : List Placed
    all = first ∷ rest

    if_none : (o : Option ℕ) → if_even file o (Ok (behind_header header all)) ≡ Ok rows → rows ≡ behind_header header all
    if_none (Some row) e = absurd (cc e)
    if_none None e = let same : behind_header header all ≡ rows = cc e in sym same

    by : (b : Bool) → (if b then refused file 1 OtherHeader else if_even file (uneven_row (length names) all) (Ok (behind_header header all))) ≡ Ok rows
        → rows ≡ behind_header header all
    by true e = absurd (cc e)
    by false e = if_none (uneven_row (length names) all) e

file_body : (c : Command) (names : List (List ℕ)) (file : ℕ) (bytes : List ℕ) (rows : List Placed) → file_rows c names file bytes ≡ Ok rows → rows ≡ body_in c file bytes
file_body c names file bytes rows e = by (are_paired bytes) e
  where
    own : List Placed
    own = rows_in c.separator file bytes

    by : (b : Bool) → (if b then rows_of c.has_header names file own else refused file (length own) OpenQuote) ≡ Ok rows → rows ≡ body_in c file bytes
    by true e = rows_body c.has_header names file own rows e
    by false e = absurd (cc e)

pub all_bodies : (c : Command) (names : List (List ℕ)) (file : ℕ) (files : List (List ℕ)) (rows : List Placed) → rows_of_all c names file files ≡ Ok rows → rows ≡ bodies_in c file files
all_bodies c names file [] rows e =
    let none : List Placed = [] in
    let same : none ≡ rows = cc e in
    sym same
all_bodies c names file (bytes ∷ more) rows e =
    let front = bound (file_rows c names file bytes) (λ front. rows_of_all c names (file + 1) more >>= λ rest. Ok (front ++ rest)) rows e in
    let rest = bound (rows_of_all c names (file + 1) more) (λ rest. Ok (front.0 ++ rest)) rows front.2 in
    let same : front.0 ++ rest.0 ≡ rows = cc rest.2 in
    sym same ∙ ap (λ (l : List Placed). l ++ rest.0) (file_body c names file bytes front.0 front.1)
    ∙ ap (λ (l : List Placed). body_in c file bytes ++ l) (all_bodies c names (file + 1) more rest.0 rest.1)

-- ---- the plan of a trace
module _ (c : Command) (point : List ℕ) (files names : List (List ℕ)) (kinds : List ColumnKind)
    (named : names_of c.has_header (rows_in c.separator 0 (first_of files)) ≡ Ok names)
    (found : kinds_in c names files ≡ Ok kinds) where
  read : (rows : List Placed) × (rows_of_all c names 0 files ≡ Ok rows) × (kinds_of (judged c.types rows) (length names) ≡ kinds)
  read =
      let r = bound (rows_of_all c names 0 files) (λ rows. Ok (kinds_of (judged c.types rows) (length names))) kinds found in
      let same : kinds_of (judged c.types r.0) (length names) ≡ kinds = cc r.2 in
      (r.0, r.1, same)

  bodies : read.0 ≡ bodies_in c 0 files
  bodies = all_bodies c names 0 files read.0 read.1

  pub plan_judged : (plan : Plan) → plan.kinds ≡ kinds → IsJudged c plan files
  plan_judged plan are none =
      let all : kinds ≡ kinds_of read.0 (length names) = sym read.2 ∙ ap (λ o. kinds_of (judged o read.0) (length names)) none in
      ap (λ (ks : List ColumnKind). untold_row ks (bodies_in c 0 files)) (are ∙ all)
      ∙ ap (λ (rows : List Placed). untold_row (kinds_of read.0 (length names)) rows) (sym bodies) ∙ told read.0 (length names)

  pub plan_traced : trace_at c point files ≡ trace_by (declaration_of point names kinds) kinds (bodies_in c 0 files)
  plan_traced =
      ap (λ (r : Result (List (List ℕ)) Refusal). r >>= λ names. rows_of_all c names 0 files >>= λ rows. trace_of_table point c.types names rows) named
      ∙ ap (λ (r : Result (List Placed) Refusal). r >>= λ rows. trace_of_table point c.types names rows) read.1
      ∙ ap (λ (ks : List ColumnKind). trace_by (declaration_of point names ks) ks read.0) read.2
      ∙ ap (λ (rows : List Placed). trace_by (declaration_of point names kinds) kinds rows) bodies

-- ---- none
pub names_refused : (c : Command) (point : List ℕ) (files : List (List ℕ)) (refusal : Refusal) → names_of c.has_header (rows_in c.separator 0 (first_of files)) ≡ Err refusal
    → trace_at c point files ≡ Err refusal
names_refused c point files refusal e =
    ap (λ (r : Result (List (List ℕ)) Refusal). r >>= λ names. rows_of_all c names 0 files >>= λ rows. trace_of_table point c.types names rows) e

unbound : {A B : Type 0} (r : Result A Refusal) (f : A → B) (refusal : Refusal) → (r >>= λ x. Ok (f x)) ≡ Err refusal → r ≡ Err refusal
unbound (Ok x) f refusal e = absurd (cc e)
unbound (Err other) f refusal e =
    let same : other ≡ refusal = cc e in
    ap (λ (x : Refusal). Err x) same

pub rows_refused : (c : Command) (point : List ℕ) (files names : List (List ℕ)) (refusal : Refusal) → names_of c.has_header (rows_in c.separator 0 (first_of files)) ≡ Ok names
    → kinds_in c names files ≡ Err refusal → trace_at c point files ≡ Err refusal
rows_refused c point files names refusal named e =
    ap (λ (r : Result (List (List ℕ)) Refusal). r >>= λ names. rows_of_all c names 0 files >>= λ rows. trace_of_table point c.types names rows) named
    ∙ ap (λ (r : Result (List Placed) Refusal). r >>= λ rows. trace_of_table point c.types names rows)
    (unbound (rows_of_all c names 0 files) (λ rows. kinds_of (judged c.types rows) (length names)) refusal e)
