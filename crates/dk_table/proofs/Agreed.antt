-- Where nothing is refused, rows that are written as they come make the trace that is written behind all of them.
use Rattle.std.proofs.Common.{◌≡◌, ◌<◌, ◌+◌, ◌∙◌, ◌==◌, ◌&&◌, ◌∷◌, ◌++◌, [], ℕ, zero, suc, Bool, true, false, List, Option, Some, None, Result, Ok, Err, append-nil, length, not, option_map, take, eq-eqb, refl, sym, ap, arith, if◌then◌else◌}
use Rattle.std.specs.Prelude.{find}
use Rattle.std.specs.List.{list_all, zip}
use Rattle.std.specs.Str.{bytes_eq}
use Rattle.std.proofs.lemmas.Bool.{and_parts, eqb-true, ne_eqb}
use Rattle.csv.specs.Reading.{records, strip_bom}
use Rattle.dk_decl.specs.declared.decls.PointDecl.{PointDecl}
use Rattle.dk_write.specs.Texts.{Write}
use Rattle.dk_table.specs.Tables.PlacedRows.{Placed}
use Rattle.dk_table.specs.Streams.{Step, Stream, all_steps, end_steps, even_step, file_steps, first_cells, first_refusal, header_steps, names_in, row_steps, rows_before, rows_steps, stream_at, stream_by, stream_with, told_steps, trace_before}
use Rattle.dk_table.specs.Tables.{◌>>=◌, are_paired, config_by, file_rows, if_even, is_uneven, names_by, names_of, placed_from, refused, rows_in, rows_of, rows_of_all, same_cells, uneven_row}
use Rattle.dk_table.specs.Traces.{are_named, bad_cell, declaration_of, if_told, is_told, kinds_of, trace_at, trace_by, trace_of_table, untold_row, writes_of}
use Rattle.dk_table.specs.declared.columns.ColumnKind.{ColumnKind}
use Rattle.dk_table.specs.declared.words.command.Command.{Command}
use Rattle.dk_table.specs.declared.faults.Refusal.{Refusal}
use Rattle.dk_table.specs.declared.faults.TableWhy.TheVariants.{BadName, OpenQuote, OtherHeader, RowLength}
use Rattle.dk_table.proofs.Parts.{no_records}
use Rattle.dk_table.proofs.Streamed.{before_none, by_named, by_unnamed, refused_behind, refused_early, refused_in_front, written_ended}
use Rattle.dk_table.proofs.Taking.{all_told}

abbrev ok_rows : List Placed → Result (List Placed) Refusal
ok_rows rows = Ok rows

abbrev ok_writes : List Write → Result (List Write) Refusal
ok_writes ws = Ok ws

-- ---- no refusal among several
front_clean : (front rest : List Step) → first_refusal (front ++ rest) ≡ None → first_refusal front ≡ None
front_clean front rest none = go (first_refusal front) refl
  where
    go : (o : Option Refusal) → first_refusal front ≡ o → first_refusal front ≡ None
    go None is = is
    go (Some r) is = let some : Some r ≡ None = sym (refused_in_front front rest r is) ∙ none in absurd (cc some)

rest_clean : (front rest : List Step) → first_refusal (front ++ rest) ≡ None → first_refusal rest ≡ None
rest_clean front rest none = sym (refused_behind front rest (front_clean front rest none)) ∙ none

-- ---- one row
even_clean : (columns : ℕ) (row : Placed) → first_refusal (even_step columns row ∷ []) ≡ None → (is_uneven columns row ≡ false) × (rows_before (even_step columns row ∷ []) ≡ row ∷ [])
even_clean columns row none = go (is_uneven columns row) refl none
  where
    go : (b : Bool) → is_uneven columns row ≡ b → first_refusal ((if b then refused row.file row.number RowLength else Ok row) ∷ []) ≡ None
        → (is_uneven columns row ≡ false) × (rows_before (even_step columns row ∷ []) ≡ row ∷ [])
    go true is e = absurd (cc e)
    go false is e = (is, ap (λ (b : Bool). rows_before ((if b then refused row.file row.number RowLength else Ok row) ∷ [])) is)

header_clean : (names : List (List ℕ)) (row : Placed) → first_refusal (header_steps names row) ≡ None → (same_cells names row.cells ≡ true) × (rows_before (header_steps names row) ≡ [])
header_clean names row none = go (same_cells names row.cells) refl none
  where
    go : (b : Bool) → same_cells names row.cells ≡ b → first_refusal (if b then [] else refused row.file 1 OtherHeader ∷ []) ≡ None
        → (same_cells names row.cells ≡ true) × (rows_before (header_steps names row) ≡ [])
    go true is e = (is, ap (λ (b : Bool). rows_before (if b then [] else refused row.file 1 OtherHeader ∷ [])) is)
    go false is e = absurd (cc e)

-- cells that are the names are as many
header_even : (names : List (List ℕ)) (row : Placed) → same_cells names row.cells ≡ true → is_uneven (length names) row ≡ false
header_even names row same =
    let parts = and_parts (length names == length row.cells) (list_all (λ e. bytes_eq e.0 e.1) (zip names row.cells)) same in
    ap not (eq-eqb (length row.cells) (length names) (sym (eqb-true (length names) (length row.cells) parts.0)))

-- ---- the rows of a file
none_found : (columns : ℕ) (row : Placed) (rows : List Placed) → is_uneven columns row ≡ false → uneven_row columns rows ≡ None → uneven_row columns (row ∷ rows) ≡ None
none_found columns row rows even none = ap (λ (b : Bool). option_map (λ (r : Placed). r.number) (if b then Some row else find (is_uneven columns) rows)) even ∙ none

-- those that are no first rows
body_rows : (header : Bool) (names : List (List ℕ)) (file n : ℕ) (cells : List (List (List ℕ))) → 1 < n → first_refusal (rows_steps header names (placed_from file n cells)) ≡ None
    → (uneven_row (length names) (placed_from file n cells) ≡ None) × (rows_before (rows_steps header names (placed_from file n cells)) ≡ placed_from file n cells)
body_rows header names file n [] later none = (refl, refl)
body_rows header names file n (r ∷ cells) later none =
    let row : Placed = record { file = file; number = n; cells = r } in
    let rest : List Placed = placed_from file (n + 1) cells in
    let own : row_steps header names row ≡ even_step (length names) row ∷ [] = no_header header (ne_eqb n 1 (λ e. omega (arith, later, e))) in
    let front : first_refusal (even_step (length names) row ∷ []) ≡ None = ap first_refusal (sym own) ∙ front_clean (row_steps header names row) (rows_steps header names rest) none in
    let even = even_clean (length names) row front in
    let more = body_rows header names file (n + 1) cells (omega (arith, later)) (rest_clean (row_steps header names row) (rows_steps header names rest) none) in (
      none_found (length names) row rest even.0 more.0,
      before_none (row_steps header names row) (rows_steps header names rest) (front_clean (row_steps header names row) (rows_steps header names rest) none)
          ∙ ap (λ (l : List Step). rows_before l ++ rows_before (rows_steps header names rest)) own ∙ ap (λ (l : List Placed). l ++ rows_before (rows_steps header names rest)) even.1
          ∙ ap (λ (l : List Placed). row ∷ l) more.1,
    )
  where
    no_header : (h : Bool) → (n == 1) ≡ false
        → (if h && (n == 1) then header_steps names (record { file = file; number = n; cells = r }) else even_step (length names) (record { file = file; number = n; cells = r }) ∷ [])
        ≡ even_step (length names) (record { file = file; number = n; cells = r }) ∷ []
    no_header true e = ap (λ (b : Bool). if b then header_steps names (record { file = file; number = n; cells = r }) else even_step (length names) (record { file = file; number = n; cells = r }) ∷ []) e
    no_header false e = refl

-- rows of a file that has some
rows_clean : (header : Bool) (names : List (List ℕ)) (file : ℕ) (cells : List (List (List ℕ))) → 0 < length (placed_from file 1 cells) → first_refusal (rows_steps header names (placed_from file 1 cells)) ≡ None
    → rows_of header names file (placed_from file 1 cells) ≡ Ok (rows_before (rows_steps header names (placed_from file 1 cells)))
rows_clean header names file [] some none = absurd (omega (arith, some))
rows_clean true names file (r ∷ cells) some none =
    let row : Placed = record { file = file; number = 1; cells = r } in
    let rest : List Placed = placed_from file 2 cells in
    let own : List Step = header_steps names row in
    let others : List Step = rows_steps true names rest in
    let clean : first_refusal own ≡ None = front_clean own others none in
    let head = header_clean names row clean in
    let more = body_rows true names file 2 cells (omega arith) (rest_clean own others none) in
    let even : uneven_row (length names) (row ∷ rest) ≡ None = none_found (length names) row rest (header_even names row head.0) more.0 in
    let left : rows_before (own ++ others) ≡ rest = before_none own others clean ∙ ap (λ (l : List Placed). l ++ rows_before others) head.1 ∙ more.1 in
    ap (λ (b : Bool). if true && not b then refused file 1 OtherHeader else if_even file (uneven_row (length names) (row ∷ rest)) (Ok rest)) head.0
    ∙ ap (λ (o : Option ℕ). if_even file o (Ok rest)) even ∙ ap ok_rows (sym left)
rows_clean false names file (r ∷ cells) some none =
    let row : Placed = record { file = file; number = 1; cells = r } in
    let rest : List Placed = placed_from file 2 cells in
    let own : List Step = even_step (length names) row ∷ [] in
    let others : List Step = rows_steps false names rest in
    let clean : first_refusal own ≡ None = front_clean own others none in
    let head = even_clean (length names) row clean in
    let more = body_rows false names file 2 cells (omega arith) (rest_clean own others none) in
    let even : uneven_row (length names) (row ∷ rest) ≡ None = none_found (length names) row rest head.0 more.0 in
    let left : rows_before (own ++ others) ≡ row ∷ rest =
    before_none own others clean ∙ ap (λ (l : List Placed). l ++ rows_before others) head.1 ∙ ap (λ (l : List Placed). row ∷ l) more.1 in
    ap (λ (o : Option ℕ). if_even file o (Ok (row ∷ rest))) even ∙ ap ok_rows (sym left)

-- ---- a file
-- a file that can end has rows, and its quotes go in pairs
record EndsClean (file count : ℕ) (paired : Bool) : Type 0 where
  some : 0 < count
  quoted : paired ≡ true
  none : rows_before (end_steps file count paired) ≡ []

end_clean : (file count : ℕ) (paired : Bool) → first_refusal (end_steps file count paired) ≡ None → EndsClean file count paired
end_clean file zero paired none = absurd (cc none)
end_clean file (suc n) true none = record { some = omega arith; quoted = refl; none = refl }
end_clean file (suc n) false none = absurd (cc none)

module _ (c : Command) (names : List (List ℕ)) (file : ℕ) (bytes : List ℕ) (none : first_refusal (file_steps c names file bytes) ≡ None) where
  abbrev rows : List Placed
  rows = rows_in c.separator file bytes

  abbrev own : List Step
  own = rows_steps c.has_header names rows

  abbrev end : List Step
  end = end_steps file (length rows) (are_paired bytes)

  file_ends : EndsClean file (length rows) (are_paired bytes)
  file_ends = end_clean file (length rows) (are_paired bytes) (rest_clean own end none)

  file_clean : file_rows c names file bytes ≡ Ok (rows_before (file_steps c names file bytes))
  file_clean =
      let clean : first_refusal own ≡ None = front_clean own end none in
      ap (λ (b : Bool). if b then rows_of c.has_header names file rows else refused file (length rows) OpenQuote) file_ends.quoted
      ∙ rows_clean c.has_header names file (records (config_by c.separator) (strip_bom bytes)) file_ends.some clean
      ∙ ap ok_rows
      (sym (before_none own end clean ∙ ap (λ (l : List Placed). rows_before own ++ l) file_ends.none ∙ append-nil (rows_before own)))

-- ---- all files
all_clean : (c : Command) (names : List (List ℕ)) (file : ℕ) (files : List (List ℕ)) → first_refusal (all_steps c names file files) ≡ None
    → rows_of_all c names file files ≡ Ok (rows_before (all_steps c names file files))
all_clean c names file [] none = refl
all_clean c names file (bytes ∷ more) none =
    let own : List Step = file_steps c names file bytes in
    let others : List Step = all_steps c names (file + 1) more in
    let clean : first_refusal own ≡ None = front_clean own others none in
    ap (λ (r : Result (List Placed) Refusal). r >>= λ front. rows_of_all c names (file + 1) more >>= λ rest. Ok (front ++ rest)) (file_clean c names file bytes clean)
    ∙ ap (λ (r : Result (List Placed) Refusal). r >>= λ rest. Ok (rows_before own ++ rest)) (all_clean c names (file + 1) more (rest_clean own others none))
    ∙ ap ok_rows (sym (before_none own others clean))

-- ---- cells
record ToldClean (kinds : List ColumnKind) (steps : List Step) : Type 0 where
  none : first_refusal steps ≡ None
  same : rows_before (told_steps kinds steps) ≡ rows_before steps
  told : untold_row kinds (rows_before steps) ≡ None

told_clean : (kinds : List ColumnKind) (steps : List Step) → first_refusal (told_steps kinds steps) ≡ None → ToldClean kinds steps
told_clean kinds [] none = record { none = refl; same = refl; told = refl }
told_clean kinds (Err refusal ∷ steps) none = absurd (cc none)
told_clean kinds (Ok row ∷ steps) none = go (λ e. told_clean kinds steps e) (is_told kinds row) refl none
  where
    go : (first_refusal (told_steps kinds steps) ≡ None → ToldClean kinds steps) → (b : Bool) → is_told kinds row ≡ b → first_refusal ((if b then Ok row else Err (bad_cell row)) ∷ told_steps kinds steps) ≡ None → ToldClean kinds (Ok row ∷ steps)
    go again false is e = absurd (cc e)
    go again true is e =
        let more : ToldClean kinds steps = again e in
        record {
          none = more.none;
          same =
              ap (λ (b : Bool). rows_before ((if b then Ok row else Err (bad_cell row)) ∷ told_steps kinds steps)) is ∙ ap (λ (l : List Placed). row ∷ l) more.same;
          told =
              ap (λ (b : Bool). if not b then Some row else find (λ (r : Placed). not (is_told kinds r)) (rows_before steps)) is ∙ more.told;
        }

taken_clean : (n : ℕ) (steps : List Step) → first_refusal steps ≡ None → rows_before (take n steps) ≡ take n (rows_before steps)
taken_clean zero [] none = refl
taken_clean (suc n) [] none = refl
taken_clean zero (Ok row ∷ steps) none = refl
taken_clean (suc n) (Ok row ∷ steps) none = ap (λ (l : List Placed). row ∷ l) (taken_clean n steps none)
taken_clean zero (Err refusal ∷ steps) none = absurd (cc none)
taken_clean (suc n) (Err refusal ∷ steps) none = absurd (cc none)

-- ---- the stream
module _ (point : List ℕ) (names : List (List ℕ)) (types : ℕ) (steps : List Step) where
  abbrev kinds : List ColumnKind
  kinds = kinds_of (rows_before (take types steps)) (length names)

  abbrev d : PointDecl
  d = declaration_of point names kinds

  abbrev stream : Stream
  stream = stream_with point names types true steps

  record StreamClean : Type 0 where
    named : are_named d ≡ true
    told : ToldClean kinds steps
    written : stream.written ≡ writes_of d kinds (rows_before steps)

  by_clean : stream ≡ stream_by d kinds steps → stream.refusal ≡ None → StreamClean
  by_clean is none = go (are_named d) refl
    where
      go : (b : Bool) → are_named d ≡ b → StreamClean
      go false unnamed =
          let some : Some (record { file = 0; row = 1; why = BadName }) ≡ None = sym (ap (λ (s : Stream). s.refusal) (is ∙ by_unnamed d kinds steps unnamed)) ∙ none in absurd (cc some)
      go true named =
          let same : stream ≡ trace_before d kinds (told_steps kinds steps) = is ∙ by_named d kinds steps named in
          let told : ToldClean kinds steps = told_clean kinds steps (sym (ap (λ (s : Stream). s.refusal) same) ∙ none) in
          record { named = named; told = told; written = ap (λ (s : Stream). s.written) same ∙ ap (writes_of d kinds) told.same }

  stream_clean : stream.refusal ≡ None → StreamClean
  stream_clean none = go (first_refusal (take types steps)) refl
    where
      go : (o : Option Refusal) → first_refusal (take types steps) ≡ o → StreamClean
      go (Some refusal) is =
          let some : Some refusal ≡ None = sym (ap (λ (s : Stream). s.refusal) (refused_early point names types true steps refusal is)) ∙ none in absurd (cc some)
      go None is = by_clean (written_ended point names types steps kinds is refl) none

names_clean : (header : Bool) (rows : List Placed) → 0 < length rows → names_of header rows ≡ Ok (names_by header (first_cells rows))
names_clean header [] some = absurd (omega (arith, some))
names_clean header (row ∷ _) some = refl

-- Where nothing is refused, what is written as rows come is the trace of the tables.
pub streams_are_traces : (c : Command) (point : List ℕ) (types : ℕ) (files : List (List ℕ)) → c.types ≡ Some types → (stream_at c point types files).refusal ≡ None
    → trace_at c point files ≡ Ok (stream_at c point types files).written
streams_are_traces c point types [] asked none = absurd (cc none)
streams_are_traces c point types (bytes ∷ more) asked none =
    let names : List (List ℕ) = names_in c (bytes ∷ more) None in
    let all : List Step = all_steps c names 0 (bytes ∷ more) in
    let is : stream_at c point types (bytes ∷ more) ≡ stream_with point names types true all = ap (stream_with point names types true) (append-nil all) in
    let clean : StreamClean point names types all = stream_clean point names types all (sym (ap (λ (s : Stream). s.refusal) is) ∙ none) in
    let rows : List Placed = rows_before all in
    let K : List ColumnKind = kinds_of (rows_before (take types all)) (length names) in
    let first : EndsClean 0 (length (rows_in c.separator 0 bytes)) (are_paired bytes) =
    file_ends c names 0 bytes (front_clean (file_steps c names 0 bytes) (all_steps c names 1 more) clean.told.none) in
    let own_kinds : kinds_of (take types rows) (length names) ≡ K = ap (λ (l : List Placed). kinds_of l (length names)) (sym (taken_clean types all clean.told.none)) in
    ap (λ (r : Result (List (List ℕ)) Refusal). r >>= λ ns. rows_of_all c ns 0 (bytes ∷ more) >>= λ rs. trace_of_table point c.types ns rs)
    (names_clean c.has_header (rows_in c.separator 0 bytes) first.some)
    ∙ ap (λ (r : Result (List Placed) Refusal). r >>= λ rs. trace_of_table point c.types names rs) (all_clean c names 0 (bytes ∷ more) clean.told.none)
    ∙ ap (λ (o : Option ℕ). trace_of_table point o names rows) asked
    ∙ ap (λ (ks : List ColumnKind). trace_by (declaration_of point names ks) ks rows) own_kinds
    ∙ all_told (declaration_of point names K) K rows clean.named clean.told.told
    ∙ ap ok_writes (sym (ap (λ (s : Stream). s.written) is ∙ clean.written))

-- ---- and the other way round: rows of which none is refused
none_uneven : (columns : ℕ) (row : Placed) (rows : List Placed) → uneven_row columns (row ∷ rows) ≡ None → (is_uneven columns row ≡ false) × (uneven_row columns rows ≡ None)
none_uneven columns row rows none = go (is_uneven columns row) refl none
  where
    go : (b : Bool) → is_uneven columns row ≡ b → option_map (λ (r : Placed). r.number) (if b then Some row else find (is_uneven columns) rows) ≡ None
        → (is_uneven columns row ≡ false) × (uneven_row columns rows ≡ None)
    go true is e = absurd (cc e)
    go false is e = (is, e)

even_taken : (columns : ℕ) (row : Placed) → is_uneven columns row ≡ false → even_step columns row ≡ Ok row
even_taken columns row even = ap (λ (b : Bool). if b then refused row.file row.number RowLength else Ok row) even

-- no first rows
body_taken : (header : Bool) (names : List (List ℕ)) (file n : ℕ) (cells : List (List (List ℕ))) → 1 < n → uneven_row (length names) (placed_from file n cells) ≡ None
    → first_refusal (rows_steps header names (placed_from file n cells)) ≡ None
body_taken header names file n [] later none = refl
body_taken header names file n (r ∷ cells) later none =
    let row : Placed = record { file = file; number = n; cells = r } in
    let rest : List Placed = placed_from file (n + 1) cells in
    let even = none_uneven (length names) row rest none in
    ap (λ (l : List Step). first_refusal (l ++ rows_steps header names rest))
    (no_header header (ne_eqb n 1 (λ e. omega (arith, later, e))) ∙ ap (λ (s : Step). s ∷ []) (even_taken (length names) row even.0))
    ∙ body_taken header names file (n + 1) cells (omega (arith, later)) even.1
  where
    no_header : (h : Bool) → (n == 1) ≡ false
        → (if h && (n == 1) then header_steps names (record { file = file; number = n; cells = r }) else even_step (length names) (record { file = file; number = n; cells = r }) ∷ [])
        ≡ even_step (length names) (record { file = file; number = n; cells = r }) ∷ []
    no_header true e = ap (λ (b : Bool). if b then header_steps names (record { file = file; number = n; cells = r }) else even_step (length names) (record { file = file; number = n; cells = r }) ∷ []) e
    no_header false e = refl

-- rows that are a table's
even_or_not : (file : ℕ) (uneven : Option ℕ) (rows all : List Placed) → if_even file uneven (Ok rows) ≡ Ok all → uneven ≡ None
even_or_not file None rows all e = refl
even_or_not file (Some n) rows all e = absurd (cc e)

rows_taken : (header : Bool) (names : List (List ℕ)) (file : ℕ) (cells : List (List (List ℕ))) (all : List Placed) → rows_of header names file (placed_from file 1 cells) ≡ Ok all
    → (0 < length (placed_from file 1 cells)) × (first_refusal (rows_steps header names (placed_from file 1 cells)) ≡ None)
rows_taken header names file [] all e = absurd (cc e)
rows_taken true names file (r ∷ cells) all e = (omega arith, go (same_cells names r) refl e)
  where
    go : (b : Bool) → same_cells names r ≡ b
        → (if true && not b then refused file 1 OtherHeader else if_even file (uneven_row (length names) (record { file = file; number = 1; cells = r } ∷ placed_from file 2 cells)) (Ok (placed_from file 2 cells))) ≡ Ok all
        → first_refusal (header_steps names (record { file = file; number = 1; cells = r }) ++ rows_steps true names (placed_from file 2 cells)) ≡ None
    go false is same = absurd (cc same)
    go true is same =
        let first : Placed = record { file = file; number = 1; cells = r } in
        let others : List Placed = placed_from file 2 cells in
        let even = none_uneven (length names) first others (even_or_not file (uneven_row (length names) (first ∷ others)) others all same) in
        ap (λ (b : Bool). first_refusal ((if b then [] else refused file 1 OtherHeader ∷ []) ++ rows_steps true names others)) is
        ∙ body_taken true names file 2 cells (omega arith) even.1
rows_taken false names file (r ∷ cells) all e =
    let first : Placed = record { file = file; number = 1; cells = r } in
    let others : List Placed = placed_from file 2 cells in
    let even = none_uneven (length names) first others (even_or_not file (uneven_row (length names) (first ∷ others)) (first ∷ others) all e) in (
      omega arith,
      ap (λ (s : Step). first_refusal ((s ∷ []) ++ rows_steps false names others)) (even_taken (length names) first even.0)
          ∙ body_taken false names file 2 cells (omega arith) even.1,
    )

-- a file
none_at_end : (file count : ℕ) (paired : Bool) → 0 < count → paired ≡ true → end_steps file count paired ≡ []
none_at_end file zero paired some quoted = absurd (omega (arith, some))
none_at_end file (suc n) paired some quoted = ap (λ (b : Bool). if b then [] else refused file (suc n) OpenQuote ∷ []) quoted

file_taken : (c : Command) (names : List (List ℕ)) (file : ℕ) (bytes : List ℕ) (all : List Placed) → file_rows c names file bytes ≡ Ok all
    → first_refusal (file_steps c names file bytes) ≡ None
file_taken c names file bytes all e = go (are_paired bytes) refl e
  where
    go : (b : Bool) → are_paired bytes ≡ b
        → (if b then rows_of c.has_header names file (rows_in c.separator file bytes) else refused file (length (rows_in c.separator file bytes)) OpenQuote) ≡ Ok all
        → first_refusal (file_steps c names file bytes) ≡ None
    go false quoted same = absurd (cc same)
    go true quoted same =
        let rows : List Placed = rows_in c.separator file bytes in
        let taken = rows_taken c.has_header names file (records (config_by c.separator) (strip_bom bytes)) all same in
        refused_behind (rows_steps c.has_header names rows) (end_steps file (length rows) (are_paired bytes)) taken.1
        ∙ ap first_refusal (none_at_end file (length rows) (are_paired bytes) taken.0 quoted)

-- all files
all_taken : (c : Command) (names : List (List ℕ)) (file : ℕ) (files : List (List ℕ)) (all : List Placed) → rows_of_all c names file files ≡ Ok all
    → first_refusal (all_steps c names file files) ≡ None
all_taken c names file [] all e = refl
all_taken c names file (bytes ∷ more) all e =
    go (λ rest others. all_taken c names (file + 1) more rest others) (file_rows c names file bytes) refl (rows_of_all c names (file + 1) more) refl e
  where
    go : ((rest : List Placed) → rows_of_all c names (file + 1) more ≡ Ok rest → first_refusal (all_steps c names (file + 1) more) ≡ None) → (r : Result (List Placed) Refusal) → file_rows c names file bytes ≡ r → (s : Result (List Placed) Refusal) → rows_of_all c names (file + 1) more ≡ s
        → (r >>= λ front. s >>= λ rest. Ok (front ++ rest)) ≡ Ok all → first_refusal (file_steps c names file bytes ++ all_steps c names (file + 1) more) ≡ None
    go again (Err refusal) first s others same = absurd (cc same)
    go again (Ok front) first (Err refusal) others same = absurd (cc same)
    go again (Ok front) first (Ok rest) others same =
        refused_behind (file_steps c names file bytes) (all_steps c names (file + 1) more) (file_taken c names file bytes front first) ∙ again rest others

-- cells
told_taken : (kinds : List ColumnKind) (steps : List Step) → first_refusal steps ≡ None → untold_row kinds (rows_before steps) ≡ None → first_refusal (told_steps kinds steps) ≡ None
told_taken kinds [] none told = refl
told_taken kinds (Err refusal ∷ steps) none told = absurd (cc none)
told_taken kinds (Ok row ∷ steps) none told = go (λ e. told_taken kinds steps none e) (is_told kinds row) refl told
  where
    go : (untold_row kinds (rows_before steps) ≡ None → first_refusal (told_steps kinds steps) ≡ None) → (b : Bool) → is_told kinds row ≡ b → (if not b then Some row else find (λ (r : Placed). not (is_told kinds r)) (rows_before steps)) ≡ None
        → first_refusal ((if is_told kinds row then Ok row else Err (bad_cell row)) ∷ told_steps kinds steps) ≡ None
    go again false is e = absurd (cc e)
    go again true is e = ap (λ (b : Bool). first_refusal ((if b then Ok row else Err (bad_cell row)) ∷ told_steps kinds steps)) is ∙ again e

none_taken : (n : ℕ) (steps : List Step) → first_refusal steps ≡ None → first_refusal (take n steps) ≡ None
none_taken zero steps none = refl
none_taken (suc n) [] none = refl
none_taken (suc n) (Ok row ∷ steps) none = none_taken n steps none
none_taken (suc n) (Err refusal ∷ steps) none = absurd (cc none)

-- ---- a trace
record TraceTaken (d : PointDecl) (kinds : List ColumnKind) (rows : List Placed) (ws : List Write) : Type 0 where
  named : are_named d ≡ true
  told : untold_row kinds rows ≡ None
  written : writes_of d kinds rows ≡ ws

trace_taken : (d : PointDecl) (kinds : List ColumnKind) (rows : List Placed) (ws : List Write) → trace_by d kinds rows ≡ Ok ws → TraceTaken d kinds rows ws
unfolding trace_by
trace_taken d kinds rows ws e = go (are_named d) refl (untold_row kinds rows) refl e
  where
    go : (b : Bool) → are_named d ≡ b → (o : Option Placed) → untold_row kinds rows ≡ o
        → (if b then if_told (option_map bad_cell o) (writes_of d kinds rows) else refused 0 1 BadName) ≡ Ok ws → TraceTaken d kinds rows ws
    go false named o told same = absurd (cc same)
    go true named (Some row) told same = absurd (cc same)
    go true named None told same = let both : ok_writes (writes_of d kinds rows) ≡ Ok ws = same in record { named = named; told = told; written = cc both }

bare_empty : strip_bom [] ≡ []
unfolding strip_bom
bare_empty = refl

module _ (c : Command) (point : List ℕ) (types : ℕ) (asked : c.types ≡ Some types) (ws : List Write) where
  -- what behind the names of columns makes a trace
  abbrev trace_from : Result (List (List ℕ)) Refusal → List (List ℕ) → Result (List Write) Refusal
  trace_from r files = r >>= λ ns. rows_of_all c ns 0 files >>= λ rs. trace_of_table point c.types ns rs

  module _ (bytes : List ℕ) (more : List (List ℕ)) where
    abbrev the_names : List (List ℕ)
    the_names = names_in c (bytes ∷ more) None

    abbrev the_steps : List Step
    the_steps = all_steps c the_names 0 (bytes ∷ more)

    abbrev the_kinds : List ColumnKind
    the_kinds = kinds_of (rows_before (take types the_steps)) (length the_names)

    abbrev the_decl : PointDecl
    the_decl = declaration_of point the_names the_kinds

    stream_taken : first_refusal the_steps ≡ None → trace_by the_decl the_kinds (rows_before the_steps) ≡ Ok ws → stream_at c point types (bytes ∷ more) ≡ record { written = ws; refusal = None }
    stream_taken clean e =
        let t : TraceTaken the_decl the_kinds (rows_before the_steps) ws = trace_taken the_decl the_kinds (rows_before the_steps) ws e in
        let none : first_refusal (told_steps the_kinds the_steps) ≡ None = told_taken the_kinds the_steps clean t.told in
        let told : ToldClean the_kinds the_steps = told_clean the_kinds the_steps none in
        ap (stream_with point the_names types true) (append-nil the_steps)
        ∙ written_ended point the_names types the_steps the_kinds (none_taken types the_steps clean) refl
        ∙ by_named the_decl the_kinds the_steps t.named
        ∙ ap (λ (o : Option Refusal). record { written = writes_of the_decl the_kinds (rows_before (told_steps the_kinds the_steps)); refusal = o }) none
        ∙ ap (λ (l : List Write). record { written = l; refusal = None }) (ap (writes_of the_decl the_kinds) told.same ∙ t.written)

    rows_found : (r : Result (List Placed) Refusal) → rows_of_all c the_names 0 (bytes ∷ more) ≡ r → (r >>= λ rs. trace_of_table point c.types the_names rs) ≡ Ok ws
        → stream_at c point types (bytes ∷ more) ≡ record { written = ws; refusal = None }
    rows_found (Err refusal) is e = absurd (cc e)
    rows_found (Ok rows) is e =
        let clean : first_refusal the_steps ≡ None = all_taken c the_names 0 (bytes ∷ more) rows is in
        let both : ok_rows rows ≡ Ok (rows_before the_steps) = sym is ∙ all_clean c the_names 0 (bytes ∷ more) clean in
        let same : rows ≡ rows_before the_steps = cc both in
        let own_kinds : kinds_of (take types (rows_before the_steps)) (length the_names) ≡ the_kinds = ap (λ (l : List Placed). kinds_of l (length the_names)) (sym (taken_clean types the_steps clean)) in
        stream_taken clean
        (sym (ap (trace_of_table point c.types the_names) same
        ∙ ap (λ (o : Option ℕ). trace_of_table point o the_names (rows_before the_steps)) asked
        ∙ ap (λ (ks : List ColumnKind). trace_by (declaration_of point the_names ks) ks (rows_before the_steps)) own_kinds)
        ∙ e)

    names_found : (rows : List Placed) → rows_in c.separator 0 bytes ≡ rows → trace_from (names_of c.has_header (rows_in c.separator 0 bytes)) (bytes ∷ more) ≡ Ok ws
        → stream_at c point types (bytes ∷ more) ≡ record { written = ws; refusal = None }
    names_found [] is e =
        let none : trace_from (names_of c.has_header []) (bytes ∷ more) ≡ Ok ws = sym (ap (λ (l : List Placed). trace_from (names_of c.has_header l) (bytes ∷ more)) is) ∙ e in absurd (cc none)
    names_found (row ∷ rows) is e =
        let some : 0 < length (rows_in c.separator 0 bytes) = omega (arith, ap length is) in
        rows_found (rows_of_all c the_names 0 (bytes ∷ more)) refl
        (sym (ap (λ (r : Result (List (List ℕ)) Refusal). trace_from r (bytes ∷ more)) (names_clean c.has_header (rows_in c.separator 0 bytes) some)) ∙ e)

-- Where there is a trace of the tables, nothing is refused as their rows come, and it is what is written.
pub traces_are_streams : (c : Command) (point : List ℕ) (types : ℕ) (files : List (List ℕ)) → c.types ≡ Some types → (ws : List Write) → trace_at c point files ≡ Ok ws
    → stream_at c point types files ≡ record { written = ws; refusal = None }
traces_are_streams c point types [] asked ws e =
    let none : rows_in c.separator 0 [] ≡ [] = ap (λ (l : List ℕ). placed_from 0 1 (records (config_by c.separator) l)) bare_empty ∙ ap (placed_from 0 1) (no_records (config_by c.separator)) in
    let refuses : trace_from c point types asked ws (names_of c.has_header []) [] ≡ Ok ws =
    sym (ap (λ (l : List Placed). trace_from c point types asked ws (names_of c.has_header l) []) none) ∙ e in
    absurd (cc refuses)
traces_are_streams c point types (bytes ∷ more) asked ws e = names_found c point types asked ws bytes more (rows_in c.separator 0 bytes) refl e
