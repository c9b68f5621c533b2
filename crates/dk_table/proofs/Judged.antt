-- The kinds that are found row by row are those of all rows.
use Rattle.std.proofs.Common.{◌≡◌, ◌≤◌, ◌<◌, ◌+◌, ◌∙◌, ◌&&◌, ◌==◌, ◌∷◌, ◌++◌, [], ℕ, zero, suc, Bool, true, false, cond, List, Option, Some, None, Result, Ok, Err, append-nil, append_assoc, drop, get_or, length, length-append, length-drop, map, replicate, set, take, refl, sym, ap, if◌then◌else◌, is_some, arith}
use Rattle.std.specs.Prelude.{filter, find, not, slice_get, unwrap_or}
use Rattle.std.specs.List.{enumerate_from, list_all, range_with_len, zip}
use Rattle.std.proofs.lemmas.Bool.{and_parts, eqb-true}
use Rattle.std.proofs.Math.Seq.{get_or_at, set_at}
use Rattle.std.proofs.lemmas.List.{drop_all, drop_more, length-take, map-append, take_all, take_more}
use Rattle.std.proofs.lemmas.List.Folds.{list_all-append}
use Rattle.std.proofs.lemmas.List.FromFn.{length-range_with_len}
use Rattle.dk_base.specs.Pieces.{is_empty}
use Rattle.dk_base.specs.declared.values.Value.TheVariants as value
use Rattle.dk_table.specs.Columns.{all_write, cell_value, first_kind, kind_of_column, written_value}
use Rattle.dk_table.specs.Columns.Judging.{Judged, first_or_text, fresh, fresh_column, judging_all, judging_rows, kind_by, with_cell, with_row}
use Rattle.dk_table.specs.Tables.{◌>>=◌, rows_of_all}
use Rattle.dk_table.specs.Tables.PlacedRows.{Placed, cell_at, cells_at}
use Rattle.dk_table.specs.Traces.{is_told, judged, kinds_in, kinds_of, untold_row}
use Rattle.dk_table.specs.declared.columns.TheConstants.{CANDIDATES}
use Rattle.dk_table.specs.declared.columns.ColumnKind.{ColumnKind}
use Rattle.dk_table.specs.declared.columns.ColumnKind.TheVariants as kind
use Rattle.dk_table.specs.declared.words.command.Command.{Command}
use Rattle.dk_table.specs.declared.faults.Refusal.{Refusal}
use Rattle.dk_table.specs.declared.columns.judging.Column.{Column}

-- ---- lists
map_twice : {X Y Z : Type 0} (f : X → Y) (g : Y → Z) (xs : List X) → map g (map f xs) ≡ map (λ x. g (f x)) xs
map_twice f g [] = refl
map_twice f g (x ∷ xs) = ap (λ l. g (f x) ∷ l) (map_twice f g xs)

map_same : {X Y : Type 0} (f g : X → Y) → ((x : X) → f x ≡ g x) → (xs : List X) → map f xs ≡ map g xs
map_same f g h [] = refl
map_same f g h (x ∷ xs) = ap (λ y. y ∷ map f xs) (h x) ∙ ap (λ l. g x ∷ l) (map_same f g h xs)

places : {X : Type 0} (f : ℕ → X) (a n : ℕ) → enumerate_from a (map f (range_with_len a n)) ≡ map (λ p. (p, f p)) (range_with_len a n)
places f a zero = refl
places f a (suc n) = ap (λ l. (a, f a) ∷ l) (places f (a + 1) n)

all_alike : {X Y : Type 0} (y : Y) (xs : List X) → map (λ x. y) xs ≡ replicate (length xs) y
all_alike y [] = refl
all_alike y (x ∷ xs) = ap (λ l. y ∷ l) (all_alike y xs)

none_taken : (n : ℕ) → let none : List Placed = [] in take n none ≡ none
none_taken zero = refl
none_taken (suc n) = refl

and_true : (b : Bool) → (b && true) ≡ b
and_true true = refl
and_true false = refl

all_more : {X : Type 0} (p : X → Bool) (xs : List X) (x : X) → list_all p (xs ++ x ∷ []) ≡ (list_all p xs && p x)
all_more p xs x = list_all-append p xs (x ∷ []) ∙ ap (λ b. list_all p xs && b) (and_true (p x))

kept : {X : Type 0} (q : X → Bool) (x : X) (a b : Bool) (us vs : List X) → q x ≡ b → filter q us ≡ vs → filter q (cond a (x ∷ us) us) ≡ cond (a && b) (x ∷ vs) vs
kept q x true true us vs e h = ap (λ c. cond c (x ∷ filter q us) (filter q us)) e ∙ ap (λ l. x ∷ l) h
kept q x true false us vs e h = ap (λ c. cond c (x ∷ filter q us) (filter q us)) e ∙ h
kept q x false b us vs e h = h

filter_twice : {X : Type 0} (p q r : X → Bool) → ((x : X) → r x ≡ (p x && q x)) → (xs : List X) → filter q (filter p xs) ≡ filter r xs
filter_twice p q r h [] = refl
filter_twice p q r h (x ∷ xs) =
    kept q x (p x) (q x) (filter p xs) (filter r xs) refl (filter_twice p q r h xs) ∙ ap (λ c. cond c (x ∷ filter r xs) (filter r xs)) (sym (h x))

all_kept : {X : Type 0} (p : X → Bool) (x : X) (xs : List X) (b : Bool) → p x ≡ b → (b && list_all p xs) ≡ true → (list_all p xs ≡ true → filter p xs ≡ xs)
    → cond b (x ∷ filter p xs) (filter p xs) ≡ x ∷ xs
all_kept p x xs true is all more = ap (λ l. x ∷ l) (more all)
all_kept p x xs false is all more = absurd (cc all)

filter_all : {X : Type 0} (p : X → Bool) (xs : List X) → list_all p xs ≡ true → filter p xs ≡ xs
filter_all p [] e = refl
filter_all p (x ∷ xs) e = all_kept p x xs (p x) refl e (filter_all p xs)

all_true : {X : Type 0} (xs : List X) → list_all (λ x. true) xs ≡ true
all_true [] = refl
all_true (x ∷ xs) = all_true xs

-- ---- a column
abbrev pub column_of : List (List ℕ) → Column
column_of cells = record { kinds = filter (λ k. all_write k cells) CANDIDATES; is_empty = list_all is_empty cells }

abbrev pub column : List ColumnKind → Bool → Column
column kinds empty = record { kinds = kinds; is_empty = empty }

cell_more : (cells : List (List ℕ)) (cell : List ℕ) → with_cell (column_of cells) cell ≡ column_of (cells ++ cell ∷ [])
cell_more cells cell =
    let more : List (List ℕ) = cells ++ cell ∷ [] in
    let kinds : List ColumnKind = filter (λ k. all_write k more) CANDIDATES in
    ap (λ (ks : List ColumnKind). column ks (list_all is_empty cells && is_empty cell))
    (filter_twice (λ k. all_write k cells) (λ k. is_some (cell_value k cell)) (λ k. all_write k more) (λ k. all_more (λ c. is_some (cell_value k c)) cells cell) CANDIDATES)
    ∙ ap (column kinds) (sym (all_more is_empty cells cell))

either_first : (b : Bool) (k : ColumnKind) (us : List ColumnKind) (o : Option ColumnKind) → first_or_text us ≡ unwrap_or o kind.Text
    → first_or_text (cond b (k ∷ us) us) ≡ unwrap_or (cond b (Some k) o) kind.Text
either_first true k us o h = refl
either_first false k us o h = h

first_found : (p : ColumnKind → Bool) (ks : List ColumnKind) → first_or_text (filter p ks) ≡ unwrap_or (find p ks) kind.Text
first_found p [] = refl
first_found p (k ∷ ks) = either_first (p k) k (filter p ks) (find p ks) (first_found p ks)

kind_found : (cells : List (List ℕ)) → kind_by (column_of cells) ≡ kind_of_column cells
kind_found cells = ap (λ (k : ColumnKind). if list_all is_empty cells then kind.Text else k) (first_found (λ k. all_write k cells) CANDIDATES)

-- an empty cell changes nothing
pub empty_kept : (c : Column) (cell : List ℕ) → (length cell == 0) ≡ true → c ≡ with_cell c cell
empty_kept c [] e =
    ap (λ (ks : List ColumnKind). column ks c.is_empty) (sym (filter_all (λ k. true) c.kinds (all_true c.kinds))) ∙ ap (column (filter (λ k. true) c.kinds)) (sym (and_true c.is_empty))
empty_kept c (x ∷ xs) e = let none : suc (length xs) ≡ 0 = eqb-true (suc (length xs)) 0 e in absurd (omega (arith, none))

and_false : (b : Bool) → (b && false) ≡ false
and_false true = refl
and_false false = refl

-- a cell that each kind so far fits
pub full_kept : (c : Column) (cell : List ℕ) (kinds : List ColumnKind) → (length cell == 0) ≡ false → kinds ≡ c.kinds
    → list_all (λ k. is_some (cell_value k cell)) kinds ≡ true → column c.kinds false ≡ with_cell c cell
full_kept c [] kinds e same all = absurd (cc e)
full_kept c (x ∷ xs) kinds e same all =
    let p : ColumnKind → Bool = λ k. is_some (cell_value k (x ∷ xs)) in
    ap (λ (ks : List ColumnKind). column ks false) (sym (filter_all p c.kinds (ap (list_all p) (sym same) ∙ all)))
    ∙ ap (column (filter p c.kinds)) (sym (and_false c.is_empty))

-- ---- all columns
abbrev columns_of : List Placed → ℕ → List Column
columns_of rows n = map (λ place. column_of (cells_at rows place)) (range_with_len 0 n)

row_more : (rows : List Placed) (row : Placed) (n : ℕ) → with_row (columns_of rows n) row ≡ columns_of (rows ++ row ∷ []) n
row_more rows row n =
    let f : ℕ → Column = λ place. column_of (cells_at rows place) in
    let w : ℕ × Column → Column = λ e. with_cell e.1 (cell_at e.0 row) in
    ap (map w) (places f 0 n)
    ∙ map_twice (λ (p : ℕ). (p, f p)) w (range_with_len 0 n)
    ∙ map_same (λ (p : ℕ). with_cell (f p) (cell_at p row)) (λ (p : ℕ). column_of (cells_at (rows ++ row ∷ []) p))
    (λ p. cell_more (cells_at rows p) (cell_at p row) ∙ ap column_of (sym (map-append (cell_at p) rows (row ∷ [])))) (range_with_len 0 n)

-- ---- the columns are changed one after another
module _ (row : Placed) where
  abbrev with_cells : ℕ → List Column → List Column
  with_cells a columns = map (λ e. with_cell e.1 (cell_at e.0 row)) (enumerate_from a columns)

  cells_length : (a : ℕ) (columns : List Column) → length (with_cells a columns) ≡ length columns
  cells_length a [] = refl
  cells_length a (c ∷ cs) = ap suc (cells_length (a + 1) cs)

  cells_get : (a : ℕ) (columns : List Column) (i : ℕ) (d : Column) → i < length columns
      → get_or (with_cells a columns) i d ≡ with_cell (get_or columns i d) (cell_at (a + i) row)
  cells_get a [] i d lt = absurd (omega arith)
  cells_get a (c ∷ cs) zero d lt = let here : a ≡ a + 0 = omega arith in ap (λ (p : ℕ). with_cell c (cell_at p row)) here
  cells_get a (c ∷ cs) (suc i) d lt =
      let there : a + 1 + i ≡ a + suc i = omega arith in
      cells_get (a + 1) cs i d (omega arith) ∙ ap (λ (p : ℕ). with_cell (get_or cs i d) (cell_at p row)) there

  -- there are as many columns while they are changed
  pub columns_within : (old items : List Column) (i : ℕ) → i < length old → items ≡ take i (with_row old row) ++ drop i old → i < length items
  columns_within old items i lt is =
      omega (arith, ap length is, length-append (take i (with_row old row)) (drop i old), length-take i (with_row old row), length-drop i old, cells_length 0 old, lt)

  pub columns_more : (old items next : List Column) (i : ℕ) (was now : Column) → i < length old → items ≡ take i (with_row old row) ++ drop i old
      → was ≡ get_or items i was → now ≡ with_cell was (cell_at i row) → next ≡ set items i now → next ≡ take (i + 1) (with_row old row) ++ drop (i + 1) old
  columns_more old items next i was now lt is got changed set_is =
      let whole : List Column = with_row old row in
      let front : List Column = take i whole in
      let behind : List Column = drop (i + 1) old in
      let own : Column = get_or old i was in
      let long : length front ≡ i = omega (arith, length-take i whole, cells_length 0 old) in
      let split : items ≡ front ++ own ∷ behind = is ∙ ap (λ (l : List Column). front ++ l) (drop_more old i was lt) in
      let was_own : was ≡ own = got ∙ ap (λ (l : List Column). get_or l i was) split ∙ get_or_at front own behind was i long in
      let within : i < length whole = omega (arith, cells_length 0 old) in
      let at : 0 + i ≡ i = omega arith in
      let now_is : now ≡ get_or whole i was =
      changed ∙ ap (λ (c : Column). with_cell c (cell_at i row)) was_own ∙ ap (λ (p : ℕ). with_cell own (cell_at p row)) (sym at) ∙ sym (cells_get 0 old i was lt) in
      set_is ∙ ap (λ (l : List Column). set l i now) split ∙ set_at front own behind now i long
      ∙ ap (λ (c : Column). front ++ c ∷ behind) now_is
      ∙ sym (ap (λ (l : List Column). l ++ behind) (take_more whole i was within) ∙ append_assoc front (get_or whole i was ∷ []) behind)

  pub columns_all : (old items : List Column) (i : ℕ) → length old ≤ i → items ≡ take i (with_row old row) ++ drop i old → items ≡ with_row old row
  columns_all old items i past is =
      is ∙ ap (λ (l : List Column). l ++ drop i old) (take_all i (with_row old row) (omega (arith, cells_length 0 old)))
      ∙ ap (λ (l : List Column). with_row old row ++ l) (drop_all i old past) ∙ append-nil (with_row old row)

-- what is known behind some rows
abbrev known : Option ℕ → List Column → Judged
known left columns = record { left = left; columns = columns }

all_judged : (types : Option ℕ) (seen rows : List Placed) (n : ℕ) → (judging_all (known types (columns_of seen n)) rows).columns ≡ columns_of (seen ++ judged types rows) n
all_judged None seen [] n = ap (λ (l : List Placed). columns_of l n) (sym (append-nil seen))
all_judged (Some k) seen [] n = ap (λ (l : List Placed). columns_of l n) (sym (append-nil seen) ∙ ap (λ (l : List Placed). seen ++ l) (sym (none_taken k)))
all_judged None seen (row ∷ rows) n =
    ap (λ (cs : List Column). (judging_all (known None cs) rows).columns) (row_more seen row n)
    ∙ all_judged None (seen ++ row ∷ []) rows n ∙ ap (λ (l : List Placed). columns_of l n) (append_assoc seen (row ∷ []) rows)
all_judged (Some zero) seen (row ∷ rows) n = all_judged (Some zero) seen rows n
all_judged (Some (suc k)) seen (row ∷ rows) n =
    ap (λ (cs : List Column). (judging_all (known (Some k) cs) rows).columns) (row_more seen row n)
    ∙ all_judged (Some k) (seen ++ row ∷ []) rows n ∙ ap (λ (l : List Placed). columns_of l n) (append_assoc seen (row ∷ []) (take k rows))

none_seen : (n : ℕ) → replicate n fresh_column ≡ columns_of [] n
none_seen n =
    ap (λ (m : ℕ). replicate m fresh_column) (sym (length-range_with_len 0 n)) ∙ sym (all_alike fresh_column (range_with_len 0 n))
    ∙ map_same (λ (p : ℕ). fresh_column) (λ (p : ℕ). column_of (cells_at [] p)) (λ p. refl) (range_with_len 0 n)

-- the kinds of the columns of all rows that are judged
pub kinds_judged : (types : Option ℕ) (n : ℕ) (rows : List Placed) → map kind_by (judging_all (fresh types n) rows).columns ≡ kinds_of (judged types rows) n
kinds_judged types n rows =
    let seen : List Placed = judged types rows in
    ap (λ (cs : List Column). map kind_by (judging_all (known types cs) rows).columns) (none_seen n)
    ∙ ap (map kind_by) (all_judged types [] rows n)
    ∙ map_twice (λ (p : ℕ). column_of (cells_at seen p)) kind_by (range_with_len 0 n)
    ∙ map_same (λ (p : ℕ). kind_by (column_of (cells_at seen p))) (λ (p : ℕ). kind_of_column (cells_at seen p)) (λ p. kind_found (cells_at seen p)) (range_with_len 0 n)

-- ---- each cell is of its column's kind, where all rows are judged
either_has : (p q : ColumnKind → Bool) (k : ColumnKind) (o : Option ColumnKind) (b : Bool) → p k ≡ b → (p k ≡ true → q k ≡ true) → q (unwrap_or o kind.Text) ≡ true
    → q (unwrap_or (cond b (Some k) o) kind.Text) ≡ true
either_has p q k o true is has more = has is
either_has p q k o false is has more = more

found_has : (p q : ColumnKind → Bool) (ks : List ColumnKind) → ((k : ColumnKind) → p k ≡ true → q k ≡ true) → q kind.Text ≡ true
    → q (unwrap_or (find p ks) kind.Text) ≡ true
found_has p q [] has text = text
found_has p q (k ∷ ks) has text = either_has p q k (find p ks) (p k) refl (has k) (found_has p q ks has text)

-- a text is a value of any cell
text_told : (cell : List ℕ) → is_some (cell_value kind.Text cell) ≡ true
text_told cell = go (is_empty cell)
  where
    go : (b : Bool) → is_some (if b then Some value.Missing else written_value kind.Text cell) ≡ true
    go true = refl
    go false = refl

cell_told : (front rest : List (List ℕ)) (cell : List ℕ) → is_some (cell_value (kind_of_column (front ++ cell ∷ rest)) cell) ≡ true
cell_told front rest cell = go (list_all is_empty cells)
  where
    cells : List (List ℕ)
    cells = front ++ cell ∷ rest

    writes : (k : ColumnKind) → all_write k cells ≡ true → is_some (cell_value k cell) ≡ true
    writes k all =
        let p : List ℕ → Bool = λ c. is_some (cell_value k c) in
        (and_parts (p cell) (list_all p rest) (and_parts (list_all p front) (list_all p (cell ∷ rest)) (sym (list_all-append p front (cell ∷ rest)) ∙ all)).1).0

    go : (b : Bool) → is_some (cell_value (if b then kind.Text else first_kind CANDIDATES cells) cell) ≡ true
    go true = text_told cell
    go false = found_has (λ k. all_write k cells) (λ k. is_some (cell_value k cell)) CANDIDATES writes (text_told cell)

abbrev tells : ColumnKind × List ℕ → Bool
tells e = is_some (cell_value e.0 e.1)

-- each kind is told by the cell at its place
all_told : (f : ℕ → ColumnKind) (a n : ℕ) (cells : List (List ℕ)) → ((i : ℕ) → tells (f (a + i), unwrap_or (slice_get cells i) []) ≡ true)
    → list_all tells (zip (map f (range_with_len a n)) cells) ≡ true
all_told f a zero cells h = refl
all_told f a (suc n) [] h = refl
all_told f a (suc n) (c ∷ cs) h =
    let here : a + 0 ≡ a = omega arith in
    let first : tells (f a, c) ≡ true = ap (λ (p : ℕ). tells (f p, c)) (sym here) ∙ h 0 in
    let rest : list_all tells (zip (map f (range_with_len (a + 1) n)) cs) ≡ true =
    all_told f (a + 1) n cs (λ i. let there : a + 1 + i ≡ a + suc i = omega arith in ap (λ (p : ℕ). tells (f p, unwrap_or (slice_get cs i) [])) there ∙ h (suc i)) in
    ap (λ (b : Bool). b && list_all tells (zip (map f (range_with_len (a + 1) n)) cs)) first ∙ rest

row_told : (front rest : List Placed) (row : Placed) (n : ℕ) → is_told (kinds_of (front ++ row ∷ rest) n) row ≡ true
row_told front rest row n =
    let all : List Placed = front ++ row ∷ rest in
    all_told (λ (p : ℕ). kind_of_column (cells_at all p)) 0 n row.cells
    (λ i.
    let at : 0 + i ≡ i = omega arith in
    ap (λ (p : ℕ). tells (kind_of_column (cells_at all p), cell_at i row)) at
    ∙ ap (λ (cells : List (List ℕ)). tells (kind_of_column cells, cell_at i row)) (map-append (cell_at i) front (row ∷ rest))
    ∙ cell_told (map (cell_at i) front) (map (cell_at i) rest) (cell_at i row))

told_behind : (front rows : List Placed) (n : ℕ) → untold_row (kinds_of (front ++ rows) n) rows ≡ None
told_behind front [] n = refl
told_behind front (row ∷ rest) n =
    let kinds : List ColumnKind = kinds_of (front ++ row ∷ rest) n in
    ap (λ (b : Bool). cond (not b) (Some row) (untold_row kinds rest)) (row_told front rest row n)
    ∙ ap (λ (all : List Placed). untold_row (kinds_of all n) rest) (sym (append_assoc front (row ∷ []) rest))
    ∙ told_behind (front ++ row ∷ []) rest n

pub told : (rows : List Placed) (n : ℕ) → untold_row (kinds_of rows n) rows ≡ None
told rows n = told_behind [] rows n

-- ---- the kinds that are found in the files
pub kinds_taken : (c : Command) (names files : List (List ℕ)) (first next : Judged) (kinds : List ColumnKind) → first ≡ fresh c.types (length names)
    → judging_rows first (rows_of_all c names 0 files) ≡ Ok next → kinds ≡ map kind_by next.columns → kinds_in c names files ≡ Ok kinds
kinds_taken c names files first next kinds begun taken are = go (rows_of_all c names 0 files) taken
  where
    go : (r : Result (List Placed) Refusal) → judging_rows first r ≡ Ok next → (r >>= λ rows. Ok (kinds_of (judged c.types rows) (length names))) ≡ Ok kinds
    go (Ok rows) e =
        let same : judging_all first rows ≡ next = cc e in
        ap (λ (ks : List ColumnKind). Ok ks)
        (sym (kinds_judged c.types (length names) rows) ∙ ap (λ (j : Judged). map kind_by (judging_all j rows).columns) (sym begun) ∙ ap (λ (j : Judged). map kind_by j.columns) same ∙ sym are)
    go (Err refusal) e = absurd (cc e)
