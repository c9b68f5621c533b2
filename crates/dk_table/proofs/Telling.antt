-- What cells write, lines tell.
use Rattle.std.proofs.Common.{◌≡◌, ◌<◌, ◌+◌, ◌-◌, ◌^◌, ◌∙◌, ◌==◌, ◌&&◌, ◌||◌, ◌∷◌, ◌++◌, [], ℕ, ℤ, Bool, true, false, List, All, IsTrue, Option, Some, None, codes, drop, eq-eqb, flat_map, length, map, replicate, is_some, option_map, option_and_then, refl, sym, take, ap, append_assoc, length-append, if◌then◌else◌, arith}
use Rattle.std.specs.Prelude.{⊤, IfSome, find, not, slice_index, unwrap_or}
use Rattle.std.specs.Fmt.{signed_decimal}
use Rattle.std.specs.List.{list_all, zip}
use Rattle.std.specs.Str.{bytes_eq}
use Rattle.std.proofs.Math.Seq.{get_or-append_seam}
use Rattle.std.proofs.lemmas.Bool.{and_parts, false≢true, not-false}
use Rattle.std.proofs.lemmas.List.{length-map}
use Rattle.std.proofs.lemmas.List.Elements.{All-cons, All-nil}
use Rattle.std.proofs.lemmas.List.Folds.{list_all-append}
use Rattle.dk_base.specs.Values.Items.{closes_quote, is_quoted, is_text}
use Rattle.dk_base.specs.Names.{escaped}
use Rattle.dk_base.specs.Numbers.{fits_i64, integer_of, whole_of}
use Rattle.dk_base.specs.declared.kinds.Kind.{Kind}
use Rattle.dk_base.specs.declared.kinds.Kind.TheVariants as own
use Rattle.dk_base.specs.declared.values.Value.{Value}
use Rattle.dk_base.specs.declared.values.Value.TheVariants as value
use Rattle.dk_decl.specs.declared.decls.EdgeDecl.{EdgeDecl}
use Rattle.dk_decl.specs.declared.decls.PointDecl.{PointDecl}
use Rattle.dk_decl.specs.declared.decls.VarDecl.{VarDecl}
use Rattle.dk_write.specs.Course.{AreWritten}
use Rattle.dk_write.specs.Names.{has_none, is_line, last_byte}
use Rattle.dk_write.specs.Writable.{IsValueWithin, IsVarWithin, IsWithin, begins_record, can_record, is_nonce_name, is_told_value, is_value_of}
use Rattle.dk_write.proofs.Lines.{line_of_parts, number_line}
use Rattle.dk_write.proofs.Loops.{zip_length}
use Rattle.dk_write.proofs.Words.{signed_bytes, signed_some}
use Rattle.dk_table.specs.Columns.Cells.{decimal_of, dot_of, quoted, quoted_byte, truth, whole}
use Rattle.dk_table.specs.Columns.{cell_value}
use Rattle.dk_table.specs.Tables.PlacedRows.{Placed}
use Rattle.dk_table.specs.Traces.{declaration_of, empty_record, is_told, own_kind, record_of, records_of, untold_row, value_at, var_of}
use Rattle.dk_table.specs.declared.columns.ColumnKind.{ColumnKind}
use Rattle.dk_table.specs.declared.columns.ColumnKind.TheVariants as kind

-- ---- numbers

-- what a number that is read is within
number_fits : (text : List ℕ) (z : ℤ) → integer_of text ≡ Some z → IsTrue (fits_i64 z)
unfolding integer_of
number_fits text z h = go (whole_of text) h
  where
    pick : (b : Bool) (y : ℤ) → fits_i64 y ≡ b → (if b then Some y else None) ≡ Some z → IsTrue (fits_i64 z)
    pick true y is e = let same : y ≡ z = cc e in ap fits_i64 (sym same) ∙ is
    pick false y is e = absurd (cc e)

    go : (o : Option ℤ) → option_and_then (λ y. if fits_i64 y then Some y else None) o ≡ Some z → IsTrue (fits_i64 z)
    go None e = absurd (cc e)
    go (Some y) e = pick (fits_i64 y) y refl e

whole_fits : (cell : List ℕ) (z : ℤ) → whole cell ≡ Some z → IsTrue (fits_i64 z)
unfolding whole
whole_fits cell z h = go (integer_of cell) refl h
  where
    pick : (b : Bool) (y : ℤ) → integer_of cell ≡ Some y → (if b then Some y else None) ≡ Some z → IsTrue (fits_i64 z)
    pick true y is e = let same : y ≡ z = cc e in ap fits_i64 (sym same) ∙ number_fits cell y is
    pick false y is e = absurd (cc e)

    go : (o : Option ℤ) → integer_of cell ≡ o → option_and_then (λ y. if bytes_eq (signed_decimal y) cell then Some y else None) o ≡ Some z → IsTrue (fits_i64 z)
    go None is e = absurd (cc e)
    go (Some y) is e = pick (bytes_eq (signed_decimal y) cell) y is e

decimal_fits : (places : ℕ) (cell : List ℕ) (z : ℤ) → decimal_of places cell ≡ Some z → IsTrue (fits_i64 z)
unfolding decimal_of
decimal_fits places cell z h = go (dot_of places cell) h
  where
    go : (o : Option ℕ) → option_and_then (λ dot. integer_of (take dot cell ++ drop (dot + 1) cell)) o ≡ Some z → IsTrue (fits_i64 z)
    go None e = absurd (cc e)
    go (Some dot) e = number_fits (take dot cell ++ drop (dot + 1) cell) z e

number_told : (z : ℤ) → IsTrue (fits_i64 z) → is_value_of (Some own.Int) (value.Int z) ≡ true
number_told z fits = number_line (signed_decimal z) (signed_bytes z fits) (signed_some z fits)

-- ---- texts

-- what stands for a byte between quotes closes none
byte_closed : (b : ℕ) (rest : List ℕ) → closes_quote false (quoted_byte b ++ rest) ≡ closes_quote false rest
byte_closed b rest = by (b == 34) (b == 92) (b == 10) (b == 13) (b == 9) refl refl refl
  where
    by : (quote back lf cr tab : Bool) → (b == 34) ≡ quote → (b == 92) ≡ back → (b == 10) ≡ lf
        → closes_quote false ((if quote then 92 ∷ 34 ∷ [] else if back then 92 ∷ 92 ∷ [] else if lf then 92 ∷ 110 ∷ [] else if cr then 92 ∷ 114 ∷ [] else if tab then 92 ∷ 116 ∷ [] else b ∷ []) ++ rest)
        ≡ closes_quote false rest
    by true back lf cr tab e f g = refl
    by false true lf cr tab e f g = refl
    by false false true cr tab e f g = refl
    by false false false true tab e f g = refl
    by false false false false true e f g = refl
    by false false false false false e f g = rw (g, e, f) refl

closed : (cell : List ℕ) → closes_quote false (flat_map quoted_byte cell ++ 34 ∷ []) ≡ true
closed [] = refl
closed (b ∷ cell) =
    ap (closes_quote false) (append_assoc (quoted_byte b) (flat_map quoted_byte cell) (34 ∷ []))
    ∙ byte_closed b (flat_map quoted_byte cell ++ 34 ∷ []) ∙ closed cell

quoted_text : (cell : List ℕ) → is_text (quoted cell) ≡ true
unfolding is_text is_quoted quoted
quoted_text cell = go (bytes_eq (34 ∷ (flat_map quoted_byte cell ++ 34 ∷ [])) (codes "null")) (closed cell)
  where
    go : (b : Bool) → closes_quote false (flat_map quoted_byte cell ++ 34 ∷ []) ≡ true → (b || closes_quote false (flat_map quoted_byte cell ++ 34 ∷ [])) ≡ true
    go true h = refl
    go false h = h

byte_no_lf : (b : ℕ) → has_none 10 (quoted_byte b) ≡ true
byte_no_lf b = by (b == 34) (b == 92) (b == 10) (b == 13) (b == 9) refl
  where
    by : (quote back lf cr tab : Bool) → (b == 10) ≡ lf
        → has_none 10 (if quote then 92 ∷ 34 ∷ [] else if back then 92 ∷ 92 ∷ [] else if lf then 92 ∷ 110 ∷ [] else if cr then 92 ∷ 114 ∷ [] else if tab then 92 ∷ 116 ∷ [] else b ∷ []) ≡ true
    by true back lf cr tab e = refl
    by false true lf cr tab e = refl
    by false false true cr tab e = refl
    by false false false true tab e = refl
    by false false false false true e = refl
    by false false false false false e = rw e refl

bytes_no_lf : (cell : List ℕ) → has_none 10 (flat_map quoted_byte cell) ≡ true
bytes_no_lf [] = refl
bytes_no_lf (b ∷ cell) =
    list_all-append (λ c. not (c == 10)) (quoted_byte b) (flat_map quoted_byte cell) ∙ rw (byte_no_lf b, bytes_no_lf cell) refl

quoted_no_lf : (cell : List ℕ) → has_none 10 (quoted cell) ≡ true
unfolding quoted
quoted_no_lf cell = list_all-append (λ c. not (c == 10)) (flat_map quoted_byte cell) (34 ∷ []) ∙ rw (bytes_no_lf cell) refl

quoted_last : (cell : List ℕ) → last_byte (quoted cell) ≡ 34
unfolding quoted
quoted_last cell =
    let inner : List ℕ = 34 ∷ flat_map quoted_byte cell in
    let at : length (inner ++ 34 ∷ []) - 1 ≡ length inner = omega (arith, length-append inner (34 ∷ [])) in
    ap (λ (n : ℕ). slice_index (inner ++ 34 ∷ []) n) at ∙ get_or-append_seam inner 34 [] 0

quoted_line : (cell : List ℕ) → is_line (quoted cell) ≡ true
unfolding quoted
quoted_line cell = line_of_parts (quoted cell) (record {
  some = refl;
  no_lf = quoted_no_lf cell;
  first = refl;
  last = rw (quoted_last cell) refl;
  no_cr = rw (quoted_last cell) refl;
})

-- ---- values

missing_line : is_line (codes "nonsensical") ≡ true
unfolding is_line
missing_line = refl

bool_line : (b : Bool) → is_line (if b then codes "true" else codes "false") ≡ true
unfolding is_line
bool_line true = refl
bool_line false = refl

missing_told : (k : Kind) → is_value_of (Some k) value.Missing ≡ true
missing_told k = missing_line

-- the value that a cell writes is one that its column's variable can have
value_told : (k : ColumnKind) (cell : List ℕ) → is_some (cell_value k cell) ≡ true → is_value_of (Some (own_kind k)) (value_at (k, cell)) ≡ true
value_told k [] h = missing_told (own_kind k)
value_told kind.Whole (b ∷ bs) h = go (whole (b ∷ bs)) refl h
  where
    go : (o : Option ℤ) → whole (b ∷ bs) ≡ o → is_some (option_map (λ z. value.Int z) o) ≡ true → is_value_of (Some own.Int) (unwrap_or (option_map (λ z. value.Int z) o) value.Missing) ≡ true
    go None is h = absurd (false≢true h)
    go (Some z) is h = number_told z (whole_fits (b ∷ bs) z is)
value_told (kind.Truth words) (b ∷ bs) h = go (truth words (b ∷ bs)) h
  where
    go : (o : Option Bool) → is_some (option_map (λ t. value.Bool t) o) ≡ true → is_value_of (Some own.Bool) (unwrap_or (option_map (λ t. value.Bool t) o) value.Missing) ≡ true
    go None h = absurd (false≢true h)
    go (Some t) h = bool_line t
value_told (kind.Decimal places) (b ∷ bs) h = go (decimal_of places (b ∷ bs)) refl h
  where
    go : (o : Option ℤ) → decimal_of places (b ∷ bs) ≡ o → is_some (option_map (λ z. value.Int z) o) ≡ true → is_value_of (Some own.Int) (unwrap_or (option_map (λ z. value.Int z) o) value.Missing) ≡ true
    go None is h = absurd (false≢true h)
    go (Some z) is h = number_told z (decimal_fits places (b ∷ bs) z is)
value_told kind.Text (b ∷ bs) h = rw (quoted_text (b ∷ bs)) (quoted_line (b ∷ bs))

-- the numbers of such a value have 64 bits
value_within : (k : ColumnKind) (cell : List ℕ) → IsValueWithin (value_at (k, cell))
value_within k [] = tt
value_within kind.Whole (b ∷ bs) = go (whole (b ∷ bs)) refl
  where
    go : (o : Option ℤ) → whole (b ∷ bs) ≡ o → IsValueWithin (unwrap_or (option_map (λ z. value.Int z) o) value.Missing)
    go None is = tt
    go (Some z) is = whole_fits (b ∷ bs) z is
value_within (kind.Truth words) (b ∷ bs) = go (truth words (b ∷ bs))
  where
    go : (o : Option Bool) → IsValueWithin (unwrap_or (option_map (λ t. value.Bool t) o) value.Missing)
    go None = tt
    go (Some t) = tt
value_within (kind.Decimal places) (b ∷ bs) = go (decimal_of places (b ∷ bs)) refl
  where
    go : (o : Option ℤ) → decimal_of places (b ∷ bs) ≡ o → IsValueWithin (unwrap_or (option_map (λ z. value.Int z) o) value.Missing)
    go None is = tt
    go (Some z) is = decimal_fits places (b ∷ bs) z is
value_within kind.Text (b ∷ bs) = tt

-- ---- a row

-- the values of a row are those of its variables
values_told : (names : List (List ℕ)) (kinds : List ColumnKind) (cells : List (List ℕ))
    → list_all is_told_value (zip (map var_of (zip names kinds)) (replicate (length (map var_of (zip names kinds))) value.Missing)) ≡ true
    → list_all (λ e. is_some (cell_value e.0 e.1)) (zip kinds cells) ≡ true
    → list_all is_told_value (zip (map var_of (zip names kinds)) (map value_at (zip kinds cells))) ≡ true
values_told [] kinds cells named told = refl
values_told (n ∷ names) [] cells named told = refl
values_told (n ∷ names) (k ∷ kinds) [] named told = refl
values_told (n ∷ names) (k ∷ kinds) (c ∷ cells) named told =
    let v : VarDecl = var_of (n, k) in
    let vars : List VarDecl = map var_of (zip names kinds) in
    let here = and_parts (is_told_value (v, value.Missing)) (list_all is_told_value (zip vars (replicate (length vars) value.Missing))) named in
    let name = and_parts (not (is_nonce_name v)) (is_value_of (Some (own_kind k)) value.Missing) here.0 in
    let own = and_parts (is_some (cell_value k c)) (list_all (λ e. is_some (cell_value e.0 e.1)) (zip kinds cells)) told in
    rw (name.0, value_told k c own.0) (values_told names kinds cells here.1 own.1)

values_within : (kinds : List ColumnKind) (cells : List (List ℕ)) → All IsValueWithin (map value_at (zip kinds cells))
values_within [] cells = All-nil IsValueWithin
values_within (k ∷ kinds) [] = All-nil IsValueWithin
values_within (k ∷ kinds) (c ∷ cells) =
    All-cons IsValueWithin (value_at (k, c)) (map value_at (zip kinds cells)) (value_within k c) (values_within kinds cells)

-- a value for each variable
vars_length : (names : List (List ℕ)) (kinds : List ColumnKind) → length kinds ≡ length names → length (map var_of (zip names kinds)) ≡ length names
vars_length names kinds same = length-map (zip names kinds) var_of ∙ zip_length names kinds ∙ omega (arith, same)

values_length : (kinds : List ColumnKind) (cells : List (List ℕ)) → length cells ≡ length kinds → length (map value_at (zip kinds cells)) ≡ length kinds
values_length kinds cells same = length-map (zip kinds cells) value_at ∙ zip_length kinds cells ∙ omega (arith, same)

-- ---- the declaration

vars_within : (names : List (List ℕ)) (kinds : List ColumnKind) → All IsVarWithin (map var_of (zip names kinds))
vars_within [] kinds = All-nil IsVarWithin
vars_within (n ∷ names) [] = All-nil IsVarWithin
vars_within (n ∷ names) (k ∷ kinds) =
    All-cons IsVarWithin (var_of (n, k)) (map var_of (zip names kinds)) (record { elem = refl; index = refl }) (vars_within names kinds)

-- no variable has a constant
no_constants : (names : List (List ℕ)) (kinds : List ColumnKind) → All (λ v. IfSome v.constant IsValueWithin) (map var_of (zip names kinds))
no_constants [] kinds = All-nil (λ (v : VarDecl). IfSome v.constant IsValueWithin)
no_constants (n ∷ names) [] = All-nil (λ (v : VarDecl). IfSome v.constant IsValueWithin)
no_constants (n ∷ names) (k ∷ kinds) =
    All-cons (λ (v : VarDecl). IfSome v.constant IsValueWithin) (var_of (n, k)) (map var_of (zip names kinds)) tt (no_constants names kinds)

pub declaration_within : (point : List ℕ) (names : List (List ℕ)) (kinds : List ColumnKind) → IsWithin (declaration_of point names kinds)
declaration_within point names kinds =
    record { edges = All-nil (λ (e : EdgeDecl). e.id < 2 ^ 32); vars = vars_within names kinds; constants = no_constants names kinds }

-- ---- the records

-- each row has so many cells
abbrev pub AreEven : ℕ → List Placed → Type 0
AreEven columns [] = ⊤
AreEven columns (row ∷ rows) = (length row.cells ≡ columns) × AreEven columns rows

-- what is found of a list where nothing is
pub none_found : {X : Type 0} (test : X → Bool) (x : X) (xs : List X) → find test (x ∷ xs) ≡ None → (test x ≡ false) × (find test xs ≡ None)
none_found {X} test x xs e = go (test x) refl e
  where
    go : (b : Bool) → test x ≡ b → (if b then Some x else find test xs) ≡ None → (test x ≡ false) × (find test xs ≡ None)
    go true is e = absurd (cc e)
    go false is e = (is, e)

row_told : (point : List ℕ) (names : List (List ℕ)) (kinds : List ColumnKind) (row : Placed) → length kinds ≡ length names → length row.cells ≡ length names
    → can_record (empty_record (declaration_of point names kinds)) ≡ true → is_told kinds row ≡ true
    → can_record (record_of (declaration_of point names kinds) kinds row) ≡ true
unfolding can_record
row_told point names kinds row same even named told =
    let vars : List VarDecl = map var_of (zip names kinds) in
    let none : List Value = replicate (length vars) value.Missing in
    let begins = and_parts (begins_record (escaped point)) ((length vars == length none) && list_all is_told_value (zip vars none)) named in
    let empty = and_parts (length vars == length none) (list_all is_told_value (zip vars none)) begins.1 in
    let values : List Value = map value_at (zip kinds row.cells) in
    let as_many : length vars ≡ length values = vars_length names kinds same ∙ sym same ∙ sym (values_length kinds row.cells (even ∙ sym same)) in
    rw (begins.0, eq-eqb (length vars) (length values) as_many) (values_told names kinds row.cells empty.1 told)

pub rows_written : (point : List ℕ) (names : List (List ℕ)) (kinds : List ColumnKind) (rows : List Placed) → length kinds ≡ length names
    → can_record (empty_record (declaration_of point names kinds)) ≡ true → AreEven (length names) rows → untold_row kinds rows ≡ None
    → AreWritten (declaration_of point names kinds ∷ []) (records_of (declaration_of point names kinds) kinds rows)
rows_written point names kinds [] same named even told = tt
rows_written point names kinds (row ∷ rows) same named even told =
    let d : PointDecl = declaration_of point names kinds in
    let found = none_found (λ (r : Placed). not (is_told kinds r)) row rows told in (
      (0, omega arith, refl),
      row_told point names kinds row same even.0 named (not-false (is_told kinds row) found.0),
      record { decl = declaration_within point names kinds; nonce = tt; values = values_within kinds row.cells },
      rows_written point names kinds rows same named even.1 found.1,
    )
