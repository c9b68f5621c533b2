-- Rows whose texts are put together alike.
use Rattle.std.specs.Prelude.{◌≡◌, ◌≤◌, ◌-◌, ◌&&◌, ◌||◌, ◌==◌, ℕ, Bool, true, false, not, List, [], ◌∷◌, codes, length, map, refl}
use Rattle.std.specs.List.{list_all, range_with_len}
use Rattle.std.specs.Fmt.{digits}
use Rattle.std.specs.Str.{bytes_eq}
use Rattle.std.proofs.Common.{◌∙◌, ap, sym, arith, get_or}
use Rattle.std.proofs.lemmas.Bool.{eq-eqb, eqb-true}
use Rattle.std.proofs.lemmas.List.Folds.{list_all-map, list_all_at}
use Rattle.std.proofs.lemmas.List.FromFn.{get_or-map-range_with_len}
use Rattle.dk_base.specs.declared.kinds.Kind.{Kind}
use Rattle.dk_base.specs.declared.kinds.Kind.TheVariants as kind
use Rattle.dk_forms.specs.declared.states.State.TheVariants as state
use Rattle.dk_template.specs.Templates.{role_kinds, rows}
use Rattle.dk_template.specs.declared.grammar.RowId.{RowId}
use Rattle.dk_print.specs.Laws.{RowsAlikeTakeOtherKinds}
use Rattle.dk_print.specs.Parts.{Part, text_by}
use Rattle.dk_print.specs.Texts.{parts_of_row, row_texts}

abbrev pub row : ℕ → RowId
row n = record { 0 = n }

unfoldable pub numbers : List ℕ
numbers = map (λ n. n) (range_with_len 1 68)

unfoldable pub kind_number : Kind → ℕ
kind_number kind.Bool = 0
kind_number kind.Int = 1
kind_number kind.Hash = 2
kind_number kind.Str = 3
kind_number kind.BoolSeq = 4
kind_number kind.IntSeq = 5
kind_number kind.HashSeq = 6
kind_number kind.StrSeq = 7

-- what the parts say of x, y and z where nothing is known
shown : List Part → List ℕ
shown parts = text_by parts (codes "x" ∷ codes "y" ∷ codes "z" ∷ []) state.Empty

-- a row's number, what its parts say, and its kinds
abbrev Entry : Type 0
Entry = ℕ × List ℕ × List ℕ

entry : ℕ → Entry
entry n = (n, shown (parts_of_row (row n)), map kind_number (role_kinds (row n)))

-- two rows are one, or differ in what their parts say or in their kinds
differ : Entry → Entry → Bool
differ e f = e.0 == f.0 || not (bytes_eq e.1 f.1 && bytes_eq e.2 f.2)

all_pairs : List Entry → Bool
all_pairs es = list_all (λ e. list_all (differ e) es) es

all_differ : all_pairs (map entry numbers) ≡ true
unfolding all_pairs differ entry numbers shown kind_number row_texts rows digits
all_differ = refl

-- ---- from the whole table to two rows
pub length-numbers : length numbers ≡ 68
unfolding numbers
length-numbers = refl

pub number_at : (n : ℕ) → 1 ≤ n → n ≤ 68 → get_or numbers (n - 1) 0 ≡ n
unfolding numbers
number_at n low high = get_or-map-range_with_len (λ k. k) 1 68 (n - 1) n 0 (omega arith) (omega arith)

pub passes : (p : ℕ → Bool) → list_all p numbers ≡ true → (n : ℕ) → 1 ≤ n → n ≤ 68 → p n ≡ true
passes p all n low high = by (p n) refl
  where
    by : (b : Bool) → p n ≡ b → p n ≡ true
    by true e = e
    by false e =
        let long = length-numbers in
        let fails : list_all p numbers ≡ false = list_all_at p numbers (n - 1) 0 (omega arith) (ap p (number_at n low high) ∙ e) in
        cc

same_bytes : (xs : List ℕ) → bytes_eq xs xs ≡ true
same_bytes [] = refl
same_bytes (x ∷ xs) = ap (λ b. b && bytes_eq xs xs) (same_number x) ∙ same_bytes xs
  where
    same_number : (n : ℕ) → (n == n) ≡ true
    same_number n = eq-eqb n n refl

or_false : (b : Bool) → (b || false) ≡ true → b ≡ true
or_false true e = refl
or_false false e = e

one_number : (a b : ℕ) (x y : Bool) → x ≡ true → y ≡ true → (a == b || not (x && y)) ≡ true → a ≡ b
one_number a b true true h k e = eqb-true a b (or_false (a == b) e)
one_number a b true false h k e = cc
one_number a b false y h k e = cc

-- two rows of the table differ
two_differ : (n m : ℕ) → 1 ≤ n → n ≤ 68 → 1 ≤ m → m ≤ 68 → differ (entry n) (entry m) ≡ true
unfolding all_pairs
two_differ n m n_low n_high m_low m_high =
    let es : List Entry = map entry numbers in
    let of_n : list_all (differ (entry n)) es ≡ true =
    passes (λ k. list_all (differ (entry k)) es) (sym (list_all-map (λ (e : Entry). list_all (differ e) es) entry numbers) ∙ all_differ) n n_low n_high in
    passes (λ k. differ (entry n) (entry k)) (sym (list_all-map (differ (entry n)) entry numbers) ∙ of_n) m m_low m_high

pub rows_alike : RowsAlikeTakeOtherKinds
unfolding differ entry
rows_alike r q is_r is_q parts kinds =
    let said : bytes_eq (shown (parts_of_row r)) (shown (parts_of_row q)) ≡ true =
    ap (λ ps. bytes_eq (shown (parts_of_row r)) (shown ps)) (sym parts) ∙ same_bytes (shown (parts_of_row r)) in
    let taken : bytes_eq (map kind_number (role_kinds r)) (map kind_number (role_kinds q)) ≡ true =
    ap (λ ks. bytes_eq (map kind_number (role_kinds r)) (map kind_number ks)) (sym kinds) ∙ same_bytes (map kind_number (role_kinds r)) in
    ap row (one_number r.0 q.0 _ _ said taken (two_differ r.0 q.0 is_r.0 is_r.1 is_q.0 is_q.1))
