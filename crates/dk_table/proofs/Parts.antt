-- Parts of a file, one behind another.
use Rattle.std.proofs.Common.{◌≡◌, ◌+◌, ◌∙◌, ◌==◌, ◌∷◌, ◌++◌, [], ℕ, zero, suc, Bool, true, false, List, append_assoc, arith, length, refl, sym, ap, if◌then◌else◌}
use Rattle.std.proofs.Math.Nat.{add-mod_right}
use Rattle.std.specs.Prelude.{◌%◌, count_by, not}
use Rattle.csv.specs.Machine.{next_record}
use Rattle.csv.specs.Reading.{records}
use Rattle.csv.specs.declared.parser.Config.{Config}
use Rattle.csv.specs.declared.parser.State.TheVariants as st
use Rattle.dk_table.specs.Tables.Chunks.{EndsRow}
use Rattle.dk_table.specs.Tables.PlacedRows.{Placed}
use Rattle.dk_table.specs.Tables.{are_paired, placed_from}
use Rattle.dk_table.proofs.AllRecords.{records_end}
use Rattle.dk_table.proofs.Chunked.{quotes_append}

-- ---- whole rows
pub no_records : (c : Config) → records c [] ≡ []
unfolding next_record
no_records c = records_end c 1 st.StartRecord [] refl

-- no bytes are whole rows
pub none_ends : (c : Config) → EndsRow c []
none_ends c rest = ap (λ (l : List (List (List ℕ))). l ++ records c rest) (sym (no_records c))

-- and so are whole rows behind others
pub both_end : (c : Config) (a b : List ℕ) → EndsRow c a → EndsRow c b → EndsRow c (a ++ b)
both_end c a b ends last rest =
    ap (records c) (append_assoc a b rest) ∙ ends (b ++ rest) ∙ ap (λ (l : List (List (List ℕ))). records c a ++ l) (last rest)
    ∙ sym (append_assoc (records c a) (records c b) (records c rest)) ∙ ap (λ (l : List (List (List ℕ))). l ++ records c rest) (sym (ends b))

-- ---- their places
pub placed_append : (file n : ℕ) (front rest : List (List (List ℕ))) → placed_from file n (front ++ rest) ≡ placed_from file n front ++ placed_from file (n + length front) rest
placed_append file n [] rest = let same : n ≡ n + 0 = omega arith in ap (λ (k : ℕ). placed_from file k rest) same
placed_append file n (r ∷ front) rest =
    let row : Placed = record { file = file; number = n; cells = r } in
    let same : n + 1 + length front ≡ n + length (r ∷ front) = omega arith in
    ap (λ (l : List Placed). row ∷ l)
    (placed_append file (n + 1) front rest ∙ ap (λ (k : ℕ). placed_from file (n + 1) front ++ placed_from file k rest) same)

-- the rows of whole rows, and of what follows
pub rows_append : (c : Config) (file n : ℕ) (front rest : List ℕ) → EndsRow c front
    → placed_from file n (records c (front ++ rest)) ≡ placed_from file n (records c front) ++ placed_from file (n + length (records c front)) (records c rest)
rows_append c file n front rest ends = ap (placed_from file n) (ends rest) ∙ placed_append file n (records c front) (records c rest)

-- ---- their quotes
abbrev is_even : ℕ → Bool
is_even n = n % 2 == 0

not_not : (b : Bool) → not (not b) ≡ b
not_not true = refl
not_not false = refl

next_even : (n : ℕ) → is_even (suc n) ≡ not (is_even n)
next_even zero = refl
next_even (suc n) =
    let two : suc (suc n) ≡ n + 2 = omega arith in
    ap is_even two ∙ ap (λ (m : ℕ). m == 0) (add-mod_right n 2) ∙ sym (not_not (is_even n)) ∙ ap not (sym (next_even n))

sum_even : (a b : ℕ) → is_even (a + b) ≡ (if is_even b then is_even a else not (is_even a))
sum_even a zero = let same : a + 0 ≡ a = omega arith in ap is_even same
sum_even a (suc b) =
    let next : a + suc b ≡ suc (a + b) = omega arith in
    ap is_even next ∙ next_even (a + b) ∙ ap not (sum_even a b) ∙ turned (is_even b)
    ∙ ap (λ (t : Bool). if t then is_even a else not (is_even a)) (sym (next_even b))
  where
    turned : (t : Bool) → not (if t then is_even a else not (is_even a)) ≡ (if not t then is_even a else not (is_even a))
    turned true = refl
    turned false = not_not (is_even a)

pub paired_append : (front rest : List ℕ) → are_paired (front ++ rest) ≡ (if are_paired rest then are_paired front else not (are_paired front))
paired_append front rest = ap is_even (quotes_append front rest) ∙ sum_even (count_by (λ b. b == 34) front) (count_by (λ b. b == 34) rest)
