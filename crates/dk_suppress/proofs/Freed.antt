-- What a row frees, by its number.
use Rattle.std.specs.Prelude.{◌≡◌, ◌<◌, ◌≤◌, ◌||◌, ◌==◌, ℕ, Bool, true, false, List, [], ◌∷◌, filter, length, map, nat_le, slice_index_or, refl}
use Rattle.std.specs.List.{dedup, list_all, list_any}
use Rattle.std.proofs.Common.{arith, ap, sym, subst, cond, ◌∙◌, Bor}
use Rattle.std.proofs.lemmas.Bool.{and_parts, leb-true}
use Rattle.std.proofs.lemmas.List.{get_or-map, length-map}
use Rattle.std.proofs.lemmas.List.FromFn.{get_or-map-range_with_len}
use Rattle.dk_suppress.specs.Rules.{Rule, asks, freed, freed_by_number, rules}
use Rattle.dk_template.specs.Premises.{row_of}
use Rattle.dk_template.specs.declared.answers.Premise.{Premise}
use Rattle.dk_template.specs.declared.grammar.RowId.{RowId}

-- ---- a row past the last premise frees none
abbrev is_early : Premise → Bool
is_early p = nat_le (row_of p).0 66

all_early : list_all (λ (r : Rule). list_all is_early r.1) rules ≡ true
unfolding rules
all_early = refl

differs : (a b : ℕ) → a < b → (a == b) ≡ false
differs a b less = grind arith

asks_not : (row : RowId) → 66 < row.0 → (premises : List Premise) → list_all is_early premises ≡ true → list_any (λ p. (row_of p).0 == row.0) premises ≡ false
asks_not row late [] h = refl
asks_not row late (p ∷ ps) h =
    let hs = and_parts (is_early p) (list_all is_early ps) h in
    let early : (row_of p).0 ≤ 66 = leb-true (row_of p).0 66 hs.0 in
    ap (λ b. b || list_any (λ q. (row_of q).0 == row.0) ps) (differs (row_of p).0 row.0 (omega (arith, early, late))) ∙ asks_not row late ps hs.1

filter_none : (row : RowId) → 66 < row.0 → (rs : List Rule) → list_all (λ (r : Rule). list_all is_early r.1) rs ≡ true → filter (asks row) rs ≡ []
filter_none row late [] h = refl
filter_none row late (r ∷ rs) h =
    let hs = and_parts (list_all is_early r.1) (list_all (λ (s : Rule). list_all is_early s.1) rs) h in
    ap (λ b. cond b (r ∷ filter (asks row) rs) (filter (asks row) rs)) (asks_not row late r.1 hs.0) ∙ filter_none row late rs hs.1

pub freed_late : (row : RowId) → 66 < row.0 → freed row ≡ []
unfolding freed
freed_late row late = ap (λ rs. dedup (λ (a b : RowId). a.0 == b.0) (map (λ (r : Rule). r.0) rs)) (filter_none row late rules all_early)

-- ---- the list of what the rows free
length-by_number : length freed_by_number ≡ 67
length-by_number = refl

freed_early : (row : RowId) (d : List RowId) → row.0 < 67 → slice_index_or freed_by_number row.0 d ≡ freed row
freed_early row d early = get_or-map-range_with_len (λ n. freed (record { 0 = n })) 0 67 row.0 row.0 d early (omega arith)

module _ (items : List (Bor (List RowId))) (known : map (λ r. r.now) items ≡ freed_by_number) (row : RowId) where
  long : length items ≡ 67
  long = sym (length-map items (λ (r : Bor (List RowId)). r.now)) ∙ ap length known ∙ length-by_number

  -- what is read at the row's number
  pub freed_found : (found : Bor (List RowId)) → row.0 < length items → found ≡ slice_index_or items row.0 found → found.now ≡ freed row
  freed_found found within is =
      ap (λ (r : Bor (List RowId)). r.now) is
      ∙ sym (get_or-map (λ (r : Bor (List RowId)). r.now) items row.0 found [] within)
      ∙ ap (λ l. slice_index_or l row.0 []) known
      ∙ freed_early row [] (subst (λ n. row.0 < n) long within)

  -- past the end nothing is freed
  pub freed_past : length items ≤ row.0 → [] ≡ freed row
  freed_past past = let n : length items ≡ 67 = long in sym (freed_late row (omega (arith, n, past)))
