-- The part of the table that is a row's.
use Rattle.std.specs.Prelude.{◌≡◌, ◌+◌, ◌-◌, ◌<◌, ◌≤◌, ◌&&◌, ℕ, Bool, true, List, [], drop, length, map, nat_le, nat_lt, refl, slice_index_or, take}
use Rattle.std.specs.List.{list_all, range_with_len}
use Rattle.std.proofs.Common.{ap, ◌∙◌, arith, sym}
use Rattle.std.proofs.lemmas.Bool.{and_parts, leb-true}
use Rattle.std.proofs.lemmas.List.{drop-map, length-map, take-map}
use Rattle.std.proofs.lemmas.List.FromFn.{get_or-map-range_with_len, length-map-range_with_len}
use Rattle.dk_suppress.proofs.Numbered.{filter_past}
use Rattle.dk_suppress.specs.Parts.{rules_of, start_of, starts}
use Rattle.dk_suppress.specs.Rules.{Rule, rules}
use Rattle.dk_suppress.specs.Told.{told}
use Rattle.dk_template.specs.declared.grammar.RowId.{RowId}
use Rattle.dk_suppress.specs.declared.rules.Rule.{Rule as CodeRule}

-- ---- the whole table, by computing it
abbrev part : List Rule → ℕ → ℕ → List Rule
part rs from to = take (to - from) (drop from rs)

parts : map (λ n. part rules (start_of n) (start_of (n + 1))) (range_with_len 0 67) ≡ map (λ n. rules_of (record { 0 = n })) (range_with_len 0 67)
unfolding rules
parts = refl

abbrev is_within : ℕ → Bool
is_within n = nat_le (start_of n) (start_of (n + 1)) && nat_le (start_of (n + 1)) (length rules)

all_within : map is_within (range_with_len 0 67) ≡ map (λ n. true) (range_with_len 0 67)
unfolding rules
all_within = refl

no_more : list_all (λ (r : Rule). nat_lt r.0.0 67) rules ≡ true
unfolding rules
no_more = refl

sixty : length rules ≡ 60
unfolding rules
sixty = refl

length-starts : length starts ≡ 68
unfolding starts
length-starts = length-map-range_with_len start_of 0 68

-- ---- one row
at_number : {X : Type 0} (f g : ℕ → X) (n : ℕ) → n < 67 → X → map f (range_with_len 0 67) ≡ map g (range_with_len 0 67) → f n ≡ g n
at_number f g n early d same =
    sym (get_or-map-range_with_len f 0 67 n n d early (omega arith)) ∙ ap (λ l. slice_index_or l n d) same ∙ get_or-map-range_with_len g 0 67 n n d early (omega arith)

start_at : (n : ℕ) → n < 68 → slice_index_or starts n 0 ≡ start_of n
unfolding starts
start_at n early = get_or-map-range_with_len start_of 0 68 n n 0 early (omega arith)

map-part : (items : List CodeRule) (from to : ℕ) → map told (take (to - from) (drop from items)) ≡ part (map told items) from to
map-part items from to = sym (ap (take (to - from)) (drop-map told from items) ∙ take-map told (to - from) (drop from items))

-- where a row's part starts and ends in the table of 60 rules
pub record Found (from to many : ℕ) : Type 0 where
  pub ordered : from ≤ to
  pub ends : to ≤ many
  pub few : many ≡ 60

module _ (numbers : List ℕ) (items : List CodeRule) (known : numbers ≡ starts) (table : map told items ≡ rules) (row : RowId) (early : row.0 + 1 < length numbers) where
  few : row.0 < 67
  few = let long = ap length known ∙ length-starts in omega (arith, long, early)

  from_is : slice_index_or numbers row.0 0 ≡ start_of row.0
  from_is = ap (λ l. slice_index_or l row.0 0) known ∙ start_at row.0 (let h = few in omega (arith, h))

  to_is : slice_index_or numbers (row.0 + 1) 0 ≡ start_of (row.0 + 1)
  to_is = ap (λ l. slice_index_or l (row.0 + 1) 0) known ∙ start_at (row.0 + 1) (let h = few in omega (arith, h))

  pub found : Found (slice_index_or numbers row.0 0) (slice_index_or numbers (row.0 + 1) 0) (length items)
  found =
      let hs = and_parts (nat_le (start_of row.0) (start_of (row.0 + 1))) (nat_le (start_of (row.0 + 1)) (length rules)) (at_number is_within (λ m. true) row.0 few true all_within) in
      let ordered = leb-true (start_of row.0) (start_of (row.0 + 1)) hs.0 in
      let ends = leb-true (start_of (row.0 + 1)) (length rules) hs.1 in
      let same : length items ≡ length rules = sym (length-map items told) ∙ ap length table in
      let from = from_is in
      let to = to_is in
      record {
        ordered = omega (arith, from, to, ordered);
        ends = omega (arith, to, ends, same);
        few = same ∙ sixty;
      }

  -- the part has the rules of the row
  pub part_told : map told (take (slice_index_or numbers (row.0 + 1) 0 - slice_index_or numbers row.0 0) (drop (slice_index_or numbers row.0 0) items)) ≡ rules_of row
  part_told =
      map-part items (slice_index_or numbers row.0 0) (slice_index_or numbers (row.0 + 1) 0)
      ∙ ap (λ rs. part rs (slice_index_or numbers row.0 0) (slice_index_or numbers (row.0 + 1) 0)) table
      ∙ ap (λ n. part rules n (slice_index_or numbers (row.0 + 1) 0)) from_is
      ∙ ap (part rules (start_of row.0)) to_is
      ∙ at_number (λ n. part rules (start_of n) (start_of (n + 1))) (λ n. rules_of (record { 0 = n })) row.0 few [] parts

-- a later row has none
pub none_later : (numbers : List ℕ) → numbers ≡ starts → (row : RowId) → length numbers ≤ row.0 + 1 → rules_of row ≡ []
none_later numbers known row late =
    let long = ap length known ∙ length-starts in
    filter_past (λ (r : Rule). r.0.0) 67 row.0 (omega (arith, long, late)) rules no_more
