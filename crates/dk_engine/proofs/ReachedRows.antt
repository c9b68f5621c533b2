-- The rows that a row reaches: those that it frees, and those that these reach. Rows that rules conclude.
use Rattle.std.specs.Prelude.{◌≡◌, ◌<◌, ◌≤◌, ◌==◌, ℕ, Bool, false, true, All, Contains, List, [], length, map, nat_le, refl, slice_index_or}
use Rattle.std.specs.List.{list_all}
use Rattle.std.proofs.Common.{ap, ◌∙◌, arith, get_or, inl, inr, subst, sym, Bor}
use Rattle.std.proofs.lemmas.Bool.{cases_lt, eqb-true, false_from_ne_true, leb-true}
use Rattle.std.proofs.lemmas.List.{get_or-map, get_or_past, length-map}
use Rattle.std.proofs.lemmas.List.FromFn.{get_or-map-range_with_len, length-map-range_with_len}
use Rattle.std.proofs.lemmas.List.Elements.{All-contains, Contains-get_or}
use Rattle.std.proofs.lemmas.List.Folds.{Any-from_list_any}
use Rattle.std.proofs.lemmas.List.Sums.{AllPass-from_list_all}
use Rattle.dk_suppress.specs.Rules.{Rule, freed, has_rule, rules}
use Rattle.dk_template.specs.Premises.{row_of}
use Rattle.dk_template.specs.Templates.{IsRowOf}
use Rattle.dk_template.specs.declared.answers.Premise.{Premise}
use Rattle.dk_template.specs.declared.grammar.Grammar.{Grammar}
use Rattle.dk_template.specs.declared.grammar.Grammar.TheVariants as grammar
use Rattle.dk_template.specs.declared.grammar.RowId.{RowId}
use Rattle.dk_engine.proofs.PremiseSlots.{passes}
use Rattle.dk_engine.specs.Feeding.Step.{IsPremiseOf}
use Rattle.dk_engine.specs.Sweeps.Reached.{concluded_by_number, has_row, reached_by_number, reached_from, rows_reached}

-- ---- tests of a table
abbrev at : List (List RowId) → ℕ → List RowId
at table n = slice_index_or table n []

-- each premise's row reaches its conclusion
abbrev has_conclusions : List (List RowId) → Bool
has_conclusions table = list_all (λ (r : Rule). list_all (λ p. has_row (at table (row_of p).0) r.0) r.1) rules

-- what a row of a list reaches stands in it
abbrev is_closed : List (List RowId) → List RowId → Bool
is_closed table rows = list_all (λ (q : RowId). list_all (has_row rows) (at table q.0)) rows

abbrev are_closed : List (List RowId) → Bool
are_closed table = list_all (is_closed table) table

abbrev is_row : RowId → Bool
is_row r = nat_le 1 r.0

abbrev is_low : RowId → Bool
is_low r = nat_le r.0 66

abbrev are_rows : List (List RowId) → Bool
are_rows table = list_all (list_all is_row) table

abbrev are_low : List (List RowId) → Bool
are_low table = list_all (list_all is_low) table

-- ---- the table passes them
conclusions_there : has_conclusions reached_by_number ≡ true
unfolding reached_by_number reached_from freed rules
conclusions_there = refl

all_closed : are_closed reached_by_number ≡ true
unfolding reached_by_number reached_from freed rules
all_closed = refl

all_rows : are_rows reached_by_number ≡ true
unfolding reached_by_number reached_from freed rules
all_rows = refl

all_low : are_low reached_by_number ≡ true
unfolding reached_by_number reached_from freed rules
all_low = refl

-- ---- what is read of it
-- a test that all lists of the table pass
read_passes : (test : List RowId → Bool) → test [] ≡ true → list_all test reached_by_number ≡ true → (row : RowId) → test (rows_reached row) ≡ true
unfolding rows_reached
read_passes test empty all row = elim (cases_lt row.0 (length reached_by_number)) [
  | inl l ↦
      let there = Contains-get_or reached_by_number row.0 [] l in
      All-contains (λ rows. test rows ≡ true) reached_by_number (get_or reached_by_number row.0 []) (AllPass-from_list_all test reached_by_number all) there
  | inr past ↦ ap test (get_or_past reached_by_number row.0 [] past) ∙ empty
]

pub reached_directly : (row : RowId) (p : Premise) → IsPremiseOf row p → has_row (rows_reached (row_of p)) row ≡ true
unfolding rows_reached
reached_directly row p of = subst (λ (r : RowId). has_row (at reached_by_number (row_of p).0) r ≡ true) of.concludes (passes (λ r q. has_row (at reached_by_number (row_of q).0) r.0) conclusions_there row p of)

-- a row that is there is one of the list
listed : (rows : List RowId) (row : RowId) → has_row rows row ≡ true → Contains rows row
listed rows row h =
    let found = Any-from_list_any (λ (r : RowId). r.0 == row.0) rows h in
    let same : found.1 ≡ row = ap (λ (n : ℕ). record { 0 = n }) (eqb-true found.1.0 row.0 found.4) in
    subst (Contains rows) same (found.0, found.2, found.3)

pub reached_listed : (row other : RowId) → has_row (rows_reached row) other ≡ true → Contains (rows_reached row) other
reached_listed row other h = listed (rows_reached row) other h

closed_at : (row : RowId) → is_closed reached_by_number (rows_reached row) ≡ true
closed_at row = read_passes (is_closed reached_by_number) refl all_closed row

pub reached_further : (p q r : RowId) → has_row (rows_reached p) q ≡ true → has_row (rows_reached q) r ≡ true → has_row (rows_reached p) r ≡ true
unfolding rows_reached
reached_further p q r there further =
    let here = listed (rows_reached p) q there in
    let each = All-contains (λ (s : RowId). list_all (has_row (rows_reached p)) (at reached_by_number s.0) ≡ true) (rows_reached p) q (AllPass-from_list_all (λ (s : RowId). list_all (has_row (rows_reached p)) (at reached_by_number s.0)) (rows_reached p) (closed_at p)) here in
    let behind = listed (rows_reached q) r further in
    All-contains (λ s. has_row (rows_reached p) s ≡ true) (rows_reached q) r (AllPass-from_list_all (has_row (rows_reached p)) (rows_reached q) each) behind

-- all of them are rows of either grammar
pub reached_rows : (g : Grammar) (row : RowId) → All (IsRowOf g) (rows_reached row)
reached_rows g row k d l =
    let low = AllPass-from_list_all is_row (rows_reached row) (read_passes (list_all is_row) refl all_rows row) k d l in
    let high = AllPass-from_list_all is_low (rows_reached row) (read_passes (list_all is_low) refl all_low row) k d l in
    let r : RowId = get_or (rows_reached row) k d in
    of_either g r (leb-true 1 r.0 low) (leb-true r.0 66 high)
  where
    of_either : (h : Grammar) (r : RowId) → 1 ≤ r.0 → r.0 ≤ 66 → IsRowOf h r
    of_either grammar.One r low high = (low, high)
    of_either grammar.Two r low high = (low, omega (arith, high))

-- ---- the code's table
module _ (items : List (Bor (List RowId))) (known : map (λ r. r.now) items ≡ reached_by_number) (row : RowId) where
  pub reached_found : (found : Bor (List RowId)) → row.0 < length items → found ≡ slice_index_or items row.0 found → found.now ≡ rows_reached row
  unfolding rows_reached
  reached_found found within is =
      ap (λ (r : Bor (List RowId)). r.now) is ∙ (sym (get_or-map (λ (r : Bor (List RowId)). r.now) items row.0 found [] within) ∙ ap (λ l. slice_index_or l row.0 []) known)

  pub reached_past : length items ≤ row.0 → rows_reached row ≡ []
  unfolding rows_reached
  reached_past past = get_or_past reached_by_number row.0 [] (subst (λ n. n ≤ row.0) (sym (length-map items (λ (r : Bor (List RowId)). r.now)) ∙ ap length known) past)

-- ---- rows that rules conclude
low_conclusions : list_all (λ (r : Rule). nat_le r.0.0 66) rules ≡ true
unfolding rules
low_conclusions = refl

abbrev by_number : ℕ → Bool
by_number n = has_rule (record { 0 = n })

module _ (items : List Bool) (known : items ≡ concluded_by_number) (row : RowId) where
  all_there : length items ≡ 67
  unfolding concluded_by_number
  all_there = ap length known ∙ length-map-range_with_len by_number 0 67

  pub concluded_found : (found : Bool) → row.0 < length items → found ≡ slice_index_or items row.0 found → found ≡ has_rule row
  unfolding concluded_by_number
  concluded_found found within is =
      let long = all_there in
      is ∙ (ap (λ l. slice_index_or l row.0 found) known ∙ get_or-map-range_with_len by_number 0 67 row.0 row.0 found (omega (arith, within, long)) (omega arith))

  pub concluded_past : length items ≤ row.0 → has_rule row ≡ false
  concluded_past past = false_from_ne_true (has_rule row) (λ h.
      let long = all_there in
      let found = Any-from_list_any (λ (r : Rule). r.0.0 == row.0) rules h in
      let same = eqb-true found.1.0.0 row.0 found.4 in
      let low = leb-true found.1.0.0 66 (All-contains (λ (r : Rule). nat_le r.0.0 66 ≡ true) rules found.1 (AllPass-from_list_all (λ (r : Rule). nat_le r.0.0 66) rules low_conclusions) (found.0, found.2, found.3)) in
      absurd (omega (arith, past, long, same, low)))
