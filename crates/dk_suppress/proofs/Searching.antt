-- Looking for a rule that fits.
use Rattle.std.specs.Prelude.{◌≡◌, ◌<◌, ◌≤◌, ◌||◌, ◌==◌, ℕ, Bool, true, false, List, [], ◌∷◌, All, IsTrue, length, map, take, slice_index_or, refl}
use Rattle.std.specs.List.{list_all, list_any}
use Rattle.std.proofs.Common.{ap, sym, subst, ◌∙◌}
use Rattle.std.proofs.lemmas.Bool.{eqb-true}
use Rattle.std.proofs.lemmas.List.Elements.{All-filter, filter_passes}
use Rattle.std.proofs.lemmas.List.Folds.{list_any_at}
use Rattle.std.proofs.lemmas.List.{get_or-map, length-map, take_all}
use Rattle.dk_base.specs.declared.kinds.VarId.{VarId}
use Rattle.dk_base.specs.declared.kinds.VarInfo.{VarInfo}
use Rattle.dk_forms.specs.declared.states.State.{State}
use Rattle.dk_suppress.proofs.Numbered.{any_filter}
use Rattle.dk_suppress.proofs.Usable.{premises_usable}
use Rattle.dk_suppress.specs.Parts.{rules_of}
use Rattle.dk_suppress.specs.Rules.{Rule, has_rule, is_suppressed, rules}
use Rattle.dk_suppress.specs.Told.{told}
use Rattle.dk_suppress.specs.declared.rules.Rule.{Rule as CodeRule}
use Rattle.dk_template.specs.Admitted.{admits}
use Rattle.dk_template.specs.Premises.{IsUsable, premise_fits}
use Rattle.dk_template.specs.declared.grammar.Grammar.{Grammar}
use Rattle.dk_template.specs.declared.grammar.RowId.{RowId}

-- all premises of the rule fit
abbrev pub fits_all : (RowId → List VarId → State) → List VarId → Rule → Bool
fits_all answered vars r = list_all (λ p. premise_fits answered p vars) r.1

list_any_told : (test : Rule → Bool) (items : List CodeRule) → list_any test (map told items) ≡ list_any (λ r. test (told r)) items
list_any_told test [] = refl
list_any_told test (r ∷ rs) = ap (λ b. test (told r) || b) (list_any_told test rs)

module _ (row : RowId) where
  abbrev is_of_row : Rule → Bool
  is_of_row r = r.0.0 == row.0

  module _ (items : List CodeRule) (table : map told items ≡ rules_of row) where
    any_rule : (test : Rule → Bool) → list_any (λ r. test (told r)) items ≡ list_any test (rules_of row)
    any_rule test = sym (list_any_told test items) ∙ ap (list_any test) table

    -- the premises of a rule of the row can be asked
    pub rule_usable : (g : Grammar) (infos : List VarInfo) (vars : List VarId) → (IsTrue (has_rule row) → IsTrue (admits row infos vars))
        → (i : ℕ) → i < length items → (d : CodeRule) → All (λ p. IsUsable g infos p vars) (slice_index_or items i d).premises.now
    rule_usable g infos vars admitted i within d =
        let here : slice_index_or (rules_of row) i (told d) ≡ told (slice_index_or items i d) = ap (λ l. slice_index_or l i (told d)) (sym table) ∙ get_or-map told items i d (told d) within in
        let there : i < length (rules_of row) = subst (λ n. i < n) (sym (length-map items told) ∙ ap length table) within in
        let usable : All (λ (r : Rule). is_of_row r ≡ true → All (λ p. IsUsable g infos p vars) r.1) rules =
        λ k e l same. premises_usable g infos vars k e l
        (subst (λ (s : RowId). IsTrue (admits s infos vars)) (ap (λ (n : ℕ). record { 0 = n }) (sym (eqb-true (slice_index_or rules k e).0.0 row.0 same))) (admitted (list_any_at is_of_row rules k e l same))) in
        subst (λ (s : Rule). All (λ p. IsUsable g infos p vars) s.1) here
        (All-filter is_of_row (λ (r : Rule). is_of_row r ≡ true → All (λ p. IsUsable g infos p vars) r.1) rules usable i (told d) there (filter_passes is_of_row rules i (told d) there))

    module _ (answered : RowId → List VarId → State) (vars : List VarId) where
      suppressed_any : list_any (λ r. fits_all answered vars (told r)) items ≡ is_suppressed answered row vars
      suppressed_any = any_rule (fits_all answered vars) ∙ any_filter (fits_all answered vars) is_of_row rules

      -- a rule of the row all of whose premises fit
      pub rule_found : (i : ℕ) → i < length items → (d : CodeRule) → list_all (λ p. premise_fits answered p vars) (slice_index_or items i d).premises.now ≡ true → is_suppressed answered row vars ≡ true
      rule_found i within d fit = sym suppressed_any ∙ list_any_at (λ (s : CodeRule). fits_all answered vars (told s)) items i d within fit

      -- no rule fits
      pub none_found : (i : ℕ) → length items ≤ i → list_any (λ r. fits_all answered vars (told r)) (take i items) ≡ false → is_suppressed answered row vars ≡ false
      none_found i past none = sym suppressed_any ∙ ap (list_any (λ r. fits_all answered vars (told r))) (sym (take_all i items past)) ∙ none
