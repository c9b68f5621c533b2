-- The samples with which a record reaches a point tell what the checks of its own point give of its sample.
use Rattle.std.specs.Prelude.{◌≡◌, ◌≢◌, ◌+◌, ◌*◌, ◌<◌, ◌==◌, ℕ, zero, suc, Bool, true, false, All, List, [], ◌∷◌, ◌++◌, flat_map, length, map, slice_index_or, Option, Some, None, option_map, if◌then◌else◌, refl}
use Rattle.std.specs.List.{cons_option}
use Rattle.std.specs.Option.{option_map_or}
use Rattle.std.proofs.Common.{◌∙◌, ap, arith, length-append, sym}
use Rattle.std.proofs.lemmas.Bool.{eqb-true, eq-eqb, false≢true}
use Rattle.std.proofs.lemmas.List.{append-nil}
use Rattle.std.proofs.lemmas.List.Elements.{All-head, All-tail}
use Rattle.dk_base.specs.declared.kinds.VarId.{VarId}
use Rattle.dk_base.specs.declared.values.Value.{Value}
use Rattle.dk_derive.specs.Values.{values_by_form}
use Rattle.dk_forms.specs.declared.states.State.TheVariants.{Empty}
use Rattle.dk_hierarchy.proofs.Edges.{counts, fits_through}
use Rattle.dk_hierarchy.proofs.Telling.{count_repeated, from_repeated, in_repeated}
use Rattle.dk_hierarchy.specs.Descent.{IsDescent}
use Rattle.dk_hierarchy.specs.Edges.{partners_at}
use Rattle.dk_hierarchy.specs.Samples.{all_vars_of, mapped_sample, own_samples_of, samples_of}
use Rattle.dk_hierarchy.specs.Ways.{repeated_samples, samples_through, samples_through_all}
use Rattle.dk_hierarchy.specs.declared.way.Way.{Way}
use Rattle.dk_instances.proofs.Fitting.{count_of_both, count_of_tuples, fit_of_both, fit_of_none, fit_of_set}
use Rattle.dk_instances.specs.Fits.{fit}
use Rattle.dk_meanings.proofs.RowLaws.{laws_of}
use Rattle.dk_meanings.specs.Meanings.{state_of}
use Rattle.dk_points.specs.Table.{Point}
use Rattle.dk_presence.specs.Patterns.{capped, count_of}
use Rattle.dk_template.specs.Joins.{joined}
use Rattle.dk_template.specs.Templates.{IsRow, form_of}
use Rattle.dk_template.specs.declared.grammar.RowId.{RowId}
use Rattle.dk_verdicts.proofs.Taken.{often}
use Rattle.dk_verdicts.specs.Checks.{check_by, checks_by}
use Rattle.dk_verdicts.specs.Records.{only}
use Rattle.dk_verdicts.specs.Tests.{tuples_by, tuples_by_all}
use Rattle.dk_verdicts.specs.declared.checks.Check.{Check}

abbrev Samples : Type 0
Samples = List (List Value)

-- ---- lists
given : {X Y : Type 0} (f : X → List Y) (o : Option X) (xs : List X) → flat_map f (cons_option o xs) ≡ option_map_or f o [] ++ flat_map f xs
given f None xs = refl
given f (Some x) xs = refl

repeated_nothing : (n : ℕ) → repeated_samples n [] ≡ []
unfolding repeated_samples
repeated_nothing zero = refl
repeated_nothing (suc n) = repeated_nothing n

-- ---- of ways
module _ (row : RowId) (is : IsRow row) (claim p : ℕ) (vars : List VarId) (sample : List Value) (own : ℕ → Samples) (here : own p ≡ sample ∷ []) (elsewhere : (j : ℕ) → j ≢ p → own j ≡ []) where
  -- the tuples by the check that a way gives
  abbrev by_way : Way → List (List Value)
  by_way way = option_map_or (tuples_by sample) (check_by claim vars p way) []

  module _ (way : Way) (some : 0 < way.paths) where
    abbrev n : ℕ
    n = way.paths

    abbrev mapped : Samples
    mapped = map (mapped_sample way.partners) (sample ∷ [])

    abbrev mk : List VarId → Check
    mk there = record { claim = claim; vars = there; paths = n }

    brought : way.point.0 ≡ p → samples_through own way ≡ repeated_samples n mapped
    brought e = ap (λ s. repeated_samples n (map (mapped_sample way.partners) s)) (ap own e ∙ here)

    not_brought : way.point.0 ≢ p → samples_through own way ≡ []
    not_brought ne = ap (λ s. repeated_samples n (map (mapped_sample way.partners) s)) (elsewhere way.point.0 ne) ∙ repeated_nothing n

    state_there : (o : Option (List VarId)) → state_of row (option_map_or (tuples_by sample) (option_map mk o) []) ≡ option_map_or (λ there. fit row there (sample ∷ [])) o Empty
    unfolding fit
    state_there None = (laws_of row is).none
    state_there (Some there) = often there sample row is n some

    count_there : (o : Option (List VarId)) → capped (length (option_map_or (tuples_by sample) (option_map mk o) [])) ≡ capped (n * option_map_or (λ there. count_of there (sample ∷ [])) o 0)
    count_there None = zeros n
      where
        zeros : (n : ℕ) → capped 0 ≡ capped (n * 0)
        zeros n = omega arith
    count_there (Some there) = sym (count_of_tuples there (repeated_samples n (sample ∷ []))) ∙ count_repeated n there (sample ∷ [])

    fits_brought : fit row vars (repeated_samples n mapped) ≡ option_map_or (λ there. fit row there (sample ∷ [])) (partners_at way.partners vars) Empty
    fits_brought =
        fit_of_set row is vars (repeated_samples n mapped) mapped (record { to = λ x i. from_repeated n mapped x i; from = λ x i. in_repeated n mapped x some i })
        ∙ fits_through row is way.partners vars (sample ∷ [])

    counts_brought : count_of vars (repeated_samples n mapped) ≡ capped (n * option_map_or (λ there. count_of there (sample ∷ [])) (partners_at way.partners vars) 0)
    counts_brought = count_repeated n vars mapped ∙ ap (λ c. capped (n * c)) (counts way.partners vars (sample ∷ []))

    state_by : state_of row (by_way way) ≡ fit row vars (samples_through own way)
    state_by = go (way.point.0 == p) refl
      where
        go : (b : Bool) → (way.point.0 == p) ≡ b → state_of row (by_way way) ≡ fit row vars (samples_through own way)
        go true e =
            ap (λ b. state_of row (option_map_or (tuples_by sample) (if b then option_map mk (partners_at way.partners vars) else None) [])) e
            ∙ state_there (partners_at way.partners vars)
            ∙ sym (ap (fit row vars) (brought (eqb-true way.point.0 p e)) ∙ fits_brought)
        go false e =
            ap (λ b. state_of row (option_map_or (tuples_by sample) (if b then option_map mk (partners_at way.partners vars) else None) [])) e
            ∙ (laws_of row is).none
            ∙ sym (ap (fit row vars) (not_brought (λ h. false≢true (sym e ∙ eq-eqb way.point.0 p h))) ∙ fit_of_none row is vars)

    count_by_way : capped (length (by_way way)) ≡ count_of vars (samples_through own way)
    count_by_way = go (way.point.0 == p) refl
      where
        go : (b : Bool) → (way.point.0 == p) ≡ b → capped (length (by_way way)) ≡ count_of vars (samples_through own way)
        go true e =
            ap (λ b. capped (length (option_map_or (tuples_by sample) (if b then option_map mk (partners_at way.partners vars) else None) []))) e
            ∙ count_there (partners_at way.partners vars)
            ∙ sym (ap (count_of vars) (brought (eqb-true way.point.0 p e)) ∙ counts_brought)
        go false e =
            ap (λ b. capped (length (option_map_or (tuples_by sample) (if b then option_map mk (partners_at way.partners vars) else None) []))) e
            ∙ sym (ap (count_of vars) (not_brought (λ h. false≢true (sym e ∙ eq-eqb way.point.0 p h))))

  -- of all ways
  abbrev by_ways : List Way → List (List Value)
  by_ways ways = tuples_by_all sample (checks_by claim vars p ways)

  one_way_more : (way : Way) (ways : List Way) → by_ways (way ∷ ways) ≡ by_way way ++ by_ways ways
  one_way_more way ways = given (tuples_by sample) (check_by claim vars p way) (checks_by claim vars p ways)

  pub states : (ways : List Way) → All (λ way. 0 < way.paths) ways → state_of row (tuples_by_all sample (checks_by claim vars p ways)) ≡ fit row vars (samples_through_all own ways)
  states [] some = (laws_of row is).none ∙ sym (fit_of_none row is vars)
  states (way ∷ ways) some =
      ap (state_of row) (one_way_more way ways)
      ∙ (laws_of row is).both (by_way way) (by_ways ways)
      ∙ ap (λ s. joined (form_of row) s (state_of row (by_ways ways))) (state_by way (All-head (λ (way : Way). 0 < way.paths) way ways some))
      ∙ ap (joined (form_of row) (fit row vars (samples_through own way))) (states ways (All-tail (λ (way : Way). 0 < way.paths) way ways some))
      ∙ sym (fit_of_both row is vars (samples_through own way) (samples_through_all own ways))

  pub numbers : (ways : List Way) → All (λ way. 0 < way.paths) ways → capped (length (tuples_by_all sample (checks_by claim vars p ways))) ≡ count_of vars (samples_through_all own ways)
  numbers [] some = refl
  numbers (way ∷ ways) some =
      let rest = numbers ways (All-tail (λ (way : Way). 0 < way.paths) way ways some) in
      let one = count_by_way way (All-head (λ (way : Way). 0 < way.paths) way ways some) in
      ap (λ (ts : List (List Value)). capped (length ts)) (one_way_more way ways)
      ∙ both (length (by_way way)) (length (by_ways ways)) (length (by_way way ++ by_ways ways)) (count_of vars (samples_through own way)) (count_of vars (samples_through_all own ways))
      (length-append (by_way way) (by_ways ways)) one rest
      ∙ sym (count_of_both vars (samples_through own way) (samples_through_all own ways))
    where
      both : (a b c d e : ℕ) → c ≡ a + b → capped a ≡ d → capped b ≡ e → capped c ≡ capped (d + e)
      both a b c d e long first second = omega (arith, long, first, second)

-- ---- of a record
pub at_only : (p : ℕ) (values : List Value) → slice_index_or (only p values) p [] ≡ values ∷ []
at_only zero values = refl
at_only (suc p) values = at_only p values

pub beside_only : (p j : ℕ) (values : List Value) → j ≢ p → slice_index_or (only p values) j [] ≡ []
beside_only zero zero values ne = absurd (ne refl)
beside_only zero (suc j) values ne = refl
beside_only (suc p) zero values ne = refl
beside_only (suc p) (suc j) values ne = beside_only p j values (λ e. ne (ap suc e))

module _ (ps : List Point) (q p : ℕ) (base : List Value) (ways : List Way) (descent : IsDescent ps q ways []) (row : RowId) (is : IsRow row) (claim : ℕ) (vars : List VarId) where
  abbrev own : ℕ → Samples
  own = own_samples_of ps (only p base)

  abbrev pub derived : List Value
  derived = values_by_form (all_vars_of ps p) base

  here : own p ≡ derived ∷ []
  here = ap (map (values_by_form (all_vars_of ps p))) (at_only p base)

  elsewhere : (j : ℕ) → j ≢ p → own j ≡ []
  elsewhere j ne = ap (map (values_by_form (all_vars_of ps j))) (beside_only p j base ne)

  some : All (λ way. 0 < way.paths) ways
  some = λ k d within. (descent.done k d within).some

  all_brought : samples_through_all own ways ++ [] ≡ samples_through_all own ways
  all_brought = append-nil (samples_through_all own ways)

  pub state_reached : fit row vars (samples_of ps (only p base) q) ≡ state_of row (tuples_by_all derived (checks_by claim vars p ways))
  state_reached =
      fit_of_set row is vars (samples_of ps (only p base) q) (samples_through_all own ways ++ []) (descent.brings (only p base)).samples
      ∙ ap (fit row vars) all_brought
      ∙ sym (states row is claim p vars derived own here elsewhere ways some)

  pub number_reached : count_of vars (samples_of ps (only p base) q) ≡ capped (length (tuples_by_all derived (checks_by claim vars p ways)))
  number_reached =
      (descent.brings (only p base)).counts vars
      ∙ ap (count_of vars) all_brought
      ∙ sym (numbers row is claim p vars derived own here elsewhere ways some)
