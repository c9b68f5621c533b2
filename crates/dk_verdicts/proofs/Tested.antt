-- A sample tested by checks, one after another.
use Rattle.std.specs.Prelude.{◌≡◌, ◌≢◌, ◌+◌, ◌<◌, ◌==◌, ◌++◌, ◌∷◌, ℕ, cond, List, [], length, slice_get, slice_set, slice_index_or, take, Some, refl}
use Rattle.std.proofs.Common.{◌∙◌, ⊎_elim, ap, arith, get_or, subst, sym}
use Rattle.std.proofs.lemmas.Bool.{eq-eqb, ne_eqb}
use Rattle.std.proofs.lemmas.Grind.{flat_map-append}
use Rattle.std.proofs.lemmas.List.{append-nil, length-set, take_more}
use Rattle.std.proofs.lemmas.List.Elements.{filter-append}
use Rattle.dk_base.specs.declared.values.Value.{Value}
use Rattle.dk_verdicts.proofs.Checked.{get_set, get_within, got, some_same, there_too}
use Rattle.dk_verdicts.proofs.Taken.{AreProper, proper_by, takes_fitting, takes_going, takes_more, takes_none}
use Rattle.dk_verdicts.specs.Checks.{checks_on}
use Rattle.dk_verdicts.specs.Tests.{AreTaken, CanAllGoOn, CanGoOn, FitAll, Fits, Takes, tuples_by, tuples_by_all}
use Rattle.dk_verdicts.specs.declared.checks.Check.{Check}
use Rattle.dk_verdicts.specs.declared.findings.Finding.{Finding}
use Rattle.dk_verdicts.specs.declared.findings.Finding.TheVariants.{Holds, Violated, Unknown}

pub got_value : {X : Type 0} (xs : List X) (i : ℕ) (x : X) → i < length xs → x ≡ slice_index_or xs i x → slice_get xs i ≡ Some x
got_value xs i x within is = got xs i x within ∙ ap Some (sym is)

-- what a check gives is proper
its_proper : (sample : List Value) (c : Check) (f : Finding) → CanGoOn f → Fits sample c f → AreProper f (tuples_by sample c)
its_proper sample c Unknown can fits = tt
its_proper sample c (Violated x y) can fits = tt
its_proper sample c (Holds point a n) can fits = proper_by c.vars sample a.row can.0.row c.paths fits.1 fits.0

module _ (file line : ℕ) (sample : List Value) (old : List Finding) (going : CanAllGoOn old) where
  pub none_tested : AreTaken file line sample [] old old
  none_tested = record {
    long = refl;
    each = λ i f g was now. subst (Takes file line [] f) (some_same f g (sym was ∙ now)) (takes_none file line f (going i f was));
  }

  module _ (checks : List Check) (fit : FitAll sample checks old) (k : ℕ) (mid : List Finding) (taken : AreTaken file line sample (take k checks) old mid) (c : Check) (at : slice_get checks k ≡ Some c) where
    pub claim_within : c.claim < length mid
    claim_within = let within = (fit k c at).0 in let long = taken.long in omega (arith, within, long)

    module _ (f : Finding) (here : slice_get mid c.claim ≡ Some f) where
      first : (g : Finding) × (slice_get old c.claim ≡ Some g)
      first = there_too old mid c.claim f taken.long here

      so_far : Takes file line (tuples_by_all sample (checks_on c.claim (take k checks))) first.0 f
      so_far = taken.each c.claim first.0 f first.1 here

      pub still_going : CanGoOn f
      still_going = takes_going file line (tuples_by_all sample (checks_on c.claim (take k checks))) first.0 f (going c.claim first.0 first.1) so_far

      pub still_fits : Fits sample c f
      still_fits = takes_fitting file line (tuples_by_all sample (checks_on c.claim (take k checks))) sample c first.0 f ((fit k c at).1 first.0 first.1) so_far

      one_more : take (k + 1) checks ≡ take k checks ++ c ∷ []
      one_more = take_more checks k c (get_within checks k c at) ∙ ap (λ (d : Check). take k checks ++ d ∷ []) (some_same (get_or checks k c) c (sym (got checks k c (get_within checks k c at)) ∙ at))

      on_more : (i : ℕ) → checks_on i (take (k + 1) checks) ≡ checks_on i (take k checks) ++ cond (c.claim == i) (c ∷ []) []
      on_more i = ap (checks_on i) one_more ∙ filter-append (λ d. d.claim == i) (take k checks) (c ∷ [])

      more_here : tuples_by_all sample (checks_on c.claim (take (k + 1) checks)) ≡ tuples_by_all sample (checks_on c.claim (take k checks)) ++ tuples_by sample c
      more_here =
          ap (tuples_by_all sample) (on_more c.claim ∙ ap (λ b. checks_on c.claim (take k checks) ++ cond b (c ∷ []) []) (eq-eqb c.claim c.claim refl))
          ∙ flat_map-append (tuples_by sample) (checks_on c.claim (take k checks)) (c ∷ [])
          ∙ ap (λ (ts : List (List Value)). tuples_by_all sample (checks_on c.claim (take k checks)) ++ ts) (append-nil (tuples_by sample c))

      none_elsewhere : (i : ℕ) → i ≢ c.claim → checks_on i (take (k + 1) checks) ≡ checks_on i (take k checks)
      none_elsewhere i ne =
          on_more i ∙ ap (λ b. checks_on i (take k checks) ++ cond b (c ∷ []) []) (ne_eqb c.claim i (λ e. ne (sym e))) ∙ append-nil (checks_on i (take k checks))

      pub one_tested : (g : Finding) → Takes file line (tuples_by sample c) f g → AreTaken file line sample (take (k + 1) checks) old (slice_set mid c.claim g)
      one_tested g takes = record {
        long = length-set mid c.claim g ∙ taken.long;
        each = λ i x y was now. ⊎_elim
            (λ (h : (i ≡ c.claim) × (g ≡ y)).
            let same : first.0 ≡ x = some_same first.0 x (sym first.1 ∙ ap (slice_get old) (sym h.0) ∙ was) in
            let P : ℕ → Type 0 = λ j. Takes file line (tuples_by_all sample (checks_on j (take (k + 1) checks))) x y in
            subst P (sym h.0)
            (subst (λ ts. Takes file line ts x y) (sym more_here)
            (subst (λ z. Takes file line (tuples_by_all sample (checks_on c.claim (take k checks)) ++ tuples_by sample c) z y) same
            (subst (Takes file line (tuples_by_all sample (checks_on c.claim (take k checks)) ++ tuples_by sample c) first.0) h.1
            (takes_more file line (tuples_by_all sample (checks_on c.claim (take k checks))) (tuples_by sample c) first.0 f g (going c.claim first.0 first.1)
            (its_proper sample c first.0 (going c.claim first.0 first.1) ((fit k c at).1 first.0 first.1)) so_far takes)))))
            (λ (h : (i ≢ c.claim) × (slice_get mid i ≡ Some y)).
            subst (λ cs. Takes file line (tuples_by_all sample cs) x y) (sym (none_elsewhere i h.0)) (taken.each i x y was h.1))
            (get_set mid c.claim i g y now);
      }
