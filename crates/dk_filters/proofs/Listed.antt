-- What is listed for each variable.
use Rattle.std.specs.Prelude.{◌≡◌, ◌<◌, ◌+◌, ◌-◌, ◌++◌, ℕ, zero, suc, Bool, true, false, List, [], ◌∷◌, filter, find, length, map, slice_index_or, Some, None, if◌then◌else◌, refl}
use Rattle.std.specs.Option.{option_or}
use Rattle.std.proofs.Common.{ap, arith, sym, ◌∙◌}
use Rattle.std.proofs.lemmas.List.{get_or-map, map-append}
use Rattle.std.proofs.lemmas.List.Folds.{find-append}
use Rattle.std.proofs.lemmas.List.Elements.{All-head, All-tail}
use Rattle.std.proofs.lemmas.List.FromFn.{filter_of_map_range_with_len_more, get_or-map-range_with_len, length-map-range_with_len, map-range_with_len_more}
use Rattle.dk_base.specs.declared.kinds.VarId.{VarId}
use Rattle.dk_base.specs.declared.kinds.VarInfo.{VarInfo}
use Rattle.dk_instances.specs.Instances.{all_vars}
use Rattle.dk_template.specs.Premises.{AreThere}
use Rattle.dk_filters.specs.Answers.{Answers, Parent}
use Rattle.dk_filters.specs.Facts.{first_like, has_one_value, having_partner}
use Rattle.dk_filters.specs.Found.{by_partner, first_in, firsts_of, listed_at, one_value_in, one_values_of, vars_below}

-- ---- one variable more
abbrev var : ℕ → VarId
var n = record { 0 = n }

pub vars_more : (n : ℕ) → vars_below (n + 1) ≡ vars_below n ++ record { 0 = n } ∷ []
vars_more n = map-range_with_len_more var 0 n n (omega arith)

pub map_vars_more : {B : Type 0} (f : VarId → B) (n : ℕ) → map f (vars_below (n + 1)) ≡ map f (vars_below n) ++ f (record { 0 = n }) ∷ []
map_vars_more f n = ap (map f) (vars_more n) ∙ map-append f (vars_below n) (var n ∷ [])

pub filter_vars_more : (p : VarId → Bool) (n : ℕ) → filter p (vars_below (n + 1)) ≡ filter p (vars_below n) ++ (if p (record { 0 = n }) then record { 0 = n } ∷ [] else [])
filter_vars_more p n = filter_of_map_range_with_len_more p var 0 n n (omega arith)

module _ (p : VarId → Bool) where
  found-more : (n : ℕ) → find p (vars_below (n + 1)) ≡ option_or (find p (vars_below n)) (find p (var n ∷ []))
  found-more n = ap (find p) (vars_more n) ∙ find-append p (vars_below n) (var n ∷ [])

  pub none_more : (n : ℕ) → find p (vars_below n) ≡ None → p (record { 0 = n }) ≡ false → find p (vars_below (n + 1)) ≡ None
  none_more n none fails = found-more n ∙ (ap (λ o. option_or o (find p (var n ∷ []))) none ∙ ap (λ b. if b then Some (var n) else None) fails)

  found_stays : (v : VarId) (n k : ℕ) → find p (vars_below n) ≡ Some v → find p (vars_below (k + n)) ≡ Some v
  found_stays v n zero found = ap (λ m. find p (vars_below m)) (let same : 0 + n ≡ n = omega arith in same) ∙ found
  found_stays v n (suc k) found =
      let next : suc k + n ≡ (k + n) + 1 = omega arith in
      ap (λ m. find p (vars_below m)) next ∙ (found-more (k + n) ∙ ap (λ o. option_or o (find p (var (k + n) ∷ []))) (found_stays v n k found))

  -- the first of so many variables that passes is this one
  pub found_here : (n count : ℕ) → n < count → find p (vars_below n) ≡ None → p (record { 0 = n }) ≡ true → find p (vars_below count) ≡ Some (record { 0 = n })
  found_here n count within none passes =
      let first : find p (vars_below (n + 1)) ≡ Some (var n) = found-more n ∙ (ap (λ o. option_or o (find p (var n ∷ []))) none ∙ ap (λ b. if b then Some (var n) else None) passes) in
      let all : (count - (n + 1)) + (n + 1) ≡ count = omega (arith, within) in
      ap (λ m. find p (vars_below m)) (sym all) ∙ found_stays (var n) (n + 1) (count - (n + 1)) first

-- ---- at a variable
-- what is listed of each variable, at one of them
pub at_var : {B : Type 0} (f : VarId → B) (infos : List VarInfo) (v : VarId) (d : B) → v.0 < length infos → slice_index_or (map f (all_vars infos)) v.0 d ≡ f v
at_var f infos v d within =
    let var : ℕ → VarId = λ n. record { 0 = n } in
    let long : v.0 < length (all_vars infos) = let l = length-map-range_with_len var 0 (length infos) in omega (arith, l, within) in
    get_or-map f (all_vars infos) v.0 v d long ∙ ap f (get_or-map-range_with_len var 0 (length infos) v.0 v.0 v within (omega arith))

pub firsts-at : (here : Answers) (v : VarId) → v.0 < length here.infos → first_in (firsts_of here) v ≡ first_like here v
firsts-at here v within = at_var (first_like here) here.infos v v within

pub one_values-at : (here : Answers) (v : VarId) → v.0 < length here.infos → one_value_in (one_values_of here) v ≡ has_one_value here v
one_values-at here v within = at_var (has_one_value here) here.infos v false within

pub listed : (infos : List VarInfo) (p : Parent) (vars : List VarId) → AreThere infos vars → map (listed_at (by_partner infos p)) vars ≡ map (having_partner p) vars
listed infos p [] there = refl
listed infos p (v ∷ vars) there =
    let Within : VarId → Type 0 = λ u. u.0 < length infos in
    let first : listed_at (by_partner infos p) v ≡ having_partner p v = at_var (having_partner p) infos v [] (All-head Within v vars there) in
    let rest : map (listed_at (by_partner infos p)) vars ≡ map (having_partner p) vars = listed infos p vars (All-tail Within v vars there) in
    λ i. first i ∷ rest i
