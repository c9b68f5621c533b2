-- Fits over variables in another order.
use Rattle.std.specs.Prelude.{◌≡◌, ◌&&◌, ℕ, Bool, true, false, if◌then◌else◌, All, List, [], ◌∷◌, cond, length, map, refl}
use Rattle.std.proofs.Common.{sym, ap, ◌∙◌, get_or}
use Rattle.std.proofs.lemmas.List.{length-map}
use Rattle.std.proofs.lemmas.List.Elements.{All-filter, All-map}
use Rattle.dk_base.specs.declared.kinds.VarId.{VarId}
use Rattle.dk_base.specs.declared.values.Value.{Value}
use Rattle.dk_forms.specs.declared.states.State.{State}
use Rattle.dk_instances.proofs.Symmetries.{HasArity, row_exchanges}
use Rattle.dk_instances.specs.Fits.{fit, is_whole, tuple_in, tuples_of}
use Rattle.dk_instances.specs.Laws.{FitsTurn, SymmetricRowsExchange, may_exchange}
use Rattle.dk_meanings.specs.Meanings.{state_of}
use Rattle.dk_samples.specs.Samples.{is_present, value_in}
use Rattle.dk_template.specs.Exchange.{arrange_tuple, descends, disarrange_state, exchange, exchanged_back, exchanged_state, order_tuple}
use Rattle.dk_template.specs.Templates.{arity_of, template_of}
use Rattle.dk_template.specs.declared.exchange.Exchange.{Exchange}
use Rattle.dk_template.specs.declared.exchange.Exchange.TheVariants.{First, Last}
use Rattle.dk_template.specs.declared.templates.Symmetry.{Symmetry}
use Rattle.dk_template.specs.declared.templates.Symmetry.TheVariants as symmetry

-- ---- tuples
tuple_exchanged : (e : Exchange) (vars : List VarId) (sample : List Value) → tuple_in (exchange e vars) sample ≡ exchange e (tuple_in vars sample)
tuple_exchanged First [] sample = refl
tuple_exchanged First (v ∷ []) sample = refl
tuple_exchanged First (v ∷ w ∷ rest) sample = refl
tuple_exchanged Last [] sample = refl
tuple_exchanged Last (u ∷ []) sample = refl
tuple_exchanged Last (u ∷ v ∷ []) sample = refl
tuple_exchanged Last (u ∷ v ∷ w ∷ rest) sample = refl

and_exchanged : (x y z : Bool) → (x && (y && z)) ≡ (y && (x && z))
and_exchanged true y z = refl
and_exchanged false true z = refl
and_exchanged false false z = refl

whole_exchanged : (e : Exchange) (t : List Value) → is_whole (exchange e t) ≡ is_whole t
whole_exchanged First [] = refl
whole_exchanged First (x ∷ []) = refl
whole_exchanged First (x ∷ y ∷ rest) = and_exchanged (is_present y) (is_present x) (is_whole rest)
whole_exchanged Last [] = refl
whole_exchanged Last (x ∷ []) = refl
whole_exchanged Last (x ∷ y ∷ []) = refl
whole_exchanged Last (x ∷ y ∷ z ∷ rest) = ap (λ b. is_present x && b) (and_exchanged (is_present z) (is_present y) (is_whole rest))

tuples_exchanged : (e : Exchange) (vars : List VarId) (samples : List (List Value)) → tuples_of (exchange e vars) samples ≡ map (exchange e) (tuples_of vars samples)
tuples_exchanged e vars [] = refl
tuples_exchanged e vars (s ∷ samples) =
    let t = tuple_in vars s in
    let ts = tuples_of vars samples in
    let us = tuples_of (exchange e vars) samples in
    ap (λ u. cond (is_whole u) (u ∷ us) us) (tuple_exchanged e vars s)
    ∙ (ap (λ b. cond b (exchange e t ∷ us) us) (whole_exchanged e t)
    ∙ (ap (λ r. cond (is_whole t) (exchange e t ∷ r) r) (tuples_exchanged e vars samples)
    ∙ elim (is_whole t) as (λ b. cond b (exchange e t ∷ map (exchange e) ts) (map (exchange e) ts) ≡ map (exchange e) (cond b (t ∷ ts) ts)) [ true ↦ refl | false ↦ refl ]))

arities : (n : ℕ) (vars : List VarId) → length vars ≡ n → (samples : List (List Value)) → All (HasArity n) (tuples_of vars samples)
arities n vars long samples =
    All-filter is_whole (HasArity n) (map (tuple_in vars) samples)
    (All-map (HasArity n) (tuple_in vars) samples (λ k d l. length-map vars (value_in (get_or samples k d)) ∙ long))

-- ---- two neighbours exchanged
pub fits_exchange : SymmetricRowsExchange
unfolding fit state_of
fits_exchange row is e may vars long samples =
    ap (state_of row) (tuples_exchanged e vars samples) ∙ row_exchanges row is e may (tuples_of vars samples) (arities (arity_of row) vars long samples)

-- ---- any order
exchange_twice : (e : Exchange) (vars : List VarId) → exchange e (exchange e vars) ≡ vars
exchange_twice First [] = refl
exchange_twice First (v ∷ []) = refl
exchange_twice First (v ∷ w ∷ rest) = refl
exchange_twice Last [] = refl
exchange_twice Last (u ∷ []) = refl
exchange_twice Last (u ∷ v ∷ []) = refl
exchange_twice Last (u ∷ v ∷ w ∷ rest) = refl

length_exchange : (e : Exchange) (vars : List VarId) → length (exchange e vars) ≡ length vars
length_exchange First [] = refl
length_exchange First (v ∷ []) = refl
length_exchange First (v ∷ w ∷ rest) = refl
length_exchange Last [] = refl
length_exchange Last (u ∷ []) = refl
length_exchange Last (u ∷ v ∷ []) = refl
length_exchange Last (u ∷ v ∷ w ∷ rest) = refl

length_ordered : (e : Exchange) (vars : List VarId) → length (order_tuple e vars) ≡ length vars
length_ordered e vars = elim (descends e vars) as (λ b. length (if b then exchange e vars else vars) ≡ length vars) [ true ↦ length_exchange e vars | false ↦ refl ]

-- what is said of variables, in whose order it exchanges as the roles of the symmetry may
module _ (s : Symmetry) (n : ℕ) (said : List VarId → State) (exchanges : (e : Exchange) → may_exchange s e ≡ true → (vars : List VarId) → length vars ≡ n → said (exchange e vars) ≡ exchanged_state e (said vars)) where
  step : (e : Exchange) → may_exchange s e ≡ true → (vars : List VarId) → length vars ≡ n → said vars ≡ exchanged_back e vars (said (order_tuple e vars))
  step e may vars long =
      elim (descends e vars) as (λ b. said vars ≡ (if b then exchanged_state e (said (if b then exchange e vars else vars)) else said (if b then exchange e vars else vars))) [
        | true ↦ ap said (sym (exchange_twice e vars)) ∙ exchanges e may (exchange e vars) (length_exchange e vars ∙ long)
        | false ↦ refl
      ]

turns : (s : Symmetry) (n : ℕ) (said : List VarId → State) → ((e : Exchange) → may_exchange s e ≡ true → (vars : List VarId) → length vars ≡ n → said (exchange e vars) ≡ exchanged_state e (said vars))
    → (vars : List VarId) → length vars ≡ n → said vars ≡ disarrange_state s vars (said (arrange_tuple s vars))
turns symmetry.Fixed n said exchanges vars long = refl
turns symmetry.Arguments n said exchanges vars long = step symmetry.Arguments n said exchanges Last refl vars long
turns symmetry.All n said exchanges vars long =
    let one = order_tuple Last vars in
    let two = order_tuple First one in
    let long1 = length_ordered Last vars ∙ long in
    let long2 = length_ordered First one ∙ long1 in
    step symmetry.All n said exchanges Last refl vars long
    ∙ ap (exchanged_back Last vars) (step symmetry.All n said exchanges First refl one long1 ∙ ap (exchanged_back First one) (step symmetry.All n said exchanges Last refl two long2))

pub fits_turn : FitsTurn
fits_turn row is vars long samples =
    turns (template_of row).symmetry (arity_of row) (λ vs. fit row vs samples) (λ e may vs l. fits_exchange row is e may vs l samples) vars long
