-- Variables whose numbers rise in a sample, each greater than the one before it.
use Rattle.std.specs.Prelude.{◌≡◌, ◌<◌, ◌&&◌, ◌||◌, ◌==◌, ℕ, zero, suc, ℤ, true, List, [], ◌∷◌, Option, Some, int_lt, length, refl}
use Rattle.std.proofs.Common.{◌∙◌, ap, arith, get_or, inl, inr, subst, sym}
use Rattle.std.proofs.lemmas.Bool.{and_from, and_parts, cases_Bool, eq-eqb, eqb-true, false≢true, or_left, or_right}
use Rattle.std.proofs.lemmas.Int.{ints}
use Rattle.std.proofs.lemmas.List.Folds.{list_any_at}
use Rattle.dk_base.specs.Values.Tuples.{value_at}
use Rattle.dk_base.specs.declared.kinds.VarId.{VarId}
use Rattle.dk_base.specs.declared.values.Value.{Value}
use Rattle.dk_base.specs.declared.values.Value.TheVariants as value
use Rattle.dk_samples.specs.Samples.{value_in}
use Rattle.dk_engine.specs.Idle.{are_in_order, are_rising, compares_first, compares_values, is_among, last_with, rises}

first_over : (last : ℤ) (i : Value) → rises (Some last) i ≡ true → compares_first 13 last i ≡ true
first_over last (value.Int x) h = h
first_over last value.Missing h = refl
first_over last _ h = absurd (false≢true h)

less_first : (last x : ℤ) (i : Value) → int_lt last x ≡ true → compares_first 13 x i ≡ true → compares_first 13 last i ≡ true
less_first last x (value.Int y) less h = less_through last x y less h
  where
    less_through : (a b c : ℤ) → int_lt a b ≡ true → int_lt b c ≡ true → int_lt a c ≡ true
    less_through a b c ab bc = grind (arith, ints)
less_first last x value.Missing less h = refl
less_first last x _ less h = absurd (false≢true h)

-- behind one of them, where this holds of each number
behind : (sample : List Value) (vars : List VarId) (v : VarId) (last : ℤ) (i : Value) → ((x : ℤ) → are_rising sample (Some x) vars ≡ true → compares_first 13 x (value_in sample v) ≡ true)
    → rises (Some last) i ≡ true → are_rising sample (last_with (Some last) i) vars ≡ true → compares_first 13 last (value_in sample v) ≡ true
behind sample vars v last (value.Int x) each h rest = less_first last x (value_in sample v) h (each x rest)
behind sample vars v last value.Missing each h rest = each last rest
behind sample vars v last _ each h rest = absurd (false≢true h)

-- all have greater numbers than the last one
over_all : (vars : List VarId) (sample : List Value) (v : VarId) → is_among vars v ≡ true → (last : ℤ) → are_rising sample (Some last) vars ≡ true
    → compares_first 13 last (value_in sample v) ≡ true
over_all [] sample v among last h = absurd (false≢true among)
over_all (n ∷ vars) sample v among last h =
    let told = and_parts (rises (Some last) (value_in sample n)) (are_rising sample (last_with (Some last) (value_in sample n)) vars) h in
    elim (cases_Bool (n.0 == v.0)) as (λ _. compares_first 13 last (value_in sample v) ≡ true) [
      | inl e ↦ subst (λ i. compares_first 13 last (value_at sample i) ≡ true) (eqb-true n.0 v.0 e) (first_over last (value_in sample n) told.0)
      | inr o ↦ behind sample vars v last (value_in sample n) (over_all vars sample v (sym (ap (λ t. t || is_among vars v) o) ∙ among)) told.0 told.1
    ]

chained : (sample : List Value) (vars : List VarId) (v : VarId) → is_among vars v ≡ true → (last : Option ℤ) (i : Value) → rises last i ≡ true
    → are_rising sample (last_with last i) vars ≡ true → compares_values 13 i (value_in sample v) ≡ true
chained sample vars v among last (value.Int x) h rest = over_all vars sample v among x rest
chained sample vars v among last value.Missing h rest = refl
chained sample vars v among last _ h rest = absurd (false≢true h)

-- two of them, one before the other
pub ordered_so : (vars : List VarId) (sample : List Value) (last : Option ℤ) → are_rising sample last vars ≡ true → (u v : VarId) → are_in_order vars u v ≡ true
    → compares_values 13 (value_in sample u) (value_in sample v) ≡ true
ordered_so [] sample last h u v order = absurd (false≢true order)
ordered_so (n ∷ vars) sample last h u v order =
    let told = and_parts (rises last (value_in sample n)) (are_rising sample (last_with last (value_in sample n)) vars) h in
    elim (cases_Bool (n.0 == u.0 && is_among vars v)) as (λ _. compares_values 13 (value_in sample u) (value_in sample v) ≡ true) [
      | inl l ↦
          let p = and_parts (n.0 == u.0) (is_among vars v) l in
          subst (λ i. compares_values 13 (value_at sample i) (value_in sample v) ≡ true) (eqb-true n.0 u.0 p.0)
          (chained sample vars v p.1 last (value_in sample n) told.0 told.1)
      | inr o ↦ ordered_so vars sample (last_with last (value_in sample n)) told.1 u v (sym (ap (λ t. t || are_in_order vars u v) o) ∙ order)
    ]

-- two that stand at places in order
pub in_order_at : (vars : List VarId) (i j : ℕ) (u v : VarId) → i < j → j < length vars → ((d : VarId) → (get_or vars i d).0 ≡ u.0) → ((d : VarId) → (get_or vars j d).0 ≡ v.0)
    → are_in_order vars u v ≡ true
in_order_at [] i j u v before l at_u at_v = absurd (omega (arith, l))
in_order_at (n ∷ vars) i zero u v before l at_u at_v = absurd (omega (arith, before))
in_order_at (n ∷ vars) zero (suc j) u v before l at_u at_v =
    let behind_it = list_any_at (λ (m : VarId). m.0 == v.0) vars j v (omega (arith, l)) (eq-eqb _ v.0 (at_v v)) in
    or_left (n.0 == u.0 && is_among vars v) (are_in_order vars u v) (and_from (n.0 == u.0) (is_among vars v) (eq-eqb n.0 u.0 (at_u n)) behind_it)
in_order_at (n ∷ vars) (suc i) (suc j) u v before l at_u at_v =
    or_right (n.0 == u.0 && is_among vars v) (are_in_order vars u v) (in_order_at vars i j u v (omega (arith, before)) (omega (arith, l)) at_u at_v)
