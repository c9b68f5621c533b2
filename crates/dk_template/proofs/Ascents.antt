-- Values are distinct and ascending exactly where each is less than the next.
use Rattle.std.specs.Prelude.{◌≡◌, ◌&&◌, true, List, [], ◌∷◌, refl}
use Rattle.std.specs.Ordering.{is_lt, ordering_reverse}
use Rattle.std.specs.declared.cmp.Ordering.{Ordering}
use Rattle.std.specs.declared.cmp.Ordering.TheVariants.{Less, Equal, Greater}
use Rattle.std.specs.FinMap.{IsAntisymmetric}
use Rattle.std.specs.Cmp.{IsTotalOrder}
use Rattle.std.proofs.Common.{sym, ap, ◌∙◌, subst}
use Rattle.std.proofs.lemmas.Bool.{and_parts, false≢true}
use Rattle.dk_forms.proofs.DistinctLaws.{put-nil, put-less, put-equal, put-greater}
use Rattle.dk_forms.specs.Known.Distinct.{put, distinct}
use Rattle.dk_template.specs.Ascending.{ascends}

module _ {K : Type 0} {R : K → K → Ordering} (o : IsTotalOrder R) (same : IsAntisymmetric R) where
  -- x is less than the first of the values
  abbrev IsBefore : K → List K → Type 0
  IsBefore x [] = Unit {0}
  IsBefore x (y ∷ ys) = R x y ≡ Less

  abbrev Ascends : List K → Type 0
  Ascends [] = Unit {0}
  Ascends (x ∷ xs) = IsBefore x xs × Ascends xs

  before_put : (y x : K) (ys : List K) → R y x ≡ Less → IsBefore y ys → IsBefore y (put R x ys)
  before_put y x [] r b = subst (IsBefore y) (sym (put-nil o same x)) r
  before_put y x (z ∷ zs) r b =
      elim (R x z) as (λ s. R x z ≡ s → IsBefore y (put R x (z ∷ zs))) [
        | Less ↦ λ e. subst (IsBefore y) (sym (put-less o same x z zs e)) r
        | Equal ↦ λ e. subst (IsBefore y) (sym (put-equal o same x z zs e)) b
        | Greater ↦ λ e. subst (IsBefore y) (sym (put-greater o same x z zs e)) b
      ] refl

  put_ascends : (x : K) (ys : List K) → Ascends ys → Ascends (put R x ys)
  put_ascends x [] a = subst Ascends (sym (put-nil o same x)) (tt, tt)
  put_ascends x (y ∷ ys) a =
      elim (R x y) as (λ s. R x y ≡ s → Ascends (put R x (y ∷ ys))) [
        | Less ↦ λ e. subst Ascends (sym (put-less o same x y ys e)) (e, a)
        | Equal ↦ λ e. subst Ascends (sym (put-equal o same x y ys e)) a
        | Greater ↦ λ e. subst Ascends (sym (put-greater o same x y ys e)) (before_put y x ys (turned e) a.0, put_ascends x ys a.1)
      ] refl
    where
      turned : R x y ≡ Greater → R y x ≡ Less
      turned e = o.antisymm y x ∙ ap ordering_reverse e

  all_ascend : (xs : List K) → Ascends (distinct R xs)
  all_ascend [] = tt
  all_ascend (x ∷ xs) = put_ascends x (distinct R xs) (all_ascend xs)

  put_before : (x : K) (ys : List K) → IsBefore x ys → put R x ys ≡ x ∷ ys
  put_before x [] b = put-nil o same x
  put_before x (y ∷ ys) b = put-less o same x y ys b

  distinct_ascending : (xs : List K) → Ascends xs → distinct R xs ≡ xs
  distinct_ascending [] a = refl
  distinct_ascending (x ∷ xs) a = ap (put R x) (distinct_ascending xs a.1) ∙ put_before x xs a.0

  -- the test
  is_less : (r : Ordering) → is_lt r ≡ true → r ≡ Less
  is_less Less e = refl
  is_less Equal e = absurd (false≢true e)
  is_less Greater e = absurd (false≢true e)

  tested : (xs : List K) → Ascends xs → ascends R xs ≡ true
  tested [] a = refl
  tested (x ∷ []) a = refl
  tested (x ∷ y ∷ ys) a = ap (λ b. is_lt b && ascends R (y ∷ ys)) a.0 ∙ tested (y ∷ ys) a.1

  found : (xs : List K) → ascends R xs ≡ true → Ascends xs
  found [] e = tt
  found (x ∷ []) e = (tt, tt)
  found (x ∷ y ∷ ys) e = let p = and_parts (is_lt (R x y)) (ascends R (y ∷ ys)) e in (is_less (R x y) p.0, found (y ∷ ys) p.1)

  pub distinct_where_ascending : (xs : List K) → ascends R xs ≡ true → distinct R xs ≡ xs
  distinct_where_ascending xs e = distinct_ascending xs (found xs e)

  pub ascending_where_distinct : (xs : List K) → distinct R xs ≡ xs → ascends R xs ≡ true
  ascending_where_distinct xs e = tested xs (subst Ascends e (all_ascend xs))
