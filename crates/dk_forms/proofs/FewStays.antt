-- When a value leaves few distinct values as they are: when it is one of them.
use Rattle.std.specs.Prelude.{[], ◌≡◌, ℕ, ℤ, Bool, true, false, ◌||◌, List, ◌∷◌, refl}
use Rattle.std.specs.Bool.{Decides}
use Rattle.std.specs.declared.cmp.Ordering.{Ordering}
use Rattle.std.specs.declared.cmp.Ordering.TheVariants.{Less, Equal, Greater}
use Rattle.std.specs.Ordering.{int_cmp, int_eq, nat_cmp}
use Rattle.std.specs.Cmp.{IsTotalOrder}
use Rattle.std.specs.Cmp.Lexicographic.{slice_cmp}
use Rattle.std.specs.FinMap.{IsAntisymmetric, int_cmp-IsAntisymmetric, nat_cmp-IsAntisymmetric, slice_cmp-IsAntisymmetric}
use Rattle.std.specs.List.{list_any}
use Rattle.std.specs.Str.{bytes_eq}
use Rattle.std.proofs.Common.{sym, ap, ◌∙◌, subst, arith, inl, inr}
use Rattle.std.proofs.lemmas.Bool.{cases_Bool, false≢true}
use Rattle.std.proofs.lemmas.Bool.Decides.{Decides-int_eq}
use Rattle.std.proofs.lemmas.Slice.Eq.{bytes_eq-Decides}
use Rattle.std.proofs.lemmas.Cmp.{int_cmp_total, nat_list_cmp_total}
use Rattle.dk_forms.proofs.DistinctLaws.{at_most-few, at_most_cases, few_laws, put-equal, put-greater, put-less, put-nil, put_swap, put_twice}
use Rattle.dk_forms.specs.Known.{Known, broken, fact, nothing}
use Rattle.dk_forms.specs.Known.Distinct.{IsFew, at_most, few_of, put, put_all}
use Rattle.dk_forms.specs.Ints.{ints_join, ints_known, ints_of, ints_state}
use Rattle.dk_forms.specs.Texts.{texts_join, texts_known, texts_of, texts_state}
use Rattle.dk_forms.specs.declared.states.State.TheVariants.{Ints, Texts}

abbrev pub IsFact : {F : Type 0} → Known F → Type 0
IsFact nothing = ⊥
IsFact broken = ⊥
IsFact (fact x) = Unit {0}

abbrev pub fact_or : {F : Type 0} → F → Known F → F
fact_or d nothing = d
fact_or d broken = d
fact_or d (fact x) = x

or_true : (b : Bool) → (b || true) ≡ true
or_true b = elim b as (λ b. (b || true) ≡ true) [ true ↦ refl | false ↦ refl ]

module _ {K : Type 0} {R : K → K → Ordering} (o : IsTotalOrder R) (same : IsAntisymmetric R) (eq : K → K → Bool) (decides : (x y : K) → Decides (eq x y) (x ≡ y)) where
  any_head : (x : K) (ys : List K) → list_any (eq x) (x ∷ ys) ≡ true
  any_head x ys = ap (λ b. b || list_any (eq x) ys) ((decides x x).1 refl)

  -- where it is put it is
  put_has : (x : K) (s : List K) → list_any (eq x) (put R x s) ≡ true
  put_has x [] = ap (list_any (eq x)) (put-nil o same x) ∙ any_head x []
  put_has x (y ∷ ys) =
      elim (R x y) as (λ r. R x y ≡ r → list_any (eq x) (put R x (y ∷ ys)) ≡ true) [
        | Less ↦ λ e. ap (list_any (eq x)) (put-less o same x y ys e) ∙ any_head x (y ∷ ys)
        | Equal ↦ λ e. ap (list_any (eq x)) (put-equal o same x y ys e) ∙ subst (λ w. list_any (eq x) (w ∷ ys) ≡ true) (same x y e) (any_head x ys)
        | Greater ↦ λ e. ap (list_any (eq x)) (put-greater o same x y ys e) ∙ ap (λ b. eq x y || b) (put_has x ys) ∙ or_true (eq x y)
      ] refl

  -- where it is, to put it changes nothing
  put_in : (x : K) (s : List K) → list_any (eq x) s ≡ true → put R x (put_all R s []) ≡ put_all R s []
  put_in x [] h = absurd (false≢true h)
  put_in x (y ∷ ys) h =
      let t = put_all R ys [] in
      elim (cases_Bool (eq x y)) as (λ _. put R x (put R y t) ≡ put R y t) [
        | inl e ↦ ap (λ w. put R w (put R y t)) ((decides x y).0 e) ∙ put_twice o same y t
        | inr e ↦ put_swap o same x y t ∙ ap (put R y) (put_in x ys (sym (ap (λ b. b || list_any (eq x) ys) e) ∙ h))
      ]

  pub few_stays : (n : ℕ) (s : List K) (x : K) → IsFew R n s → Decides (list_any (eq x) s) (at_most R n (put R x s) ≡ fact s)
  few_stays n s x f = (to, from)
    where
      to : list_any (eq x) s ≡ true → at_most R n (put R x s) ≡ fact s
      to h = ap (at_most R n) (ap (put R x) (sym f.ascending) ∙ put_in x s h ∙ f.ascending) ∙ at_most-few o same n s f.few

      from : at_most R n (put R x s) ≡ fact s → list_any (eq x) s ≡ true
      from e =
          at_most_cases o same n (put R x s) (list_any (eq x) s ≡ true)
          (λ h k. subst (λ t. list_any (eq x) t ≡ true) (ap (fact_or s) (sym k ∙ e)) (put_has x s))
          (λ h k. absurd (subst IsFact (sym e ∙ k) tt))

-- ---- ints
ints_again : (k : Known (List ℤ)) → ints_known (ints_state k) ≡ k
ints_again nothing = refl
ints_again broken = refl
ints_again (fact u) = refl

ints_with : (s : List ℤ) (x : ℤ) → IsFew int_cmp 3 s → ints_join (Ints s) (ints_of (x ∷ [])) ≡ ints_state (at_most int_cmp 3 (put int_cmp x s))
unfolding put
ints_with s x f =
    ap ints_state ((few_laws int_cmp_total int_cmp-IsAntisymmetric 3).comm s (x ∷ []) f (record { ascending = put-nil int_cmp_total int_cmp-IsAntisymmetric x; some = omega arith; few = omega arith }))

pub ints_stay : (s : List ℤ) (x : ℤ) → IsFew int_cmp 3 s → Decides (list_any (int_eq x) s) (ints_join (Ints s) (ints_of (x ∷ [])) ≡ Ints s)
ints_stay s x f =
    let d = few_stays int_cmp_total int_cmp-IsAntisymmetric int_eq Decides-int_eq 3 s x f in
    let e = ints_with s x f in
    ((λ h. e ∙ ap ints_state (d.0 h)), (λ k. d.1 (sym (ints_again (at_most int_cmp 3 (put int_cmp x s))) ∙ ap ints_known (sym e ∙ k))))

-- ---- texts
texts_again : (k : Known (List (List ℕ))) → texts_known (texts_state k) ≡ k
texts_again nothing = refl
texts_again broken = refl
texts_again (fact u) = refl

texts_with : (s : List (List ℕ)) (x : List ℕ) → IsFew (slice_cmp nat_cmp) 3 s → texts_join (Texts s) (texts_of (x ∷ [])) ≡ texts_state (at_most (slice_cmp nat_cmp) 3 (put (slice_cmp nat_cmp) x s))
unfolding put
texts_with s x f =
    ap texts_state ((few_laws nat_list_cmp_total (slice_cmp-IsAntisymmetric nat_cmp-IsAntisymmetric) 3).comm s (x ∷ []) f (record { ascending = put-nil nat_list_cmp_total (slice_cmp-IsAntisymmetric nat_cmp-IsAntisymmetric) x; some = omega arith; few = omega arith }))

pub texts_stay : (s : List (List ℕ)) (x : List ℕ) → IsFew (slice_cmp nat_cmp) 3 s → Decides (list_any (bytes_eq x) s) (texts_join (Texts s) (texts_of (x ∷ [])) ≡ Texts s)
texts_stay s x f =
    let d = few_stays nat_list_cmp_total (slice_cmp-IsAntisymmetric nat_cmp-IsAntisymmetric) bytes_eq bytes_eq-Decides 3 s x f in
    let e = texts_with s x f in
    ((λ h. e ∙ ap texts_state (d.0 h)), (λ k. d.1 (sym (texts_again (at_most (slice_cmp nat_cmp) 3 (put (slice_cmp nat_cmp) x s))) ∙ ap texts_known (sym e ∙ k))))
