-- The instances of a grammar ascend.
use Rattle.std.specs.Prelude.{◌<◌, ◌+◌, ℕ, zero, suc, Bool, true, false, All, List, [], ◌∷◌, ◌++◌, cond, filter, flat_map, length, map, refl}
use Rattle.std.specs.List.{AllPairs, range_with_len}
use Rattle.std.proofs.Common.{arith, get_or, inl, inr, subst, sym}
use Rattle.std.proofs.lemmas.List.Elements.{Contains-get_or}
use Rattle.std.proofs.lemmas.List.Kept.{AllPairs-cons}
use Rattle.dk_base.specs.declared.kinds.VarId.{VarId}
use Rattle.dk_base.specs.declared.kinds.VarInfo.{VarInfo}
use Rattle.dk_forms.specs.Laws.{IsIn}
use Rattle.dk_instances.proofs.Listing.{of_row}
use Rattle.dk_instances.proofs.Members.{append_cases, contained, is_in, of_filter, of_flat, of_map, of_range}
use Rattle.dk_instances.specs.Instances.{ComesBefore, Precedes, all_vars, asked_of, instances_of, is_asked, rows_of, tuples_over}
use Rattle.dk_instances.specs.Laws.{InstancesAscend}
use Rattle.dk_template.specs.Templates.{arity_of, rows_in}
use Rattle.dk_template.specs.declared.grammar.Grammar.{Grammar}
use Rattle.dk_template.specs.declared.grammar.RowId.{RowId}

-- each value is in the relation with the later ones
abbrev pub Ascend : {X : Type 0} → (X → X → Type 0) → List X → Type 0
Ascend R [] = Unit {0}
Ascend {X} R (x ∷ xs) = ((y : X) → IsIn y xs → R x y) × Ascend R xs

module _ {X : Type 0} (R : X → X → Type 0) where
  pub pairs : (xs : List X) → Ascend R xs → AllPairs R xs
  pairs [] h = λ i j d lt l. absurd (omega (arith, l))
  pairs (x ∷ xs) h =
      let later : All (R x) xs = λ k d l. let c = Contains-get_or xs k d l in h.0 (get_or xs k d) (is_in (get_or xs k d) xs c.0 c.1 c.2) in
      AllPairs-cons R x xs later (pairs xs h.1)

  pub ascend_from_pairs : (xs : List X) → AllPairs R xs → Ascend R xs
  ascend_from_pairs [] up = tt
  ascend_from_pairs (x ∷ xs) up = (
    λ y i. let c = contained y xs i in let l = c.1 in subst (R x) c.2 (up 0 (suc c.0) y (omega arith) (omega (arith, l))),
    ascend_from_pairs xs (λ i j d l m. up (suc i) (suc j) d (omega (arith, l)) (omega (arith, m))),
  )

  pub weaker : (S : X → X → Type 0) → ((x y : X) → R x y → S x y) → (xs : List X) → Ascend R xs → Ascend S xs
  weaker S w [] h = tt
  weaker S w (x ∷ xs) h = (λ y i. w x y (h.0 y i), weaker S w xs h.1)

  both : (xs ys : List X) → Ascend R xs → Ascend R ys → ((x y : X) → IsIn x xs → IsIn y ys → R x y) → Ascend R (xs ++ ys)
  both [] ys h k c = k
  both (x ∷ xs) ys h k c =
      (λ y i. elim (append_cases y xs ys i) as (λ _. R x y) [ inl a ↦ h.0 y a | inr b ↦ c x y (inl refl) b ], both xs ys h.1 k (λ z y i j. c z y (inr i) j))

  pub kept : (p : X → Bool) (xs : List X) → Ascend R xs → Ascend R (filter p xs)
  kept p [] h = tt
  kept p (x ∷ xs) h = elim (p x) as (λ b. Ascend R (cond b (x ∷ filter p xs) (filter p xs))) [
    | true ↦ (λ y i. h.0 y (of_filter p y xs i).0, kept p xs h.1)
    | false ↦ kept p xs h.1
  ]

  pub along : {V : Type 0} (f : V → X) (vs : List V) → Ascend (λ v w. R (f v) (f w)) vs → Ascend R (map f vs)
  along f [] h = tt
  along f (v ∷ vs) h = (λ y i. let p = of_map f y vs i in subst (R (f v)) (sym p.2) (h.0 p.0 p.1), along f vs h.1)

  pub joined : {V : Type 0} (Q : V → V → Type 0) (f : V → List X) → ((v : V) → Ascend R (f v)) → ((v w : V) (x y : X) → Q v w → IsIn x (f v) → IsIn y (f w) → R x y)
      → (vs : List V) → Ascend Q vs → Ascend R (flat_map f vs)
  joined Q f each apart [] h = tt
  joined Q f each apart (v ∷ vs) h =
      both (f v) (flat_map f vs) (each v) (joined Q f each apart vs h.1) (λ x y i j. let p = of_flat f y vs j in apart v p.0 x y (h.0 p.0 p.1) i p.2)

pub numbers : (a n : ℕ) → Ascend (λ (i j : ℕ). i < j) (range_with_len a n)
numbers a zero = tt
numbers a (suc n) = (λ k i. let p = of_range k (a + 1) n i in let low = p.0 in omega (arith, low), numbers (a + 1) n)

-- ---- tuples
pub tuples : (all : List VarId) → Ascend (λ (v w : VarId). v.0 < w.0) all → (n : ℕ) → Ascend Precedes (tuples_over n all)
tuples all h zero = (λ y i. absurd i, tt)
tuples all h (suc n) =
    joined Precedes (λ (v w : VarId). v.0 < w.0) (λ v. map (λ rest. v ∷ rest) (tuples_over n all))
    (λ v. along Precedes (λ rest. v ∷ rest) (tuples_over n all) (weaker Precedes (λ r s. Precedes (v ∷ r) (v ∷ s)) (λ r s p. inr (refl, p)) (tuples_over n all) (tuples all h n)))
    (λ v w x y lt i j.
    let p = of_map (λ rest. v ∷ rest) x (tuples_over n all) i in
    let q = of_map (λ rest. w ∷ rest) y (tuples_over n all) j in
    subst (λ t. Precedes t y) (sym p.2) (subst (Precedes (v ∷ p.0)) (sym q.2) (inl lt)))
    all h

-- ---- instances
of_one_row : (infos : List VarInfo) (row : RowId) → Ascend ComesBefore (of_row infos row)
of_one_row infos row =
    let vars = along (λ (v w : VarId). v.0 < w.0) (λ n. record { 0 = n }) (range_with_len 0 (length infos)) (numbers 0 (length infos)) in
    let asked = kept Precedes (is_asked infos row) (tuples_over (arity_of row) (all_vars infos)) (tuples (all_vars infos) vars (arity_of row)) in
    along ComesBefore (λ w. (row, w)) (asked_of infos row) (weaker Precedes (λ v w. ComesBefore (row, v) (row, w)) (λ v w p. inr (refl, p)) (asked_of infos row) asked)

all_rows : (grammar : Grammar) (infos : List VarInfo) → Ascend ComesBefore (flat_map (of_row infos) (rows_of grammar))
all_rows grammar infos =
    let rows = along (λ (r s : RowId). r.0 < s.0) (λ n. record { 0 = n }) (range_with_len 1 (rows_in grammar)) (numbers 1 (rows_in grammar)) in
    joined ComesBefore (λ (r s : RowId). r.0 < s.0) (of_row infos) (of_one_row infos)
    (λ r s x y lt i j.
    let p = of_map {X = List VarId} {Y = RowId × List VarId} (λ w. (r, w)) x (asked_of infos r) i in
    let q = of_map {X = List VarId} {Y = RowId × List VarId} (λ w. (s, w)) y (asked_of infos s) j in
    subst (λ t. ComesBefore t y) (sym p.2) (subst (ComesBefore (r, p.0)) (sym q.2) (inl lt)))
    (rows_of grammar) rows

pub instances_ascend : InstancesAscend
unfolding instances_of
instances_ascend grammar infos = pairs ComesBefore (flat_map (of_row infos) (rows_of grammar)) (all_rows grammar infos)
