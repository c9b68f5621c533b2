-- The variables that are their own leaders.
use Rattle.std.proofs.Common.{◌≡◌, ℕ, zero, suc, ◌+◌, ◌<◌, eqb, ◌⊎◌, inl, inr, List, [], ◌∷◌, ◌++◌, length, get_or, take, map, true, false, cond, refl, ap, sym, ◌∙◌, subst, arith}
use Rattle.std.specs.List.{AllPairs, Contains, enumerate_from, filter}
use Rattle.std.proofs.lemmas.Bool.{cases_Bool, eqb-true, eq-eqb}
use Rattle.std.proofs.lemmas.List.{map-append, take_more, length-take-le}
use Rattle.std.proofs.lemmas.List.Elements.{Contains-get_or, filter-append}
use Rattle.std.proofs.lemmas.List.Kept.{AllPairs-cons}
use Rattle.dk_base.specs.declared.kinds.VarId.{VarId}
use Rattle.dk_classes.specs.Leaders.{leader_at, own_leaders, var}

enumerate_push : (n : ℕ) (xs : List VarId) (x : VarId) → enumerate_from n (xs ++ x ∷ []) ≡ enumerate_from n xs ++ (n + length xs, x) ∷ []
enumerate_push n [] x = ap (λ m. (m, x) ∷ []) (omega arith)
enumerate_push n (y ∷ xs) x = ap (λ es. (n, y) ∷ es) (enumerate_push (n + 1) xs x ∙ ap (λ m. enumerate_from (n + 1) xs ++ (m, x) ∷ []) (omega arith))

-- one variable more
pub own_push : (xs : List VarId) (x : VarId) → own_leaders (xs ++ x ∷ []) ≡ own_leaders xs ++ cond (eqb x.0 (length xs)) (x ∷ []) []
own_push xs x =
    ap (λ es. map (λ (p : ℕ × VarId). p.1) (filter (λ p. eqb p.1.0 p.0) es)) (enumerate_push 0 xs x)
    ∙ (ap (map (λ (p : ℕ × VarId). p.1)) (filter-append (λ (p : ℕ × VarId). eqb p.1.0 p.0) (enumerate_from 0 xs) ((0 + length xs, x) ∷ []))
    ∙ (map-append (λ (p : ℕ × VarId). p.1) (filter (λ p. eqb p.1.0 p.0) (enumerate_from 0 xs)) (filter (λ p. eqb p.1.0 p.0) ((0 + length xs, x) ∷ []))
    ∙ ap (λ es. own_leaders xs ++ es) (one (0 + length xs) (length xs) (omega arith))))
  where
    one : (m n : ℕ) → m ≡ n → map (λ (p : ℕ × VarId). p.1) (filter (λ p. eqb p.1.0 p.0) ((m, x) ∷ [])) ≡ cond (eqb x.0 n) (x ∷ []) []
    one m n e = ap (λ k. map (λ (p : ℕ × VarId). p.1) (filter (λ p. eqb p.1.0 p.0) ((k, x) ∷ []))) e
        ∙ elim (eqb x.0 n) as (λ b. map (λ (p : ℕ × VarId). p.1) (cond b ((n, x) ∷ []) []) ≡ cond b (x ∷ []) []) [ true ↦ refl | false ↦ refl ]

-- a loop's step
pub own_more : (xs : List VarId) (i : ℕ) (d : VarId) → i < length xs → own_leaders (take (i + 1) xs) ≡ own_leaders (take i xs) ++ cond (eqb (get_or xs i d).0 i) (get_or xs i d ∷ []) []
own_more xs i d l =
    ap own_leaders (take_more xs i d l) ∙ (own_push (take i xs) (get_or xs i d)
    ∙ ap (λ n. own_leaders (take i xs) ++ cond (eqb (get_or xs i d).0 n) (get_or xs i d ∷ []) []) (length-take-le i xs (omega arith)))

contains_first : (x : VarId) (xs : List VarId) → Contains (x ∷ xs) x
contains_first x xs = (0, omega arith, refl)

contains_later : (x : VarId) (xs : List VarId) (v : VarId) → Contains xs v → Contains (x ∷ xs) v
contains_later x xs v h = (suc h.0, omega (arith, h.1), h.2)

contains_cases : (x : VarId) (xs : List VarId) (v : VarId) → Contains (x ∷ xs) v → (x ≡ v) ⊎ Contains xs v
contains_cases x xs v (zero, l, e) = inl e
contains_cases x xs v (suc k, l, e) = inr (k, omega arith, e)

-- the own leaders are the variables whose leaders they are
own_to : (n : ℕ) (xs : List VarId) (v : VarId) → Contains (map (λ (p : ℕ × VarId). p.1) (filter (λ p. eqb p.1.0 p.0) (enumerate_from n xs))) v → (k : ℕ) × (k < length xs) × (v.0 ≡ n + k) × (get_or xs k (var 0) ≡ v)
own_to n [] v h = absurd (omega (arith, h.1))
own_to n (x ∷ xs) v h = elim (cases_Bool (eqb x.0 n)) [
  | inl own ↦ elim (contains_cases x (map (λ (p : ℕ × VarId). p.1) (filter (λ p. eqb p.1.0 p.0) (enumerate_from (n + 1) xs))) v
      (subst (λ b. Contains (map (λ (p : ℕ × VarId). p.1) (cond b ((n, x) ∷ filter (λ p. eqb p.1.0 p.0) (enumerate_from (n + 1) xs)) (filter (λ p. eqb p.1.0 p.0) (enumerate_from (n + 1) xs)))) v) own h)) [
        | inl here ↦ (0, omega arith, ap (λ (w : VarId). w.0) (sym here) ∙ (eqb-true x.0 n own ∙ omega arith), here)
        | inr later ↦ let found = own_to (n + 1) xs v later in (suc found.0, omega (arith, found.1), found.2 ∙ omega arith, found.3)
      ]
  | inr other ↦
      let found = own_to (n + 1) xs v (subst (λ b. Contains (map (λ (p : ℕ × VarId). p.1) (cond b ((n, x) ∷ filter (λ p. eqb p.1.0 p.0) (enumerate_from (n + 1) xs)) (filter (λ p. eqb p.1.0 p.0) (enumerate_from (n + 1) xs)))) v) other h) in
      (suc found.0, omega (arith, found.1), found.2 ∙ omega arith, found.3)
]

own_back : (n : ℕ) (xs : List VarId) (v : VarId) (k : ℕ) → k < length xs → v.0 ≡ n + k → get_or xs k (var 0) ≡ v → Contains (map (λ (p : ℕ × VarId). p.1) (filter (λ p. eqb p.1.0 p.0) (enumerate_from n xs))) v
own_back n [] v k l e is = absurd (omega arith)
own_back n (x ∷ xs) v zero l e is =
    let own : eqb x.0 n ≡ true = eq-eqb x.0 n (ap (λ (w : VarId). w.0) is ∙ (e ∙ omega arith)) in
    subst (λ b. Contains (map (λ (p : ℕ × VarId). p.1) (cond b ((n, x) ∷ filter (λ p. eqb p.1.0 p.0) (enumerate_from (n + 1) xs)) (filter (λ p. eqb p.1.0 p.0) (enumerate_from (n + 1) xs)))) v) (sym own)
    (subst (λ w. Contains (x ∷ map (λ (p : ℕ × VarId). p.1) (filter (λ p. eqb p.1.0 p.0) (enumerate_from (n + 1) xs))) w) is (contains_first x (map (λ (p : ℕ × VarId). p.1) (filter (λ p. eqb p.1.0 p.0) (enumerate_from (n + 1) xs)))))
own_back n (x ∷ xs) v (suc k) l e is =
    let rest = own_back (n + 1) xs v k (omega arith) (e ∙ omega arith) is in
    elim (eqb x.0 n) as (λ b. Contains (map (λ (p : ℕ × VarId). p.1) (cond b ((n, x) ∷ filter (λ p. eqb p.1.0 p.0) (enumerate_from (n + 1) xs)) (filter (λ p. eqb p.1.0 p.0) (enumerate_from (n + 1) xs)))) v) [
      | true ↦ contains_later x (map (λ (p : ℕ × VarId). p.1) (filter (λ p. eqb p.1.0 p.0) (enumerate_from (n + 1) xs))) v rest
      | false ↦ rest
    ]

pub leads_from_own : (xs : List VarId) (v : VarId) → Contains (own_leaders xs) v → (v.0 < length xs) × (leader_at xs v.0 ≡ v.0)
leads_from_own xs v h =
    let found = own_to 0 xs v h in
    let k : v.0 ≡ found.0 = found.2 ∙ omega arith in
    (omega (arith, found.1), ap (leader_at xs) k ∙ ap (λ (w : VarId). w.0) found.3)

pub own_from_leads : (xs : List VarId) (v : VarId) → v.0 < length xs → leader_at xs v.0 ≡ v.0 → Contains (own_leaders xs) v
own_from_leads xs v l e = own_back 0 xs v v.0 l (omega arith) (ap (λ n. record { 0 = n }) e)

-- own leaders ascend
own_ascend_from : (n : ℕ) (xs : List VarId) → AllPairs (λ (v w : VarId). v.0 < w.0) (map (λ (p : ℕ × VarId). p.1) (filter (λ p. eqb p.1.0 p.0) (enumerate_from n xs)))
own_ascend_from n [] = λ i j d l m. absurd (omega (arith, m))
own_ascend_from n (x ∷ xs) =
    let rest = map (λ (p : ℕ × VarId). p.1) (filter (λ p. eqb p.1.0 p.0) (enumerate_from (n + 1) xs)) in
    let up = own_ascend_from (n + 1) xs in
    elim (cases_Bool (eqb x.0 n)) [
      | inl own ↦ subst (λ b. AllPairs (λ (v w : VarId). v.0 < w.0) (map (λ (p : ℕ × VarId). p.1) (cond b ((n, x) ∷ filter (λ p. eqb p.1.0 p.0) (enumerate_from (n + 1) xs)) (filter (λ p. eqb p.1.0 p.0) (enumerate_from (n + 1) xs))))) (sym own)
          (AllPairs-cons (λ (v w : VarId). v.0 < w.0) x rest (λ k d l.
          let found = own_to (n + 1) xs (get_or rest k d) (Contains-get_or rest k d l) in
          let here = eqb-true x.0 n own in
          let there = found.2 in
          omega (arith, here, there)) up)
      | inr other ↦ subst (λ b. AllPairs (λ (v w : VarId). v.0 < w.0) (map (λ (p : ℕ × VarId). p.1) (cond b ((n, x) ∷ filter (λ p. eqb p.1.0 p.0) (enumerate_from (n + 1) xs)) (filter (λ p. eqb p.1.0 p.0) (enumerate_from (n + 1) xs))))) (sym other) up
    ]

pub own_ascend : (leaders : List VarId) → AllPairs (λ (v w : VarId). v.0 < w.0) (own_leaders leaders)
own_ascend leaders = own_ascend_from 0 leaders
