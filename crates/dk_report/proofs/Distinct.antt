-- Lists of different patterns with the same members are equally long.
use Rattle.std.specs.Prelude.{◌≡◌, ◌||◌, ◌<◌, ◌≤◌, suc, Bool, true, false, not, List, [], ◌∷◌, filter, if◌then◌else◌, length, refl}
use Rattle.std.specs.List.{IsDistinct, list_any}
use Rattle.std.proofs.Common.{◌∙◌, ap, arith, get_or, inl, inr, subst, sym}
use Rattle.std.proofs.lemmas.Bool.{cases_Bool, false≢true, not-true, or_left, or_right}
use Rattle.std.proofs.lemmas.List.{length-map}
use Rattle.std.proofs.lemmas.List.Elements.{All-from_recursion, recursion_from_All, All-filter, All-contains, filter_passes}
use Rattle.std.proofs.lemmas.Map.Keys.{IsDistinct-head, IsDistinct-tail, IsDistinct-cons}
use Rattle.dk_base.specs.declared.kinds.VarId.{VarId}
use Rattle.dk_forms.specs.Laws.{IsIn}
use Rattle.dk_instances.proofs.Members.{contained, in_filter, of_filter, of_map}
use Rattle.dk_presence.proofs.Sameness.{same_vars-refl, same_vars-true}
use Rattle.dk_presence.proofs.Sums.{count_at, is_held, occurs_not}
use Rattle.dk_presence.specs.Patterns.{AreCounted, AreHeld, held_patterns, pattern_count, same_vars, times}
use Rattle.dk_presence.specs.declared.held.Held.{Held}
use Rattle.dk_report.specs.Sizes.{each_once}

abbrev Pattern : Type 0
Pattern = List VarId

-- ---- one less
shorter : (q : Pattern → Bool) (xs : List Pattern) → length (filter q xs) ≤ length xs
shorter q [] = omega arith
shorter q (x ∷ xs) = elim (q x) as (λ b. length (if b then x ∷ filter q xs else filter q xs) ≤ suc (length xs)) [
  | true ↦ (let rest = shorter q xs in omega (arith, rest))
  | false ↦ (let rest = shorter q xs in omega (arith, rest))
]

one-less : (q : Pattern → Bool) (x : Pattern) (xs : List Pattern) → IsIn x xs → q x ≡ false → length (filter q xs) < length xs
one-less q x [] i h = absurd i
one-less q x (y ∷ xs) (inl e) h =
    subst (λ b. length (if b then y ∷ filter q xs else filter q xs) < suc (length xs)) (sym (ap q (sym e) ∙ h)) (let rest = shorter q xs in omega (arith, rest))
one-less q x (y ∷ xs) (inr i) h = elim (q y) as (λ b. length (if b then y ∷ filter q xs else filter q xs) < suc (length xs)) [
  | true ↦ (let rest = one-less q x xs i h in omega (arith, rest))
  | false ↦ (let rest = one-less q x xs i h in omega (arith, rest))
]

abbrev apart : Pattern → Pattern → Bool
apart p q = not (same_vars p q)

-- different patterns that are all in a list are no more than it has
no-more : (xs ys : List Pattern) → IsDistinct same_vars xs → ((p : Pattern) → IsIn p xs → IsIn p ys) → length xs ≤ length ys
no-more [] ys distinct to = omega arith
no-more (x ∷ xs) ys distinct to =
    let others = filter (apart x) ys in
    let head = All-from_recursion (λ y. same_vars x y ≡ false) xs (IsDistinct-head same_vars x xs distinct) in
    let rest = no-more xs others (IsDistinct-tail same_vars x xs distinct)
    (λ p i. in_filter (apart x) p ys (to p (inr i)) (ap not (All-contains (λ y. same_vars x y ≡ false) xs p head (contained p xs i)))) in
    let less = one-less (apart x) x ys (to x (inl refl)) (ap not (same_vars-refl x)) in
    omega (arith, rest, less)

-- ---- each pattern once
once-in : (p : Pattern) (patterns : List Pattern) → IsIn p patterns → IsIn p (each_once patterns)
once-in p [] i = absurd i
once-in p (q ∷ patterns) (inl e) = inl e
once-in p (q ∷ patterns) (inr i) = elim (cases_Bool (same_vars q p)) as (λ _. IsIn p (each_once (q ∷ patterns))) [
  | inl same ↦ inl (sym (same_vars-true q p same))
  | inr other ↦ inr (in_filter (apart q) p (each_once patterns) (once-in p patterns i) (ap not other))
]

in-once : (p : Pattern) (patterns : List Pattern) → IsIn p (each_once patterns) → IsIn p patterns
in-once p [] i = absurd i
in-once p (q ∷ patterns) (inl e) = inl e
in-once p (q ∷ patterns) (inr i) = inr (in-once p patterns (of_filter (apart q) p (each_once patterns) i).0)

filter-distinct : (q : Pattern → Bool) (xs : List Pattern) → IsDistinct same_vars xs → IsDistinct same_vars (filter q xs)
filter-distinct q [] h = h
filter-distinct q (x ∷ xs) h =
    let rest = filter-distinct q xs (IsDistinct-tail same_vars x xs h) in
    elim (q x) as (λ b. IsDistinct same_vars (if b then x ∷ filter q xs else filter q xs)) [
      | true ↦ IsDistinct-cons same_vars x (filter q xs)
          (recursion_from_All (λ y. same_vars x y ≡ false) (filter q xs) (All-filter q (λ y. same_vars x y ≡ false) xs (All-from_recursion (λ y. same_vars x y ≡ false) xs (IsDistinct-head same_vars x xs h)))) rest
      | false ↦ rest
    ]

once-distinct : (patterns : List Pattern) → IsDistinct same_vars (each_once patterns)
unfolding IsDistinct
once-distinct [] = tt
once-distinct (q ∷ patterns) =
    let others = filter (apart q) (each_once patterns) in
    IsDistinct-cons same_vars q others
    (recursion_from_All (λ y. same_vars q y ≡ false) others (λ k d l. not-true (same_vars q (get_or others k d)) (filter_passes (apart q) (each_once patterns) k d l)))
    (filter-distinct (apart q) (each_once patterns) (once-distinct patterns))

-- ---- what is held
any-in : (q : Pattern → Bool) (xs : List Pattern) → list_any q xs ≡ true → (p : Pattern) × IsIn p xs × (q p ≡ true)
any-in q [] h = absurd (false≢true h)
any-in q (x ∷ xs) h = elim (cases_Bool (q x)) as (λ _. (p : Pattern) × IsIn p (x ∷ xs) × (q p ≡ true)) [
  | inl here ↦ (x, inl refl, here)
  | inr not_here ↦ (let rest = any-in q xs (sym (ap (λ b. b || list_any q xs) not_here) ∙ h) in (rest.0, inr rest.1, rest.2))
]

in-any : (q : Pattern → Bool) (p : Pattern) (xs : List Pattern) → IsIn p xs → q p ≡ true → list_any q xs ≡ true
in-any q p [] i h = absurd i
in-any q p (x ∷ xs) (inl e) h = or_left (q x) (list_any q xs) (ap q (sym e) ∙ h)
in-any q p (x ∷ xs) (inr i) h = or_right (q x) (list_any q xs) (in-any q p xs i h)

module _ (patterns : List Pattern) (held : List Held) (are : AreHeld held) (counted : AreCounted patterns held) where
  -- a pattern of the list is held
  to-held : (p : Pattern) → IsIn p patterns → IsIn p (held_patterns held)
  to-held p i =
      let found = any-in (λ q. same_vars q p) (held_patterns held) (is_held patterns held counted p (in-any (same_vars p) p patterns i (same_vars-refl p))) in
      subst (λ q. IsIn q (held_patterns held)) (same_vars-true found.0 p found.2) found.1

  -- and only those are
  from-held : (p : Pattern) → IsIn p (held_patterns held) → IsIn p patterns
  from-held p i = elim (cases_Bool (list_any (same_vars p) patterns)) as (λ _. IsIn p patterns) [
    | inl some ↦ (let found = any-in (same_vars p) patterns some in subst (λ q. IsIn q patterns) (sym (same_vars-true p found.0 found.2)) found.1)
    | inr none ↦
        (let m = of_map {X = Held} {Y = Pattern} (λ h. h.leaders) p held i in
        let c = contained m.0 held m.1 in
        let at : pattern_count held m.0.leaders ≡ m.0.count = subst (λ (h : Held). pattern_count held h.leaders ≡ h.count) c.2 (count_at held are.once c.0 m.0 c.1) in
        let some : 0 < m.0.count = subst (λ (h : Held). 0 < h.count) c.2 (are.some c.0 m.0 c.1) in
        let same : pattern_count held p ≡ m.0.count = ap (pattern_count held) m.2 ∙ at in
        let zero : times p patterns ≡ 0 = occurs_not p patterns none in
        let is = counted p in
        absurd (omega (arith, some, same, is, zero)))
  ]

  pub patterns_count : length held ≡ length (each_once patterns)
  patterns_count =
      let up = no-more (held_patterns held) (each_once patterns) are.once (λ p i. once-in p patterns (from-held p i)) in
      let down = no-more (each_once patterns) (held_patterns held) (once-distinct patterns) (λ p i. to-held p (in-once p patterns i)) in
      let long = length-map {A = Held} {B = Pattern} held (λ h. h.leaders) in
      omega (arith, up, down, long)
