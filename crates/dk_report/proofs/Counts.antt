-- Counts of single variables, found once for a point, are those of what the engines keep.
use Rattle.std.specs.Prelude.{◌≡◌, ◌<◌, ◌≤◌, ◌+◌, ◌*◌, ◌&&◌, ◌||◌, ◌==◌, ℕ, suc, Bool, true, false, All, IfSome, List, [], ◌∷◌, cond, length, refl, replicate, slice_index_or, slice_set, sum_by, take, Option, Some, None, option_and_then, option_map}
use Rattle.std.specs.Option.{option_map_or}
use Rattle.std.proofs.Common.{◌∙◌, ap, arith, get_or, inl, inr, subst, sym}
use Rattle.std.proofs.lemmas.Bool.{cases_Bool, cases_eq, cases_lt, eqb-false, eqb-true, ne_eqb}
use Rattle.std.proofs.lemmas.Grind.{get_or-set_at}
use Rattle.std.proofs.lemmas.List.{get_or-replicate, get_or-set_other, get_or_past, length-replicate, length-set, take_more}
use Rattle.std.proofs.lemmas.List.Folds.{list_any_none}
use Rattle.std.proofs.lemmas.List.Sums.{sum_by_push}
use Rattle.dk_base.specs.declared.kinds.VarId.{VarId}
use Rattle.dk_engine.specs.Reading.{count_read}
use Rattle.dk_engine.specs.Reading.Levels.{Whole}
use Rattle.dk_hierarchy.specs.Merging.{Joint, count_through, engine_at}
use Rattle.dk_hierarchy.specs.declared.way.Way.{Way}
use Rattle.dk_presence.proofs.Sums.{counted_more}
use Rattle.dk_presence.specs.Patterns.{capped, counted_by, has}
use Rattle.dk_presence.specs.declared.held.Held.{Held}
use Rattle.dk_report.specs.Counting.{AreAt, AreFound, added, brought, partner_count, with_more}
use Rattle.dk_samples.specs.Leaders.{VarsAscend}

-- ---- one walk over the patterns
-- so many more at one variable
at-set : (count : VarId → ℕ) (numbers : List ℕ) (u : VarId) (more : ℕ) → AreAt count numbers
    → AreAt (λ w. with_more (u.0 == w.0) more (count w)) (slice_set numbers u.0 (capped (slice_index_or numbers u.0 0 + more)))
at-set count numbers u more are v l =
    let put = capped (slice_index_or numbers u.0 0 + more) in
    let long = length-set numbers u.0 put in
    let within : v.0 < length numbers = omega (arith, l, long) in
    elim (cases_Bool (u.0 == v.0)) as (λ _. slice_index_or (slice_set numbers u.0 put) v.0 0 ≡ with_more (u.0 == v.0) more (count v)) [
      | inl e ↦
          (let same : v.0 ≡ u.0 = sym (eqb-true u.0 v.0 e) in
          get_or-set_at numbers u.0 v.0 put 0 same (omega (arith, within, same))
          ∙ (ap (λ n. capped (slice_index_or numbers n 0 + more)) (sym same)
          ∙ (ap (λ n. capped (n + more)) (are v within) ∙ sym (ap (λ b. with_more b more (count v)) e))))
      | inr n ↦
          get_or-set_other numbers u.0 v.0 put 0 (λ same. eqb-false u.0 v.0 n (sym same))
          ∙ (are v within ∙ sym (ap (λ b. with_more b more (count v)) n))
    ]

ascend-tail : (u : VarId) (vars : List VarId) → VarsAscend (u ∷ vars) → VarsAscend vars
ascend-tail u vars up i j d lt l = up (suc i) (suc j) d (omega (arith, lt)) (omega (arith, l))

-- the first of ascending variables doesn't come again
not-later : (u : VarId) (vars : List VarId) (v : VarId) → VarsAscend (u ∷ vars) → u.0 ≡ v.0 → has vars v ≡ false
not-later u vars v up same =
    list_any_none (λ w. w.0 == v.0) vars (λ k d l. ne_eqb (get_or vars k d).0 v.0 (λ equal.
    let less = up 0 (suc k) d (omega arith) (omega (arith, l)) in
    omega (arith, less, same, equal)))

-- so many more at each of ascending variables
added-at : (vars : List VarId) (more : ℕ) (count : VarId → ℕ) (numbers : List ℕ) → VarsAscend vars → AreAt count numbers → AreAt (λ v. with_more (has vars v) more (count v)) (added vars more numbers)
added-at [] more count numbers up are v l = are v l
added-at (u ∷ vars) more count numbers up are v l =
    added-at vars more (λ w. with_more (u.0 == w.0) more (count w)) (slice_set numbers u.0 (capped (slice_index_or numbers u.0 0 + more)))
    (ascend-tail u vars up) (at-set count numbers u more are) v l
    ∙ elim (cases_Bool (u.0 == v.0)) as (λ _. with_more (has vars v) more (with_more (u.0 == v.0) more (count v)) ≡ with_more (u.0 == v.0 || has vars v) more (count v)) [
      | inl e ↦
          ap (λ b. with_more b more (with_more (u.0 == v.0) more (count v))) (not-later u vars v up (eqb-true u.0 v.0 e))
          ∙ (ap (λ b. with_more b more (count v)) e ∙ sym (ap (λ b. with_more (b || has vars v) more (count v)) e))
      | inr n ↦ ap (λ b. with_more (has vars v) more (with_more b more (count v))) n ∙ sym (ap (λ b. with_more (b || has vars v) more (count v)) n)
    ]

once : (b : Bool) (s n : ℕ) → with_more b n (capped s) ≡ capped (capped s + cond (b && true) n 0)
once true s n = refl
once false s n = omega arith

-- no pattern yet
pub none-walked : (n : ℕ) (held : List Held) → AreAt (λ v. counted_by (take 0 held) (v ∷ [])) (replicate n 0)
none-walked n held v l =
    let none : ℕ = 0 in
    let long = length-replicate n none in
    get_or-replicate n v.0 none none (omega (arith, l, long))

-- one pattern more
pub walked : (held : List Held) → All (λ h. VarsAscend h.leaders) held → (i : ℕ) (h : Held) → i < length held → h ≡ get_or held i h → (numbers : List ℕ) → AreAt (λ v. counted_by (take i held) (v ∷ [])) numbers
    → AreAt (λ v. counted_by (take (i + 1) held) (v ∷ [])) (added h.leaders h.count numbers)
walked held ascend i h within is numbers are =
    subst (λ (k : Held). AreAt (λ v. counted_by (take (i + 1) held) (v ∷ [])) (added k.leaders k.count numbers)) (sym is) at
  where
    at : AreAt (λ v. counted_by (take (i + 1) held) (v ∷ [])) (added (get_or held i h).leaders (get_or held i h).count numbers)
    at v l =
        added-at (get_or held i h).leaders (get_or held i h).count (λ w. counted_by (take i held) (w ∷ [])) numbers (ascend i h within) are v l
        ∙ (once (has (get_or held i h).leaders v) (sum_by (λ k. cond (has k.leaders v && true) k.count 0) (take i held)) (get_or held i h).count
        ∙ sym (counted_more held (v ∷ []) i h within))

-- ---- the ways one after another
-- no way yet
pub none-found : (n : ℕ) (count : ℕ → ℕ) → ((v : ℕ) → count v ≡ 0) → AreFound count (replicate n (Some 0))
none-found n count none v = elim (cases_lt v n) as (λ _. IfSome (slice_index_or (replicate n (Some 0)) v None) (λ k. k ≡ count v)) [
  | inl within ↦ subst (λ (o : Option ℕ). IfSome o (λ k. k ≡ count v)) (sym (get_or-replicate n v (Some 0) None within)) (sym (none v))
  | inr past ↦
      (let all : List (Option ℕ) = replicate n (Some 0) in
      let long : length all ≡ n = length-replicate n (Some 0) in
      subst (λ (o : Option ℕ). IfSome o (λ k. k ≡ count v)) (sym (get_or_past all v None (omega (arith, past, long)))) tt)
]

-- what a way brings is what is counted through it
through : (joint : Joint) (way : Way) (v : ℕ) → count_through joint (record { 0 = v } ∷ []) way ≡ brought (engine_at joint way).kept way v
through joint way v = ap (λ n. n * way.paths) (by (slice_index_or way.partners v None))
  where
    by : (o : Option VarId) → option_map_or (count_read (engine_at joint way).kept) (option_and_then (λ w. option_map (λ rest. w ∷ rest) (Some [])) o) 0 ≡ partner_count (engine_at joint way).kept o
    by None = refl
    by (Some w) = refl

-- one way more
pub way-more : (joint : Joint) (ways : List Way) (i : ℕ) (way : Way) → i < length ways → way ≡ get_or ways i way → (engine : Whole) → engine ≡ engine_at joint way → (found : List (Option ℕ))
    → AreFound (λ v. capped (sum_by (count_through joint (record { 0 = v } ∷ [])) (take i ways) + brought engine.kept way v)) found
    → AreFound (λ v. capped (sum_by (count_through joint (record { 0 = v } ∷ [])) (take (i + 1) ways))) found
way-more joint ways i way within is engine led found are v =
    subst (λ n. IfSome (slice_index_or found v None) (λ k. k ≡ capped n)) sums (are v)
  where
    last : count_through joint (record { 0 = v } ∷ []) (get_or ways i way) ≡ brought engine.kept way v
    last = ap (count_through joint (record { 0 = v } ∷ [])) (sym is) ∙ (through joint way v ∙ ap (λ (e : Whole). brought e.kept way v) (sym led))

    sums : sum_by (count_through joint (record { 0 = v } ∷ [])) (take i ways) + brought engine.kept way v ≡ sum_by (count_through joint (record { 0 = v } ∷ [])) (take (i + 1) ways)
    sums =
        ap (λ n. sum_by (count_through joint (record { 0 = v } ∷ [])) (take i ways) + n) (sym last)
        ∙ (sym (sum_by_push (count_through joint (record { 0 = v } ∷ [])) (take i ways) (get_or ways i way))
        ∙ ap (sum_by (count_through joint (record { 0 = v } ∷ []))) (sym (take_more ways i way within)))

-- ---- one place after another
module _ (start : List (Option ℕ)) (more : ℕ → ℕ) where
  -- what is found at the places before has so many more
  abbrev pub AreDone : ℕ → List (Option ℕ) → Type 0
  AreDone p found = (count : ℕ → ℕ) → AreFound (λ v. capped (count v)) start → (v : ℕ) → v < p → IfSome (slice_index_or found v None) (λ n. n ≡ capped (count v + more v))

  pub place-done : (found : List (Option ℕ)) (p : ℕ) (put : Option ℕ) → p < length found → slice_index_or found p None ≡ slice_index_or start p None
      → ((n : ℕ) → IfSome (slice_index_or found p None) (λ x. x ≡ capped n) → IfSome put (λ z. z ≡ capped (n + more p)))
      → AreDone p found → AreDone (p + 1) (slice_set found p put)
  place-done found p put within same sums done count are v l = elim (cases_eq v p) as (λ _. IfSome (slice_index_or (slice_set found p put) v None) (λ n. n ≡ capped (count v + more v))) [
    | inl here ↦
        (let first : IfSome (slice_index_or found p None) (λ x. x ≡ capped (count p)) = subst (λ (o : Option ℕ). IfSome o (λ x. x ≡ capped (count p))) (sym same) (are p) in
        subst (λ (o : Option ℕ). IfSome o (λ n. n ≡ capped (count v + more v))) (sym (get_or-set_at found p v put None here within))
        (subst (λ k. IfSome put (λ n. n ≡ capped (count k + more k))) (sym here) (sums (count p) first)))
    | inr other ↦
        (let before : v < p = (omega (arith, l, other)) in
        subst (λ (o : Option ℕ). IfSome o (λ n. n ≡ capped (count v + more v))) (sym (get_or-set_other found p v put None other)) (done count are v before))
  ]

  pub all-done : (found : List (Option ℕ)) (p : ℕ) → length found ≤ p → AreDone p found → (count : ℕ → ℕ) → AreFound (λ v. capped (count v)) start → AreFound (λ v. capped (count v + more v)) found
  all-done found p past done count are v = elim (cases_lt v p) as (λ _. IfSome (slice_index_or found v None) (λ n. n ≡ capped (count v + more v))) [
    | inl before ↦ done count are v before
    | inr beyond ↦ subst (λ (o : Option ℕ). IfSome o (λ n. n ≡ capped (count v + more v))) (sym (get_or_past found v None (omega (arith, past, beyond)))) tt
  ]
