-- Patterns and constants are read back from what is saved of them.
use Rattle.std.specs.Prelude.{◌≡◌, ◌↔◌, ◌<◌, ◌+◌, ◌++◌, ◌&&◌, ℕ, Bool, suc, true, false, All, Contains, List, [], ◌∷◌, None, Option, Some, filter, if◌then◌else◌, length, map, refl, slice_index_or, take}
use Rattle.std.specs.List.Sorted.{IsPermutation}
use Rattle.std.specs.Ordering.{is_gt}
use Rattle.std.specs.declared.cmp.Ordering.{Ordering}
use Rattle.std.proofs.Common.{◌∙◌, ap, arith, cond, get_or, inl, inr, subst, sym}
use Rattle.std.proofs.lemmas.Bool.{cases_Bool}
use Rattle.std.proofs.lemmas.List.{get_or_past, length-take-le, take_more}
use Rattle.std.proofs.lemmas.List.Elements.{All-cons, All-head, All-nil, All-tail, Contains-get_or}
use Rattle.std.proofs.lemmas.List.Kept.{AllPairs-cons, AllPairs-filter}
use Rattle.std.proofs.lemmas.List.Sorted.{All-permutation, IsPermutation-cons, IsPermutation-map, IsPermutation-middle, IsPermutation-refl, IsPermutation-sym, IsPermutation-trans, sum_by-IsPermutation}
use Rattle.std.proofs.lemmas.Option.{none-some, same_Some}
use Rattle.std.proofs.lemmas.Map.Keys.{IsDistinct-IsPermutation}
use Rattle.dk_base.specs.declared.kinds.VarId.{VarId}
use Rattle.dk_constants.specs.Known.{Entries, EntriesAscend as KnownAscend}
use Rattle.dk_presence.proofs.Refining.{contains-has, has-contains}
use Rattle.dk_presence.proofs.Sameness.{ascend_rest, same_ascending, same_vars-sym}
use Rattle.dk_presence.proofs.Sums.{has-filter}
use Rattle.dk_presence.specs.Patterns.{AreHeld, has, held_patterns, same_vars}
use Rattle.dk_presence.specs.declared.held.Held.{Held}
use Rattle.dk_samples.specs.Leaders.{VarsAscend}
use Rattle.dk_snapshot.proofs.PatternOrder.{same_patterns}
use Rattle.dk_snapshot.specs.Entries.{all_known_of}
use Rattle.dk_snapshot.specs.Patterns.{pattern_cmp, pattern_of, patterns_of}
use Rattle.dk_snapshot.specs.Restored.{HaveEntries, HavePatterns, chosen_leaders, entry_of, held_of}
use Rattle.dk_snapshot.specs.Sorting.{ascending, put}
use Rattle.dk_snapshot.specs.declared.known.Known.{Known}
use Rattle.dk_snapshot.specs.declared.pattern.Pattern.{Pattern}

-- ---- constants
known_back : (known : List Known) → all_known_of (map entry_of known) ≡ known
known_back [] = refl
known_back (k ∷ known) = ap (λ ks. k ∷ ks) (known_back known)

entries_back : (entries : Entries) → map entry_of (all_known_of entries) ≡ entries
entries_back [] = refl
entries_back (e ∷ entries) = ap (λ es. e ∷ es) (entries_back entries)

pub same_entries : (known : List Known) (entries : Entries) → all_known_of entries ≡ known → map entry_of known ≡ entries
same_entries known entries e = ap (map entry_of) (sym e) ∙ entries_back entries

pub same_known : (known : List Known) (entries : Entries) → entries ≡ map entry_of known → all_known_of entries ≡ known
same_known known entries e = ap all_known_of e ∙ known_back known

-- ---- present leaders
chosen_push : (leaders : List VarId) (truths : List Bool) (v : VarId) → chosen_leaders (leaders ++ v ∷ []) truths ≡ chosen_leaders leaders truths ++ (if slice_index_or truths (length leaders) false then v ∷ [] else [])
chosen_push [] [] v = refl
chosen_push [] (t ∷ truths) v = elim t as (λ b. (if b then v ∷ [] else []) ≡ (if b then v ∷ [] else [])) [ true ↦ refl | false ↦ refl ]
chosen_push (w ∷ leaders) [] v = ap (λ b. if b then v ∷ [] else []) (sym (get_or_past [] (suc (length leaders)) false (omega arith)))
chosen_push (w ∷ leaders) (t ∷ truths) v =
    let rest = chosen_push leaders truths v in
    elim t as (λ b. (if b then w ∷ chosen_leaders (leaders ++ v ∷ []) truths else chosen_leaders (leaders ++ v ∷ []) truths)
    ≡ (if b then w ∷ chosen_leaders leaders truths else chosen_leaders leaders truths) ++ (if slice_index_or truths (length leaders) false then v ∷ [] else [])) [
      | true ↦ ap (λ vs. w ∷ vs) rest
      | false ↦ rest
    ]

pub chosen_more : (leaders : List VarId) (truths : List Bool) (i : ℕ) (d : VarId) → i < length leaders
    → chosen_leaders (take (i + 1) leaders) truths ≡ chosen_leaders (take i leaders) truths ++ (if slice_index_or truths i false then get_or leaders i d ∷ [] else [])
chosen_more leaders truths i d l =
    ap (λ vs. chosen_leaders vs truths) (take_more leaders i d l) ∙ (chosen_push (take i leaders) truths (get_or leaders i d)
    ∙ ap (λ n. chosen_leaders (take i leaders) truths ++ (if slice_index_or truths n false then get_or leaders i d ∷ [] else [])) (length-take-le i leaders (omega arith)))

pub chosen_all : (P : VarId → Type 0) (leaders : List VarId) (truths : List Bool) → All P leaders → All P (chosen_leaders leaders truths)
chosen_all P [] truths all = All-nil P
chosen_all P (v ∷ leaders) [] all = All-nil P
chosen_all P (v ∷ leaders) (t ∷ truths) all =
    let rest = chosen_all P leaders truths (All-tail P v leaders all) in
    elim t as (λ b. All P (if b then v ∷ chosen_leaders leaders truths else chosen_leaders leaders truths)) [ true ↦ All-cons P v (chosen_leaders leaders truths) (All-head P v leaders all) rest | false ↦ rest ]

chosen_ascends : (leaders : List VarId) (truths : List Bool) → VarsAscend leaders → VarsAscend (chosen_leaders leaders truths)
chosen_ascends [] truths up = up
chosen_ascends (v ∷ leaders) [] up = λ i j d l m. absurd (omega (arith, m))
chosen_ascends (v ∷ leaders) (t ∷ truths) up =
    let rest = chosen_ascends leaders truths (ascend_rest v leaders up) in
    elim t as (λ b. VarsAscend (if b then v ∷ chosen_leaders leaders truths else chosen_leaders leaders truths)) [
      | true ↦ AllPairs-cons (λ (a b : VarId). a.0 < b.0) v (chosen_leaders leaders truths) (chosen_all (λ w. v.0 < w.0) leaders truths (λ k d l. up 0 (suc k) d (omega arith) (omega (arith, l)))) rest
      | false ↦ rest
    ]

pub held_lead : (leaders : List VarId) (patterns : List Pattern) → All (λ h. All (Contains leaders) h.leaders) (map (held_of leaders) patterns)
held_lead leaders [] = All-nil (λ h. All (Contains leaders) h.leaders)
held_lead leaders (p ∷ patterns) =
    All-cons (λ h. All (Contains leaders) h.leaders) (held_of leaders p) (map (held_of leaders) patterns) (chosen_all (Contains leaders) leaders p.present (λ k d l. Contains-get_or leaders k d l)) (held_lead leaders patterns)

pub held_ascend : (leaders : List VarId) (patterns : List Pattern) → VarsAscend leaders → All (λ h. VarsAscend h.leaders) (map (held_of leaders) patterns)
held_ascend leaders [] up = All-nil (λ h. VarsAscend h.leaders)
held_ascend leaders (p ∷ patterns) up = All-cons (λ h. VarsAscend h.leaders) (held_of leaders p) (map (held_of leaders) patterns) (chosen_ascends leaders p.present up) (held_ascend leaders patterns up)

chosen_filter : (p : VarId → Bool) (leaders : List VarId) → chosen_leaders leaders (map p leaders) ≡ filter p leaders
chosen_filter p [] = refl
chosen_filter p (v ∷ leaders) = elim (p v) as (λ b. (if b then v ∷ chosen_leaders leaders (map p leaders) else chosen_leaders leaders (map p leaders)) ≡ cond b (v ∷ filter p leaders) (filter p leaders)) [
  | true ↦ ap (λ vs. v ∷ vs) (chosen_filter p leaders)
  | false ↦ chosen_filter p leaders
]

-- a pattern of present leaders comes back
held_back : (leaders : List VarId) → VarsAscend leaders → (h : Held) → VarsAscend h.leaders → All (Contains leaders) h.leaders → held_of leaders (pattern_of leaders h) ≡ h
held_back leaders up h own lead =
    let told : (v : VarId) → has (filter (has h.leaders) leaders) v ≡ has h.leaders v = λ v. has-filter (has h.leaders) leaders v ∙ elim (cases_Bool (has h.leaders v)) [
      | inl there ↦
          let c = contains-has h.leaders v there in
          let among : Contains leaders v = subst (Contains leaders) c.2 (lead c.0 v c.1) in
          ap (λ b. b && has h.leaders v) (has-contains leaders v among)
      | inr none ↦ ap (λ b. has leaders v && b) none ∙ (elim (has leaders v) as (λ b. (b && false) ≡ false) [ true ↦ refl | false ↦ refl ] ∙ sym none)
    ] in
    let back : chosen_leaders leaders (map (has h.leaders) leaders) ≡ h.leaders = chosen_filter (has h.leaders) leaders ∙ same_ascending (filter (has h.leaders) leaders) h.leaders (AllPairs-filter (λ (v w : VarId). v.0 < w.0) (has h.leaders) leaders up) own told in
    λ i. record { count = h.count; leaders = back i }

all_back : (leaders : List VarId) → VarsAscend leaders → (held : List Held) → All (λ h. VarsAscend h.leaders) held → All (λ h. All (Contains leaders) h.leaders) held → map (held_of leaders) (map (pattern_of leaders) held) ≡ held
all_back leaders up [] own lead = refl
all_back leaders up (h ∷ held) own lead =
    ap (λ k. k ∷ map (held_of leaders) (map (pattern_of leaders) held)) (held_back leaders up h (All-head (λ k. VarsAscend k.leaders) h held own) (All-head (λ k. All (Contains leaders) k.leaders) h held lead))
    ∙ ap (λ ks. h ∷ ks) (all_back leaders up held (All-tail (λ k. VarsAscend k.leaders) h held own) (All-tail (λ k. All (Contains leaders) k.leaders) h held lead))

-- ---- order
module _ {X : Type 0} (R : X → X → Ordering) where
  put_moves : (x : X) (ys : List X) → IsPermutation (x ∷ ys) (put R x ys)
  put_moves x [] = IsPermutation-refl (x ∷ [])
  put_moves x (y ∷ ys) = elim (is_gt (R x y)) as (λ b. IsPermutation (x ∷ y ∷ ys) (if b then y ∷ put R x ys else x ∷ y ∷ ys)) [
    | true ↦ IsPermutation-trans (x ∷ y ∷ ys) (y ∷ x ∷ ys) (y ∷ put R x ys)
        (IsPermutation-sym (y ∷ x ∷ ys) (x ∷ y ∷ ys) (IsPermutation-middle (y ∷ []) x ys)) (IsPermutation-cons y (x ∷ ys) (put R x ys) (put_moves x ys))
    | false ↦ IsPermutation-refl (x ∷ y ∷ ys)
  ]

  pub ascending_moves : (xs : List X) → IsPermutation xs (ascending R xs)
  ascending_moves [] = IsPermutation-refl []
  ascending_moves (x ∷ xs) = IsPermutation-trans (x ∷ xs) (x ∷ ascending R xs) (put R x (ascending R xs)) (IsPermutation-cons x xs (ascending R xs) (ascending_moves xs)) (put_moves x (ascending R xs))

-- any patterns that are saved as these are those that are read back, in some order
pub patterns_back : (leaders : List VarId) → VarsAscend leaders → (patterns : List Pattern) (held : List Held) → HavePatterns leaders patterns held → IsPermutation held (map (held_of leaders) patterns)
patterns_back leaders up patterns held have =
    subst (λ hs. IsPermutation hs (map (held_of leaders) patterns)) (all_back leaders up held have.form.ascend have.lead)
    (subst (λ ps. IsPermutation (map (held_of leaders) (map (pattern_of leaders) held)) (map (held_of leaders) ps)) have.saved
    (IsPermutation-map (held_of leaders) (map (pattern_of leaders) held) (patterns_of leaders held) (ascending_moves pattern_cmp (map (pattern_of leaders) held))))

-- what they meet in one order they meet in another
pub held_moved : (held others : List Held) → IsPermutation held others → AreHeld held → AreHeld others
held_moved held others moved are = record {
  once = IsDistinct-IsPermutation same_vars same_vars-sym (held_patterns held) (held_patterns others) (IsPermutation-map (λ (h : Held). h.leaders) held others moved) are.once;
  some = All-permutation (λ h. 0 < h.count) held others moved are.some;
  ascend = All-permutation (λ h. VarsAscend h.leaders) held others moved are.ascend;
}

pub patterns_moved : (leaders : List VarId) (held others : List Held) → IsPermutation held others → patterns_of leaders others ≡ patterns_of leaders held
patterns_moved leaders held others moved = same_patterns leaders others held (λ f. sum_by-IsPermutation f held others moved)

-- ---- what is found of constants
pub some_entries : (known : List Known) (found : Entries) → found ≡ map entry_of known → KnownAscend found → (r : Option Entries) → r ≡ Some found → (entries : Entries) → (r ≡ Some entries) ↔ HaveEntries known entries
some_entries known found is up r e entries = (
  λ f. let same = same_Some found entries (sym e ∙ f) in (subst KnownAscend same up, same_known known entries (sym same ∙ is)),
  λ have. e ∙ ap (λ es. Some es) (is ∙ same_entries known entries have.1),
)

pub no_entries : (known : List Known) (found : Entries) → found ≡ map entry_of known → (KnownAscend found → ⊥) → (r : Option Entries) → r ≡ None → (entries : Entries) → (r ≡ Some entries) ↔ HaveEntries known entries
no_entries known found is not r e entries = (
  λ f. absurd (none-some entries (sym e ∙ f)),
  λ have. absurd (not (subst KnownAscend (sym (is ∙ same_entries known entries have.1)) have.0)),
)

-- ---- what is found of patterns
module _ (leaders : List VarId) (up : VarsAscend leaders) (patterns : List Pattern) where
  abbrev found_held : List Held
  found_held = map (held_of leaders) patterns

  -- what any patterns that are saved like that say of these
  pub have_these : (held : List Held) → HavePatterns leaders patterns held → IsPermutation held found_held × AreHeld found_held
  have_these held have =
      let moved = patterns_back leaders up patterns held have in
      (moved, held_moved held found_held moved have.form)
