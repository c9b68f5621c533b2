-- The constants, the patterns and the slots in the compact form are those of the samples.
use Rattle.std.specs.Prelude.{◌≡◌, ◌<◌, ◌&&◌, ◌||◌, ◌++◌, ℕ, zero, suc, Bool, true, false, All, Contains, List, [], ◌∷◌, Option, Some, None, filter_map, if◌then◌else◌, length, option_map, option_to_list, refl}
use Rattle.std.specs.List.{IsDistinct, list_all}
use Rattle.std.proofs.Common.{◌∙◌, ap, arith, eqb, get_or, inl, inr, subst, sym}
use Rattle.std.proofs.lemmas.Bool.{cases_Bool, true≢false}
use Rattle.std.proofs.lemmas.List.Elements.{All-cons, All-head, All-nil, All-tail, filter_map-append}
use Rattle.std.proofs.lemmas.List.Kept.{AllPairs-filter}
use Rattle.dk_base.proofs.ValueTests.{same_value-decides}
use Rattle.dk_base.specs.Values.SameValues.{same_value}
use Rattle.dk_base.specs.declared.kinds.VarId.{VarId}
use Rattle.dk_base.specs.declared.kinds.VarInfo.{VarInfo}
use Rattle.dk_base.specs.declared.values.Value.{Value}
use Rattle.dk_classes.proofs.OwnLeaders.{own_ascend}
use Rattle.dk_classes.specs.Leaders.{own_leaders}
use Rattle.dk_constants.specs.Constants.{AreConstants, HasAlways}
use Rattle.dk_constants.specs.Known.{Entries, EntriesAscend, known_at, none_known}
use Rattle.dk_engine.proofs.SlotLists.{slots_of_fits_exact}
use Rattle.dk_engine.specs.Exact.{AreSlots, IsKeptOf}
use Rattle.dk_presence.proofs.Adding.{counted_added, times-cons, times-push}
use Rattle.dk_presence.proofs.Placing.{held_added}
use Rattle.dk_presence.proofs.Refining.{has-contains}
use Rattle.dk_presence.proofs.Sameness.{same_id}
use Rattle.dk_presence.specs.Patterns.{AreCounted, AreHeld, capped, has, held_patterns, patterns_of, present_in, same_vars}
use Rattle.dk_presence.specs.declared.held.Held.{Held}
use Rattle.dk_samples.specs.Leaders.{VarsAscend as LeadersAscend}
use Rattle.dk_samples.specs.Samples.{is_present, value_in}
use Rattle.dk_template.specs.declared.grammar.Grammar.{Grammar}
use Rattle.dk_state.specs.Compact.{compact_form_of, constants_in, held_in, leaders_in, one_value, slots_in}
use Rattle.dk_state.proofs.CompactLeaders.{leaders_exact}

-- ---- constants
one_of : {X Y : Type 0} (h : X → Option Y) (x : X) → filter_map h (x ∷ []) ≡ option_to_list (h x)
one_of {X} h x = elim (h x) as (λ d. filter_map (λ (_ : X). d) (x ∷ []) ≡ option_to_list d) [ Some y ↦ refl | None ↦ refl ]

cons_of : {X Y : Type 0} (h : X → Option Y) (x : X) (xs : List X) → filter_map h (x ∷ xs) ≡ option_to_list (h x) ++ filter_map h xs
cons_of h x xs = filter_map-append h (x ∷ []) xs ∙ ap (λ ys. ys ++ filter_map h xs) (one_of h x)

value-some : (x y : Value) → Some x ≡ Some y → x ≡ y
value-some x y e = cc

not_both : (o : Option Value) (x : Value) → o ≡ None → o ≡ Some x → ⊥
not_both o x e h = cc

all_same : (x : Value) (v : VarId) (ss : List (List Value)) → list_all (λ t. same_value (value_in t v) x) ss ≡ true → All (λ s. value_in s v ≡ x) ss
all_same x v [] h = All-nil (λ (s : List Value). value_in s v ≡ x)
all_same x v (s ∷ ss) h = elim (cases_Bool (same_value (value_in s v) x)) [
  | inl e ↦ All-cons (λ (s : List Value). value_in s v ≡ x) s ss ((same_value-decides (value_in s v) x).0 e) (all_same x v ss (sym (ap (λ b. b && list_all (λ t. same_value (value_in t v) x) ss) e) ∙ h))
  | inr n ↦ absurd (true≢false (sym h ∙ ap (λ b. b && list_all (λ t. same_value (value_in t v) x) ss) n))
]

same_all : (x : Value) (v : VarId) (ss : List (List Value)) → All (λ s. value_in s v ≡ x) ss → list_all (λ t. same_value (value_in t v) x) ss ≡ true
same_all x v [] all = refl
same_all x v (s ∷ ss) all =
    ap (λ b. b && list_all (λ t. same_value (value_in t v) x) ss) ((same_value-decides (value_in s v) x).1 (All-head (λ (s : List Value). value_in s v ≡ x) s ss all))
    ∙ same_all x v ss (All-tail (λ (s : List Value). value_in s v ≡ x) s ss all)

always_from : (samples : List (List Value)) (v : VarId) (x : Value) → one_value samples v ≡ Some x → HasAlways samples v x
always_from [] v x e = cc
always_from (s ∷ ss) v x e = elim (cases_Bool (list_all (λ t. same_value (value_in t v) (value_in s v)) ss)) [
  | inl h ↦
      let is : value_in s v ≡ x = value-some (value_in s v) x (sym (ap (λ b. if b then Some (value_in s v) else None) h) ∙ e) in
      record { some = omega arith; each = All-cons (λ (t : List Value). value_in t v ≡ x) s ss is (subst (λ y. All (λ t. value_in t v ≡ y) ss) is (all_same (value_in s v) v ss h)) }
  | inr n ↦ absurd (not_both (one_value (s ∷ ss) v) x (ap (λ b. if b then Some (value_in s v) else None) n) e)
]

always_back : (samples : List (List Value)) (v : VarId) (x : Value) → HasAlways samples v x → one_value samples v ≡ Some x
always_back [] v x h = let l = h.some in absurd (omega (arith, l))
always_back (s ∷ ss) v x h =
    let is : value_in s v ≡ x = All-head (λ (t : List Value). value_in t v ≡ x) s ss h.each in
    let all : list_all (λ t. same_value (value_in t v) (value_in s v)) ss ≡ true =
    subst (λ y. list_all (λ t. same_value (value_in t v) y) ss ≡ true) (sym is) (same_all x v ss (All-tail (λ (t : List Value). value_in t v ≡ x) s ss h.each))
    in
    ap (λ b. if b then Some (value_in s v) else None) all ∙ ap Some is

module _ (samples : List (List Value)) where
  entry : VarId → Option (VarId × Value)
  entry v = option_map (λ x. (v, x)) (one_value samples v)

  constants_cons : (w : VarId) (vs : List VarId) (r : Option Value) → one_value samples w ≡ r
      → constants_in samples (w ∷ vs) ≡ option_to_list (option_map (λ (x : Value). (w, x)) r) ++ constants_in samples vs
  constants_cons w vs r e = cons_of (λ v. option_map (λ (x : Value). (v, x)) (one_value samples v)) w vs ∙ ap (λ o. option_to_list (option_map (λ (x : Value). (w, x)) o) ++ constants_in samples vs) e

  -- what is known of a leader is its one value
  abbrev told : List VarId → VarId → Option Value
  told leaders v = if has leaders v then one_value samples v else None

  known_step : (w v : VarId) (vs : List VarId) → known_at (constants_in samples vs) v ≡ told vs v
      → (r : Option Value) → one_value samples w ≡ r → (b : Bool) → eqb w.0 v.0 ≡ b → known_at (constants_in samples (w ∷ vs)) v ≡ told (w ∷ vs) v
  known_step w v vs before (Some x) e true same =
      let one : one_value samples v ≡ Some x = ap (one_value samples) (sym (same_id w v same)) ∙ e in
      ap (λ es. known_at es v) (constants_cons w vs (Some x) e)
      ∙ (ap (λ b. if b then Some x else known_at (constants_in samples vs) v) same
      ∙ (sym one ∙ ap (λ b. if b || has vs v then one_value samples v else None) (sym same)))
  known_step w v vs before (Some x) e false same =
      ap (λ es. known_at es v) (constants_cons w vs (Some x) e)
      ∙ (ap (λ b. if b then Some x else known_at (constants_in samples vs) v) same
      ∙ (before ∙ ap (λ b. if b || has vs v then one_value samples v else None) (sym same)))
  known_step w v vs before None e true same =
      let one : one_value samples v ≡ None = ap (one_value samples) (sym (same_id w v same)) ∙ e in
      ap (λ es. known_at es v) (constants_cons w vs None e)
      ∙ (before ∙ (elim (has vs v) as (λ b. (if b then one_value samples v else None) ≡ one_value samples v) [ true ↦ refl | false ↦ sym one ]
      ∙ ap (λ b. if b || has vs v then one_value samples v else None) (sym same)))
  known_step w v vs before None e false same =
      ap (λ es. known_at es v) (constants_cons w vs None e)
      ∙ (before ∙ ap (λ b. if b || has vs v then one_value samples v else None) (sym same))

  known_is : (leaders : List VarId) (v : VarId) → known_at (constants_in samples leaders) v ≡ told leaders v
  known_is [] v = refl
  known_is (w ∷ vs) v = known_step w v vs (known_is vs v) (one_value samples w) refl (eqb w.0 v.0) refl

  later : (w v : VarId) (vs : List VarId) → Contains vs v → Contains (w ∷ vs) v
  later w v vs c = (suc c.0, omega (arith, c.1), c.2)

  abbrev OfLeaders : List VarId → Type 0
  OfLeaders leaders = (j : ℕ) → j < length (constants_in samples leaders) → Contains leaders (get_or (constants_in samples leaders) j none_known).0

  behind : (w : VarId) (x : Value) (vs : List VarId) → OfLeaders vs → (i : ℕ) → i < length ((w, x) ∷ constants_in samples vs) → Contains (w ∷ vs) (get_or ((w, x) ∷ constants_in samples vs) i none_known).0
  behind w x vs of zero m = (0, omega arith, refl)
  behind w x vs of (suc i) m = later w (get_or (constants_in samples vs) i none_known).0 vs (of i (omega (arith, m)))

  of_step : (w : VarId) (vs : List VarId) → OfLeaders vs → (r : Option Value) → one_value samples w ≡ r → OfLeaders (w ∷ vs)
  of_step w vs of (Some x) e j l =
      subst (λ (es : Entries). Contains (w ∷ vs) (get_or es j none_known).0) (sym (constants_cons w vs (Some x) e)) (behind w x vs of j (subst (λ (es : Entries). j < length es) (constants_cons w vs (Some x) e) l))
  of_step w vs of None e j l =
      subst (λ (es : Entries). Contains (w ∷ vs) (get_or es j none_known).0) (sym (constants_cons w vs None e))
      (later w (get_or (constants_in samples vs) j none_known).0 vs (of j (subst (λ (es : Entries). j < length es) (constants_cons w vs None e) l)))

  of_leaders : (leaders : List VarId) → OfLeaders leaders
  of_leaders [] = λ j l. absurd (omega (arith, l))
  of_leaders (w ∷ vs) = of_step w vs (of_leaders vs) (one_value samples w) refl

  ahead : (w : VarId) (x : Value) (vs : List VarId) → LeadersAscend (w ∷ vs) → EntriesAscend (constants_in samples vs) → EntriesAscend ((w, x) ∷ constants_in samples vs)
  ahead w x vs up rest zero zero l m = absurd (omega (arith, l))
  ahead w x vs up rest zero (suc j) l m =
      let c = of_leaders vs j (omega (arith, m)) in
      let there = c.1 in
      let e = ap (λ (v : VarId). v.0) c.2 in
      let u = up 0 (suc c.0) (get_or (constants_in samples vs) j none_known).0 (omega arith) (omega (arith, there)) in
      omega (arith, e, u)
  ahead w x vs up rest (suc i) zero l m = absurd (omega (arith, l))
  ahead w x vs up rest (suc i) (suc j) l m = rest i j (omega (arith, l)) (omega (arith, m))

  ascend_step : (w : VarId) (vs : List VarId) → LeadersAscend (w ∷ vs) → EntriesAscend (constants_in samples vs) → (r : Option Value) → one_value samples w ≡ r → EntriesAscend (constants_in samples (w ∷ vs))
  ascend_step w vs up rest (Some x) e = subst EntriesAscend (sym (constants_cons w vs (Some x) e)) (ahead w x vs up rest)
  ascend_step w vs up rest None e = subst EntriesAscend (sym (constants_cons w vs None e)) rest

  constants_ascend : (leaders : List VarId) → LeadersAscend leaders → EntriesAscend (constants_in samples leaders)
  constants_ascend [] up = λ i j l m. absurd (omega (arith, m))
  constants_ascend (w ∷ vs) up =
      ascend_step w vs up (constants_ascend vs (λ i j d l m. up (suc i) (suc j) d (omega (arith, l)) (omega (arith, m)))) (one_value samples w) refl

  contains-has : (vs : List VarId) (v : VarId) → has vs v ≡ true → Contains vs v
  contains-has [] v h = absurd (true≢false (sym h))
  contains-has (w ∷ vs) v h = elim (cases_Bool (eqb w.0 v.0)) [
    | inl e ↦ (0, omega arith, same_id w v e)
    | inr n ↦ later w v vs (contains-has vs v (sym (ap (λ b. b || has vs v) n) ∙ h))
  ]

  constants_exact : (leaders : List VarId) → LeadersAscend leaders → AreConstants leaders samples (constants_in samples leaders)
  constants_exact leaders up = record {
    ascend = constants_ascend leaders up;
    each = λ v x. (
      λ e. elim (cases_Bool (has leaders v)) [
        | inl h ↦ (contains-has leaders v h, always_from samples v x (sym (ap (λ b. if b then one_value samples v else None) h) ∙ (sym (known_is leaders v) ∙ e)))
        | inr n ↦ absurd (not_both (told leaders v) x (ap (λ b. if b then one_value samples v else None) n) (sym (known_is leaders v) ∙ e))
      ],
      λ c. known_is leaders v ∙ (ap (λ b. if b then one_value samples v else None) (has-contains leaders v c.0) ∙ always_back samples v x c.1),
    );
  }

-- ---- patterns
none_twice : IsDistinct same_vars (held_patterns [])
unfolding IsDistinct
none_twice = tt

held_form : (leaders : List VarId) (samples : List (List Value)) → LeadersAscend leaders → AreHeld (held_in leaders samples)
held_form leaders [] up = record { once = none_twice; some = All-nil (λ (h : Held). 0 < h.count); ascend = All-nil (λ (h : Held). LeadersAscend h.leaders) }
held_form leaders (s ∷ ss) up =
    held_added (present_in leaders s) (held_in leaders ss) (AllPairs-filter (λ (v w : VarId). v.0 < w.0) (λ v. is_present (value_in s v)) leaders up) (held_form leaders ss up)

held_counted : (leaders : List VarId) (samples : List (List Value)) → AreCounted (patterns_of leaders samples) (held_in leaders samples)
held_counted leaders [] pattern = refl
held_counted leaders (s ∷ ss) pattern =
    let patterns = patterns_of leaders ss in
    let p = present_in leaders s in
    let last = times-push pattern p patterns in
    let first = times-cons pattern p patterns in
    counted_added patterns (held_in leaders ss) p (held_counted leaders ss) pattern ∙ ap capped (omega (arith, last, first))

-- ---- slots
slots_exact : (g : Grammar) (infos : List VarInfo) (samples : List (List Value)) (leaders : List VarId) (known : Entries) → AreSlots g infos samples leaders known (slots_in g infos samples (own_leaders leaders) known)
slots_exact g infos [] leaders known = record {
  ascend = λ i j d l m. absurd (omega (arith, m));
  each = λ s. (λ h. absurd (omega (arith, h.1)), λ h. let l = h.some in absurd (omega (arith, l)));
}
slots_exact g infos (s ∷ ss) leaders known = slots_of_fits_exact g infos (s ∷ ss) (omega arith) leaders (own_ascend leaders) known

-- ---- all parts
pub kept_exact : (g : Grammar) (infos : List VarInfo) (samples : List (List Value)) → IsKeptOf g infos samples (compact_form_of g infos samples)
unfolding compact_form_of
kept_exact g infos samples =
    let leaders = leaders_in infos samples in
    let own = own_leaders leaders in
    record {
      number = refl;
      leaders = leaders_exact infos samples;
      known = constants_exact samples own (own_ascend leaders);
      held = record { form = held_form own samples (own_ascend leaders); counted = held_counted own samples };
      slots = slots_exact g infos samples leaders (constants_in samples own);
    }
