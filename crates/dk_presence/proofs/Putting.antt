-- New leaders that are put among ascending ones.
use Rattle.std.proofs.Common.{◌≡◌, ◌≢◌, ℕ, zero, suc, ◌+◌, ◌<◌, ◌≤◌, eqb, ◌⊎◌, inl, inr, List, [], ◌∷◌, ◌++◌, length, get_or, take, Bool, true, false, cond, ◌&&◌, ◌||◌, refl, ap, sym, ◌∙◌, subst, arith}
use Rattle.std.specs.Prelude.{nat_lt}
use Rattle.std.specs.List.{All, list_any}
use Rattle.std.proofs.lemmas.Bool.{cases_Bool, eqb-true, eq-eqb, false≢true, true≢false}
use Rattle.std.proofs.lemmas.Bool.Decides.{nat_tests}
use Rattle.std.proofs.lemmas.List.{get_or_default, take_more}
use Rattle.std.proofs.lemmas.List.Elements.{All-head, All-tail}
use Rattle.dk_base.specs.declared.kinds.VarId.{VarId}
use Rattle.dk_samples.specs.Leaders.{VarsAscend, old_of}
use Rattle.dk_presence.specs.Patterns.{has}
use Rattle.dk_presence.specs.Steps.{Differ, put, with_new}
use Rattle.dk_presence.proofs.Sameness.{above, ascend_rest, same_ascending, same_id}

or_swap : (a b c : Bool) → (a || (b || c)) ≡ (b || (a || c))
or_swap true true c = refl
or_swap true false c = refl
or_swap false true c = refl
or_swap false false c = refl

or_false : (a : Bool) → (a || false) ≡ a
or_false true = refl
or_false false = refl

-- a variable stands at its place
has-at : (vs : List VarId) (i : ℕ) (d : VarId) → i < length vs → has vs (get_or vs i d) ≡ true
has-at [] i d l = absurd (omega arith)
has-at (v ∷ vs) zero d l = ap (λ b. b || has vs v) (eq-eqb v.0 v.0 refl)
has-at (v ∷ vs) (suc i) d l = elim (eqb v.0 (get_or vs i d).0) as (λ b. (b || has vs (get_or vs i d)) ≡ true) [ true ↦ refl | false ↦ has-at vs i d (omega arith) ]

pub ascend_cons : (v : VarId) (vs : List VarId) → ((w : VarId) → has vs w ≡ true → v.0 < w.0) → VarsAscend vs → VarsAscend (v ∷ vs)
ascend_cons v vs low up zero zero d l m = absurd (omega arith)
ascend_cons v vs low up zero (suc j) d l m = low (get_or vs j d) (has-at vs j d (omega arith))
ascend_cons v vs low up (suc i) zero d l m = absurd (omega arith)
ascend_cons v vs low up (suc i) (suc j) d l m = up i j d (omega arith) (omega arith)

-- ---- one variable put
pub has-put : (v : VarId) (vs : List VarId) (w : VarId) → has (put v vs) w ≡ (eqb v.0 w.0 || has vs w)
has-put v [] w = refl
has-put v (u ∷ vs) w = elim (nat_lt v.0 u.0) as (λ b. has (cond b (v ∷ u ∷ vs) (u ∷ put v vs)) w ≡ (eqb v.0 w.0 || has (u ∷ vs) w)) [
  | true ↦ refl
  | false ↦ ap (λ b. eqb u.0 w.0 || b) (has-put v vs w) ∙ or_swap (eqb u.0 w.0) (eqb v.0 w.0) (has vs w)
]

pub ascend-put : (v : VarId) (vs : List VarId) → VarsAscend vs → has vs v ≡ false → VarsAscend (put v vs)
ascend-put v [] up off = ascend_cons v [] (λ w h. absurd (false≢true h)) up
ascend-put v (u ∷ vs) up off = elim (cases_Bool (nat_lt v.0 u.0)) [
  | inl lt ↦ subst VarsAscend (sym (ap (λ b. cond b (v ∷ u ∷ vs) (u ∷ put v vs)) lt))
      (let low : v.0 < u.0 = grind (arith, nat_tests, lt) in
      ascend_cons v (u ∷ vs) (λ w h. elim (cases_Bool (eqb u.0 w.0)) [
        | inl e ↦ subst (λ n. v.0 < n) (eqb-true u.0 w.0 e) low
        | inr n ↦ let later = above u vs up w (ap (λ b. b || has vs w) (sym n) ∙ h) in omega (arith, low, later)
      ]) up)
  | inr ge ↦ subst VarsAscend (sym (ap (λ b. cond b (v ∷ u ∷ vs) (u ∷ put v vs)) ge))
      (let apart : eqb u.0 v.0 ≡ false = first_off (eqb u.0 v.0) (has vs v) off in
      let off_rest : has vs v ≡ false = ap (λ b. b || has vs v) (sym apart) ∙ off in
      let low : u.0 < v.0 = grind (arith, nat_tests, ge, apart) in
      ascend_cons u (put v vs) (λ w h. elim (cases_Bool (eqb v.0 w.0)) [
        | inl e ↦ subst (λ n. u.0 < n) (eqb-true v.0 w.0 e) low
        | inr n ↦ above u vs up w (ap (λ b. b || has vs w) (sym n) ∙ (sym (has-put v vs w) ∙ h))
      ]) (ascend-put v vs (ascend_rest u vs up) off_rest))
]
  where
    first_off : (a b : Bool) → (a || b) ≡ false → a ≡ false
    first_off true b h = absurd (true≢false h)
    first_off false b h = refl

-- ---- all new leaders put
differ_first : (n : VarId × VarId) (new : List (VarId × VarId)) → Differ (n ∷ new) → (j : ℕ) (d : VarId × VarId) → j < length new → n.0.0 ≢ (get_or new j d).0.0
differ_first n new differ j d l = differ 0 (suc j) d (omega arith) (omega arith)

differ_rest : (n : VarId × VarId) (new : List (VarId × VarId)) → Differ (n ∷ new) → Differ new
differ_rest n new differ i j d l m = differ (suc i) (suc j) d (omega arith) (omega arith)

has-with_new : (new : List (VarId × VarId)) (leaders more : List VarId) (v : VarId) → has (with_new new leaders more) v ≡ (has more v || list_any (λ n. eqb n.0.0 v.0 && has leaders n.1) new)
has-with_new [] leaders more v = sym (or_false (has more v))
has-with_new (n ∷ new) leaders more v = elim (cases_Bool (has leaders n.1)) [
  | inl y ↦
      ap (λ b. has (with_new new leaders (cond b (put n.0 more) more)) v) y
      ∙ (has-with_new new leaders (put n.0 more) v
      ∙ (ap (λ b. b || list_any (λ m. eqb m.0.0 v.0 && has leaders m.1) new) (has-put n.0 more v)
      ∙ (turn (eqb n.0.0 v.0) (has more v) (list_any (λ m. eqb m.0.0 v.0 && has leaders m.1) new)
      ∙ ap (λ b. has more v || ((eqb n.0.0 v.0 && b) || list_any (λ m. eqb m.0.0 v.0 && has leaders m.1) new)) (sym y))))
  | inr off ↦
      ap (λ b. has (with_new new leaders (cond b (put n.0 more) more)) v) off
      ∙ (has-with_new new leaders more v
      ∙ (skip (eqb n.0.0 v.0) (has more v) (list_any (λ m. eqb m.0.0 v.0 && has leaders m.1) new)
      ∙ ap (λ b. has more v || ((eqb n.0.0 v.0 && b) || list_any (λ m. eqb m.0.0 v.0 && has leaders m.1) new)) (sym off)))
]
  where
    turn : (e m r : Bool) → ((e || m) || r) ≡ (m || ((e && true) || r))
    turn true true r = refl
    turn true false r = refl
    turn false true r = refl
    turn false false r = refl

    skip : (e m r : Bool) → (m || r) ≡ (m || ((e && false) || r))
    skip true m r = refl
    skip false m r = refl

-- no new leader is this variable
unborn : (leaders : List VarId) (new : List (VarId × VarId)) (v : ℕ) → ((j : ℕ) (d : VarId × VarId) → j < length new → v ≢ (get_or new j d).0.0) → list_any (λ n. eqb n.0.0 v && has leaders n.1) new ≡ false
unborn leaders [] v other = refl
unborn leaders (n ∷ new) v other =
    let apart : eqb n.0.0 v ≡ false = grind (arith, nat_tests, other 0 n (omega arith)) in
    ap (λ b. (b && has leaders n.1) || list_any (λ m. eqb m.0.0 v && has leaders m.1) new) apart ∙ unborn leaders new v (λ j d l. other (suc j) d (omega arith))

-- a variable is there now where its old leader was
pub has_now : (leaders : List VarId) (new : List (VarId × VarId)) → Differ new → All (λ n. has leaders n.0 ≡ false) new → (v : VarId) → has (with_new new leaders leaders) v ≡ has leaders (old_of new v)
has_now leaders new differ off v = has-with_new new leaders leaders v ∙ by new differ off
  where
    by : (new : List (VarId × VarId)) → Differ new → All (λ n. has leaders n.0 ≡ false) new → (has leaders v || list_any (λ n. eqb n.0.0 v.0 && has leaders n.1) new) ≡ has leaders (old_of new v)
    by [] differ off = or_false (has leaders v)
    by (n ∷ new) differ off = elim (cases_Bool (eqb n.0.0 v.0)) [
      | inl here ↦
          let is : n.0 ≡ v = same_id n.0 v here in
          let none : has leaders v ≡ false = ap (has leaders) (sym is) ∙ All-head (λ m. has leaders m.0 ≡ false) n new off in
          let rest : list_any (λ m. eqb m.0.0 v.0 && has leaders m.1) new ≡ false = unborn leaders new v.0 (λ j d l e. differ_first n new differ j d l (ap (λ (w : VarId). w.0) is ∙ e)) in
          ap (λ b. b || ((eqb n.0.0 v.0 && has leaders n.1) || list_any (λ m. eqb m.0.0 v.0 && has leaders m.1) new)) none
          ∙ (ap (λ b. (b && has leaders n.1) || list_any (λ m. eqb m.0.0 v.0 && has leaders m.1) new) here
          ∙ (ap (λ b. has leaders n.1 || b) rest ∙ (or_false (has leaders n.1) ∙ sym (ap (λ b. has leaders (cond b n.1 (old_of new v))) here))))
      | inr there ↦
          ap (λ b. has leaders v || ((b && has leaders n.1) || list_any (λ m. eqb m.0.0 v.0 && has leaders m.1) new)) there
          ∙ (by new (differ_rest n new differ) (All-tail (λ m. has leaders m.0 ≡ false) n new off) ∙ sym (ap (λ b. has leaders (cond b n.1 (old_of new v))) there))
    ]

-- they ascend
pub ascend_with : (new : List (VarId × VarId)) (leaders more : List VarId) → Differ new → All (λ n. has more n.0 ≡ false) new → VarsAscend more → VarsAscend (with_new new leaders more)
ascend_with [] leaders more differ off up = up
ascend_with (n ∷ new) leaders more differ off up =
    let rest = All-tail (λ m. has more m.0 ≡ false) n new off in
    elim (has leaders n.1) as (λ b. VarsAscend (with_new new leaders (cond b (put n.0 more) more))) [
      | true ↦ ascend_with new leaders (put n.0 more) (differ_rest n new differ)
          (λ k d l.
          let apart : eqb n.0.0 (get_or new k d).0.0 ≡ false = grind (arith, nat_tests, differ_first n new differ k d l) in
          has-put n.0 more (get_or new k d).0 ∙ (ap (λ b. b || has more (get_or new k d).0) apart ∙ rest k d l))
          (ascend-put n.0 more up (All-head (λ m. has more m.0 ≡ false) n new off))
      | false ↦ ascend_with new leaders more (differ_rest n new differ) rest up
    ]

-- a variable is new, or its own old one
pub new_cases : (new : List (VarId × VarId)) (v : VarId) → ((k : ℕ) × (k < length new) × ((d : VarId × VarId) → (get_or new k d).0 ≡ v)) ⊎ (old_of new v ≡ v)
new_cases [] v = inr refl
new_cases (n ∷ new) v = elim (cases_Bool (eqb n.0.0 v.0)) [
  | inl here ↦ inl (0, omega arith, λ d. same_id n.0 v here)
  | inr there ↦ elim (new_cases new v) [
    | inl found ↦ inl (suc found.0, omega (arith, found.1), found.2)
    | inr none ↦ inr (ap (λ b. cond b n.1 (old_of new v)) there ∙ none)
  ]
]

-- leaders without new ones can be read from those with them
pub same_before : (new : List (VarId × VarId)) → Differ new → (a b : List VarId) → VarsAscend a → VarsAscend b → All (λ n. has a n.0 ≡ false) new → All (λ n. has b n.0 ≡ false) new → with_new new a a ≡ with_new new b b → a ≡ b
same_before new differ a b up on off_a off_b same = same_ascending a b up on (λ v. elim (new_cases new v) [
  | inl found ↦
      let d : VarId × VarId = (v, v) in
      let is = found.2 d in
      ap (has a) (sym is) ∙ (off_a found.0 d found.1 ∙ sym (ap (has b) (sym is) ∙ off_b found.0 d found.1))
  | inr own ↦ sym (has_now a new differ off_a v ∙ ap (has a) own) ∙ (ap (λ xs. has xs v) same ∙ (has_now b new differ off_b v ∙ ap (has b) own))
])

with_new-push : (new : List (VarId × VarId)) (n : VarId × VarId) (leaders more : List VarId) → with_new (new ++ n ∷ []) leaders more ≡ cond (has leaders n.1) (put n.0 (with_new new leaders more)) (with_new new leaders more)
with_new-push [] n leaders more = refl
with_new-push (m ∷ new) n leaders more = with_new-push new n leaders (cond (has leaders m.1) (put m.0 more) more)

-- one new leader more
pub with_more : (new : List (VarId × VarId)) (leaders more : List VarId) (i : ℕ) (d : VarId × VarId) → i < length new → more ≡ with_new (take i new) leaders leaders → with_new (take (i + 1) new) leaders leaders ≡ cond (has leaders (get_or new i d).1) (put (get_or new i d).0 more) more
with_more new leaders more i d l is =
    ap (λ xs. with_new xs leaders leaders) (take_more new i d l) ∙ (with_new-push (take i new) (get_or new i d) leaders leaders
    ∙ ap (λ m. cond (has leaders (get_or new i d).1) (put (get_or new i d).0 m) m) (sym is))

-- the later ones stay absent
pub off_more : (new : List (VarId × VarId)) → Differ new → (more : List VarId) (i : ℕ) (e : VarId × VarId) → i < length new → ((k : ℕ) (d : VarId × VarId) → i ≤ k → k < length new → has more (get_or new k d).0 ≡ false)
    → (k : ℕ) (d : VarId × VarId) → i + 1 ≤ k → k < length new → has (put (get_or new i e).0 more) (get_or new k d).0 ≡ false
off_more new differ more i e l off k d le m =
    let apart : eqb (get_or new i e).0.0 (get_or new k d).0.0 ≡ false = grind (arith, nat_tests, differ i k e (omega arith) m, ap (λ (n : VarId × VarId). n.0.0) (get_or_default new k e d m)) in
    has-put (get_or new i e).0 more (get_or new k d).0 ∙ (ap (λ b. b || has more (get_or new k d).0) apart ∙ off k d (omega arith) m)
