-- The text of an instance tells its state, but for a hash code that isn't null.
use Rattle.std.specs.Prelude.{◌≡◌, ◌==◌, ◌&&◌, ◌<◌, ℕ, ℤ, pos, All, Bool, IsTrue, true, false, List, [], ◌∷◌, length, map, unsigned_abs, if◌then◌else◌, refl}
use Rattle.std.specs.Fmt.{signed_decimal}
use Rattle.std.specs.List.{list_all, list_any}
use Rattle.std.proofs.Common.{◌∙◌, ap, arith, get_or, inl, inr, subst, sym}
use Rattle.std.proofs.lemmas.Bool.{and_parts, cases_lt, eqb-true, false≢true}
use Rattle.std.proofs.lemmas.List.{length-map}
use Rattle.std.proofs.lemmas.List.Elements.{All-cons, All-nil, All-weaker}
use Rattle.dk_base.specs.Values.Items.{is_text}
use Rattle.dk_base.specs.Numbers.{fits_i64}
use Rattle.dk_base.specs.declared.kinds.VarId.{VarId}
use Rattle.dk_base.specs.declared.kinds.VarInfo.{VarInfo}
use Rattle.dk_instances.specs.Instances.{Precedes}
use Rattle.dk_forms.specs.declared.states.State.{State}
use Rattle.dk_forms.specs.declared.states.State.TheVariants as state
use Rattle.dk_print.specs.Parts.{Part, bound, values, null_or, remainder, modulus, lead, term, constant, step, bound_in, code_in, constant_term_in, factor_at, known_text, modulus_in, offset_in, remainder_in, text_by}
use Rattle.dk_print.proofs.Alike.{numbers, passes, row}
use Rattle.dk_print.specs.Texts.{instance_text, var_names, parts_of_row, row_text, row_texts}
use Rattle.dk_template.specs.Proper.{IsProper}
use Rattle.dk_template.specs.Fitting.{fits}
use Rattle.dk_template.specs.Templates.{IsRow, arity_of, form_of, rows}
use Rattle.dk_template.specs.declared.grammar.RowId.{RowId}
use Rattle.dk_template.specs.declared.templates.StateForm.{StateForm}
use Rattle.dk_template.specs.declared.templates.StateForm.TheVariants as form
use Rattle.dk_expr.specs.Following.{IsSmall}
use Rattle.dk_expr.specs.Laws.{TextsReadBack}
use Rattle.dk_expr.specs.Readable.{are_ended}
use Rattle.dk_expr.specs.Reads.{HasText, IsFirst, told_state}
use Rattle.dk_expr.specs.Valued.{IsValueText}
use Rattle.dk_expr.proofs.Foundings.{tells_bound, tells_code, tells_constant, tells_factor, tells_modulus, tells_offset, tells_remainder, tells_values}
use Rattle.dk_expr.proofs.SameNumbers.{same_signed}
use Rattle.dk_expr.proofs.SameParts.{TellsSame, are_joined, joined_at, same_by}
use Rattle.dk_expr.proofs.Shapes.{Shape, shape_of}
use Rattle.dk_expr.proofs.Small.{small_of, small_whole}
use Rattle.dk_expr.proofs.Told.{arity, ended, is_row, line_above, plane_above, readable, tell}
use Rattle.dk_expr.proofs.ValueTexts.{number_texts, number_value, same_values, string_value}

-- ---- values
ints_are_values : (ks : List ℤ) → IsTrue (list_all fits_i64 ks) → All IsValueText (map signed_decimal ks)
ints_are_values [] h = All-nil IsValueText
ints_are_values (k ∷ ks) h =
    let both = and_parts (fits_i64 k) (list_all fits_i64 ks) h in
    All-cons IsValueText (signed_decimal k) (map signed_decimal ks) (number_value k (small_whole k both.0)) (ints_are_values ks both.1)

same_ints : (ks ls : List ℤ) → IsTrue (list_all fits_i64 ks) → IsTrue (list_all fits_i64 ls) → map signed_decimal ks ≡ map signed_decimal ls → ks ≡ ls
same_ints [] [] p q e = refl
same_ints [] (l ∷ ls) p q e = cc
same_ints (k ∷ ks) [] p q e = cc
same_ints (k ∷ ks) (l ∷ ls) p q e =
    let x = and_parts (fits_i64 k) (list_all fits_i64 ks) p in
    let y = and_parts (fits_i64 l) (list_all fits_i64 ls) q in
    let heads : signed_decimal k ≡ signed_decimal l = cc in
    let tails : map signed_decimal ks ≡ map signed_decimal ls = cc in
    let first = same_signed k l (small_whole k x.0) (small_whole l y.0) heads in
    let rest = same_ints ks ls x.1 y.1 tails in
    λ i. first i ∷ rest i

length_texts : (ks : List ℤ) → length (map signed_decimal ks) ≡ length ks
length_texts ks = length-map ks signed_decimal

same_known_ints : (ks ls : List ℤ) → IsTrue (list_all fits_i64 ks) → IsTrue (list_all fits_i64 ls) → 0 < length ks → 0 < length ls → known_text (state.Ints ks) ≡ known_text (state.Ints ls) → ks ≡ ls
same_known_ints ks ls p q x y e =
    same_ints ks ls p q
    (same_values (map signed_decimal ks) (map signed_decimal ls) (ints_are_values ks p) (ints_are_values ls q)
    (subst (λ n. 0 < n) (sym (length_texts ks)) x) (subst (λ n. 0 < n) (sym (length_texts ls)) y)
    (sym (number_texts ks) ∙ e ∙ number_texts ls))

same_known_texts : (ts us : List (List ℕ)) → All (λ t. IsTrue (is_text t)) ts → All (λ t. IsTrue (is_text t)) us → 0 < length ts → 0 < length us → known_text (state.Texts ts) ≡ known_text (state.Texts us) → ts ≡ us
same_known_texts ts us p q x y e =
    same_values ts us (All-weaker (λ t. IsTrue (is_text t)) IsValueText string_value ts p) (All-weaker (λ t. IsTrue (is_text t)) IsValueText string_value us q) x y e

same_truth : (b c : Bool) → known_text (state.Truth b) ≡ known_text (state.Truth c) → b ≡ c
same_truth true true e = refl
same_truth false false e = refl
same_truth true false e = absurd (false≢true (ap (λ l. get_or l 4 0 == 102) e))
same_truth false true e = absurd (false≢true (ap (λ l. get_or l 4 0 == 116) e))

line_up : (a b c : ℤ) → IsProper form.Line (state.Straight a b c) → IsTrue (fits (state.Straight a b c)) → pos (unsigned_abs a) ≡ a
line_up a b c p f = line_above a b p.normal.sign (and_parts _ _ f).0

plane_up : (a b c d : ℤ) → IsProper form.Plane (state.Plane a b c d) → IsTrue (fits (state.Plane a b c d)) → pos (unsigned_abs a) ≡ a
plane_up a b c d p f = plane_above a b c p.normal.sign (and_parts _ _ f).0

abbrev var : ℕ → VarId
var n = record { 0 = n }

told_code : (h k : ℕ) → (h == 0) ≡ (k == 0) → told_state (state.Code h) ≡ told_state (state.Code k)
told_code h k e = ap (λ b. if b then state.Code 0 else state.Empty) e

-- ---- lines and planes
-- the first term, and the term at a role
leads : Part → Bool
leads (lead role) = role == 0
leads p = false

terms : ℕ → Part → Bool
terms k (term role) = role == k
terms k p = false

-- the parts tell the factors of lines and planes so
lined : StateForm → List Part → Bool
lined form.Line ps = list_any leads ps && list_any (terms 1) ps
lined form.Plane ps = list_any leads ps && (list_any (terms 1) ps && list_any (terms 2) ps)
lined f ps = true

all_lined : list_all (λ n. lined (form_of (row n)) (parts_of_row (row n))) numbers ≡ true
unfolding lined leads terms numbers row_texts rows
all_lined = refl

lined_at : (r : RowId) → IsRow r → lined (form_of r) (parts_of_row r) ≡ true
lined_at r is = passes (λ n. lined (form_of (row n)) (parts_of_row (row n))) all_lined r.0 is.0 is.1

-- ---- a state
module _ (names : List (List ℕ)) (n : ℕ) (ps : List Part) (ends : are_ended n ps ≡ true) (joins : are_joined ps ≡ true) where
  module _ (s t : State) (small : IsSmall s) (other : IsSmall t) (e : text_by ps names s ≡ text_by ps names t) where
    -- what one kind of part tells
    same_for : (sets : Part → Bool) (q : Type 0) → ((p : Part) → sets p ≡ true → TellsSame names s t small other n p → q) → list_any sets ps ≡ true → q
    same_for sets q tells any = same_by names s t small other n sets q tells ps ends joins e any

    by_bound : (p : Part) → tells_bound p ≡ true → TellsSame names s t small other n p → bound_in s ≡ bound_in t
    by_bound bound h k = k
    by_bound p h k = absurd (false≢true h)

    by_remainder : (p : Part) → tells_remainder p ≡ true → TellsSame names s t small other n p → remainder_in s ≡ remainder_in t
    by_remainder remainder h k = k
    by_remainder p h k = absurd (false≢true h)

    by_modulus : (p : Part) → tells_modulus p ≡ true → TellsSame names s t small other n p → modulus_in s ≡ modulus_in t
    by_modulus modulus h k = k
    by_modulus p h k = absurd (false≢true h)

    by_constant : (p : Part) → tells_constant p ≡ true → TellsSame names s t small other n p → constant_term_in s ≡ constant_term_in t
    by_constant constant h k = k
    by_constant p h k = absurd (false≢true h)

    by_offset : (p : Part) → tells_offset p ≡ true → TellsSame names s t small other n p → offset_in s ≡ offset_in t
    by_offset step h k = k
    by_offset p h k = absurd (false≢true h)

    by_values : (p : Part) → tells_values p ≡ true → TellsSame names s t small other n p → known_text s ≡ known_text t
    by_values values h k = k
    by_values p h k = absurd (false≢true h)

    by_code : (p : Part) → tells_code p ≡ true → TellsSame names s t small other n p → (code_in s == 0) ≡ (code_in t == 0)
    by_code (null_or bytes) h k = k
    by_code p h k = absurd (false≢true h)

    by_lead : pos (unsigned_abs (factor_at s 0)) ≡ factor_at s 0 → pos (unsigned_abs (factor_at t 0)) ≡ factor_at t 0
        → (p : Part) → leads p ≡ true → TellsSame names s t small other n p → factor_at s 0 ≡ factor_at t 0
    unfolding leads
    by_lead x y (lead role) h k =
        let first : role ≡ 0 = eqb-true role 0 h in
        sym x ∙ ap pos (subst (λ r. unsigned_abs (factor_at s r) ≡ unsigned_abs (factor_at t r)) first k) ∙ y
    by_lead x y p h k = absurd (false≢true h)

    by_term : (j : ℕ) (p : Part) → terms j p ≡ true → TellsSame names s t small other n p → factor_at s j ≡ factor_at t j
    unfolding terms
    by_term j (term role) h k = subst (λ r. factor_at s r ≡ factor_at t r) (eqb-true role j h) k
    by_term j p h k = absurd (false≢true h)

  -- two states with one text
  abbrev Same : State → State → Type 0
  Same s t = IsSmall s → IsSmall t → text_by ps names s ≡ text_by ps names t → told_state s ≡ told_state t

  both_so : (s t u w : State) → s ≡ u → t ≡ w → Same u w → Same s t
  both_so s t u w e f h = subst (λ x. Same x t) (sym e) (subst (λ y. Same u y) (sym f) h)

  same_state : (form : StateForm) (s t : State) → tell form ps ≡ true → lined form ps ≡ true → Shape form s → Shape form t → IsProper form s → IsProper form t → IsTrue (fits s) → IsTrue (fits t) → Same s t
  unfolding lined
  same_state form.Plain s t told line a b p q f g = both_so s t state.Holds state.Holds a b (λ x y e. refl)
  same_state form.Least s t told line a b p q f g =
      both_so s t (state.Least a.0) (state.Least b.0) a.1 b.1 (λ x y e. ap (λ k. state.Least k) (same_for (state.Least a.0) (state.Least b.0) x y e tells_bound _ (by_bound (state.Least a.0) (state.Least b.0) x y e) told))
  same_state form.Greatest s t told line a b p q f g =
      both_so s t (state.Greatest a.0) (state.Greatest b.0) a.1 b.1 (λ x y e. ap (λ k. state.Greatest k) (same_for (state.Greatest a.0) (state.Greatest b.0) x y e tells_bound _ (by_bound (state.Greatest a.0) (state.Greatest b.0) x y e) told))
  same_state form.Ints s t told line a b p q f g =
      both_so s t (state.Ints a.0) (state.Ints b.0) a.1 b.1
      (λ x y e. ap (λ ks. state.Ints ks) (same_known_ints a.0 b.0 a.2 b.2 a.3 b.3 (same_for (state.Ints a.0) (state.Ints b.0) x y e tells_values _ (by_values (state.Ints a.0) (state.Ints b.0) x y e) told)))
  same_state form.Truth s t told line a b p q f g =
      both_so s t (state.Truth a.0) (state.Truth b.0) a.1 b.1
      (λ x y e. ap (λ v. state.Truth v) (same_truth a.0 b.0 (same_for (state.Truth a.0) (state.Truth b.0) x y e tells_values _ (by_values (state.Truth a.0) (state.Truth b.0) x y e) told)))
  same_state form.Code s t told line a b p q f g =
      both_so s t (state.Code a.0) (state.Code b.0) a.1 b.1
      (λ x y e. told_code a.0 b.0 (same_for (state.Code a.0) (state.Code b.0) x y e tells_code _ (by_code (state.Code a.0) (state.Code b.0) x y e) told))
  same_state form.Texts s t told line a b p q f g =
      both_so s t (state.Texts a.0) (state.Texts b.0) a.1 b.1
      (λ x y e. ap (λ ts. state.Texts ts) (same_known_texts a.0 b.0 a.2 b.2 a.3 b.3 (same_for (state.Texts a.0) (state.Texts b.0) x y e tells_values _ (by_values (state.Texts a.0) (state.Texts b.0) x y e) told)))
  same_state form.Modulus s t told line a b p q f g =
      let both = and_parts (list_any tells_modulus ps) (list_any tells_remainder ps) told in
      let u = state.Modulus a.0 a.1 in
      let w = state.Modulus b.0 b.1 in
      both_so s t u w a.2 b.2
      (λ x y e. ap (λ m. state.Modulus m a.1) (same_for u w x y e tells_modulus _ (by_modulus u w x y e) both.0) ∙ ap (λ r. state.Modulus b.0 r) (same_for u w x y e tells_remainder _ (by_remainder u w x y e) both.1))
  same_state form.Line s t told line a b p q f g =
      let all = and_parts (list_any (tells_factor 0) ps) _ told in
      let rest = and_parts (list_any (tells_factor 1) ps) (list_any tells_constant ps) all.1 in
      let lines = and_parts (list_any leads ps) (list_any (terms 1) ps) line in
      let u = state.Straight a.0 a.1 a.2 in
      let w = state.Straight b.0 b.1 b.2 in
      let up = line_up a.0 a.1 a.2 (subst (λ z. IsProper form.Line z) a.3 p) (subst (λ z. IsTrue (fits z)) a.3 f) in
      let down = line_up b.0 b.1 b.2 (subst (λ z. IsProper form.Line z) b.3 q) (subst (λ z. IsTrue (fits z)) b.3 g) in
      both_so s t u w a.3 b.3
      (λ x y e.
      ap (λ k. state.Straight k a.1 a.2) (same_for u w x y e leads _ (by_lead u w x y e up down) lines.0)
      ∙ ap (λ k. state.Straight b.0 k a.2) (same_for u w x y e (terms 1) _ (by_term u w x y e 1) lines.1)
      ∙ ap (λ k. state.Straight b.0 b.1 k) (same_for u w x y e tells_constant _ (by_constant u w x y e) rest.1))
  same_state form.Plane s t told line a b p q f g =
      let all = and_parts (list_any (tells_factor 0) ps) _ told in
      let rest = and_parts (list_any (tells_factor 1) ps) _ all.1 in
      let last = and_parts (list_any (tells_factor 2) ps) (list_any tells_constant ps) rest.1 in
      let lines = and_parts (list_any leads ps) _ line in
      let others = and_parts (list_any (terms 1) ps) (list_any (terms 2) ps) lines.1 in
      let u = state.Plane a.0 a.1 a.2 a.3 in
      let w = state.Plane b.0 b.1 b.2 b.3 in
      let up = plane_up a.0 a.1 a.2 a.3 (subst (λ z. IsProper form.Plane z) a.4 p) (subst (λ z. IsTrue (fits z)) a.4 f) in
      let down = plane_up b.0 b.1 b.2 b.3 (subst (λ z. IsProper form.Plane z) b.4 q) (subst (λ z. IsTrue (fits z)) b.4 g) in
      both_so s t u w a.4 b.4
      (λ x y e.
      ap (λ k. state.Plane k a.1 a.2 a.3) (same_for u w x y e leads _ (by_lead u w x y e up down) lines.0)
      ∙ ap (λ k. state.Plane b.0 k a.2 a.3) (same_for u w x y e (terms 1) _ (by_term u w x y e 1) others.0)
      ∙ ap (λ k. state.Plane b.0 b.1 k a.3) (same_for u w x y e (terms 2) _ (by_term u w x y e 2) others.1)
      ∙ ap (λ k. state.Plane b.0 b.1 b.2 k) (same_for u w x y e tells_constant _ (by_constant u w x y e) last.1))
  same_state form.Offset s t told line a b p q f g =
      both_so s t (state.Offset a.0) (state.Offset b.0) a.1 b.1 (λ x y e. ap (λ k. state.Offset k) (same_for (state.Offset a.0) (state.Offset b.0) x y e tells_offset _ (by_offset (state.Offset a.0) (state.Offset b.0) x y e) told))

-- ---- an instance with two states
told_once : (infos : List VarInfo) (text : List ℕ) (r : RowId) (vars : List VarId) (s t : State) → HasText infos text r vars s → HasText infos text r vars t → told_state s ≡ told_state t
unfolding row_text
told_once infos text r vars s t a b =
    same_state (var_names infos vars) (length vars) (parts_of_row r) (ended infos text r vars s a) (joined_at r (is_row infos text r vars s a))
    (form_of r) s t (readable r (is_row infos text r vars s a)).told (lined_at r (is_row infos text r vars s a))
    (shape_of (form_of r) s a.proper a.holds a.held) (shape_of (form_of r) t b.proper b.holds b.held)
    a.proper b.proper a.holds b.holds
    (small_of (form_of r) s a.proper a.holds a.held) (small_of (form_of r) t b.proper b.holds b.held)
    (a.prints ∙ sym b.prints)

-- ---- the first instance
-- one of two tuples of one length precedes, or they are the same
in_order : (vs ws : List VarId) → length vs ≡ length ws → (Precedes vs ws → ⊥) → (Precedes ws vs → ⊥) → vs ≡ ws
in_order [] [] long h k = refl
in_order [] (w ∷ ws) long h k = absurd (omega (arith, long))
in_order (v ∷ vs) [] long h k = absurd (omega (arith, long))
in_order (v ∷ vs) (w ∷ ws) long h k =
    let e : v.0 ≡ w.0 = elim (cases_lt v.0 w.0) as (λ _. v.0 ≡ w.0) [
      | inl l ↦ absurd (h (inl l))
      | inr m ↦ elim (cases_lt w.0 v.0) as (λ _. v.0 ≡ w.0) [ inl l ↦ absurd (k (inl l)) | inr l ↦ omega (arith, l, m) ]
    ] in
    let first : v ≡ w = ap var e in
    let rest = in_order vs ws (omega (arith, long)) (λ p. h (inr (e, p))) (λ p. k (inr (sym e, p))) in
    λ i. first i ∷ rest i

one_instance : (infos : List VarInfo) (text : List ℕ) (r q : RowId) (vars others : List VarId) (s t : State) → HasText infos text r vars s → HasText infos text q others t
    → IsFirst infos text r vars → IsFirst infos text q others → (r ≡ q) × (vars ≡ others)
one_instance infos text r q vars others s t a b first second =
    let e : r.0 ≡ q.0 = elim (cases_lt r.0 q.0) as (λ _. r.0 ≡ q.0) [
      | inl l ↦ absurd (second r vars s a (inl l))
      | inr m ↦ elim (cases_lt q.0 r.0) as (λ _. r.0 ≡ q.0) [ inl l ↦ absurd (first q others t b (inl l)) | inr l ↦ omega (arith, l, m) ]
    ] in
    let same : r ≡ q = ap row e in
    let long : length vars ≡ length others = arity infos text r vars s a ∙ ap arity_of same ∙ sym (arity infos text q others t b) in
    (same, in_order vars others long (λ p. second r vars s a (inr (same, p))) (λ p. first q others t b (inr (sym same, p))))

pub texts_read_back : TextsReadBack
texts_read_back infos r vars s read a first is =
    let text = instance_text infos r vars s in
    let same = one_instance infos text r read.row vars read.vars s is.printed a is.has first is.first in
    let told = told_once infos text read.row read.vars s is.printed (subst (λ v. HasText infos text read.row v s) same.1 (subst (λ q. HasText infos text q vars s) same.0 a)) is.has in
    let state = is.tells ∙ sym told in
    λ i. record { row = sym same.0 i; vars = sym same.1 i; state = state i }
