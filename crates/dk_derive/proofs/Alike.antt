-- Partners are alike.
use Rattle.std.proofs.Common.{◌≡◌, ◌∙◌, ◌==◌, ◌+◌, ◌++◌, ◌&&◌, ℕ, zero, suc, Bool, true, false, not, cond, nat_le, nat_lt, All, List, [], ◌∷◌, length, map, position, Option, Some, None, IsSomeAnd, option_and_then, slice_get, take, if◌then◌else◌, refl, sym, ap, subst, arith}
use Rattle.std.proofs.lemmas.Bool.Decides.{nat_tests}
use Rattle.std.proofs.lemmas.List.Elements.{All-append, All-cons, All-head, All-map, All-nil, All-tail}
use Rattle.std.proofs.lemmas.Option.{get_or_from_slice_get, slice_get_within}
use Rattle.std.specs.Bool.{beq}
use Rattle.std.specs.List.{enumerate_from, flat_map, position_or_len}
use Rattle.std.specs.Option.{option_map_or}
use Rattle.dk_base.specs.Shapes.{Shape, by_index, element_kind, is_base_form, is_int, is_orig, is_sequence, of_sequence, shape_of, var}
use Rattle.dk_base.specs.declared.kinds.Form.{Form}
use Rattle.dk_base.specs.declared.kinds.Form.TheVariants as form
use Rattle.dk_base.specs.declared.kinds.Kind.{Kind}
use Rattle.dk_base.specs.declared.kinds.Kind.TheVariants as kind
use Rattle.dk_base.specs.declared.kinds.VarId.{VarId}
use Rattle.dk_base.specs.declared.kinds.VarInfo.{VarInfo}
use Rattle.dk_graph.specs.declared.nodes.Edge.{Edge}
use Rattle.dk_points.proofs.BaseForms.{base-vars-are}
use Rattle.dk_points.proofs.SameValues.{kind-same}
use Rattle.dk_points.specs.Laws.{IsBaseVar}
use Rattle.dk_points.specs.Partners.{is_like, partner_in, partner_of}
use Rattle.dk_points.specs.Table.{Point}
use Rattle.dk_points.specs.Vars.{base_vars, same_kind, vars_of}
use Rattle.dk_derive.proofs.Deriving.{all_pushed, base_form, five, three}
use Rattle.dk_derive.proofs.Numbers.{IsThere, there_all}
use Rattle.dk_derive.proofs.Parts.{Each, all_flat_map, all_of}
use Rattle.dk_derive.specs.Laws.{IsAlike, PartnersAreAlike, all_vars_of}
use Rattle.dk_derive.specs.Partners.{form_through, number_of_form, partner_by_form, partner_with_derived, place_of_form, same_form, with_one, with_two}
use Rattle.dk_derive.specs.Vars.{bases_of, derived_var, var_at, with_derived_vars}

-- ---- options, places and tests

bound : {A B : Type 0} (f : A → Option B) (o : Option A) (y : B) → option_and_then f o ≡ Some y → (x : A) × ((o ≡ Some x) × (f x ≡ Some y))
bound f None y h = absurd (cc h)
bound f (Some x) y h = (x, (refl, h))

first : (a b : Bool) → (a && b) ≡ true → a ≡ true
first true b h = refl
first false b h = h

second : (a b : Bool) → (a && b) ≡ true → b ≡ true
second true b h = h
second false b h = absurd (cc h)

all_at : {A : Type 0} (P : A → Type 0) (xs : List A) (k : ℕ) (x : A) → All P xs → slice_get xs k ≡ Some x → P x
all_at P xs k x all h = subst P (get_or_from_slice_get xs k x x h) (all k x (slice_get_within xs k x h))

abbrev IsFound : {A : Type 0} → (A → Bool) → List A → ℕ → Type 0
IsFound {A} p xs k = (x : A) × ((slice_get xs k ≡ Some x) × (p x ≡ true))

at_first : {A : Type 0} (p : A → Bool) (xs : List A) → nat_lt (position_or_len p xs) (length xs) ≡ true → IsFound p xs (position_or_len p xs)
at_first p [] h = absurd (cc h)
at_first p (x ∷ xs) h = go (p x) refl h (at_first p xs)
  where
    go : (b : Bool) → p x ≡ b → nat_lt (cond (not b) (1 + position_or_len p xs) 0) (suc (length xs)) ≡ true
        → (nat_lt (position_or_len p xs) (length xs) ≡ true → IsFound p xs (position_or_len p xs)) → IsFound p (x ∷ xs) (cond (not b) (1 + position_or_len p xs) 0)
    go true e h rest = (x, (refl, e))
    go false e h rest =
        let m = position_or_len p xs in
        let one : 1 + m ≡ suc m = omega arith in
        let below : nat_lt m (length xs) ≡ true = grind (arith, nat_tests, h) in
        let P : ℕ → Type 0 = λ k. IsFound p (x ∷ xs) k in
        let r = rest below in
        subst P (sym one) (r.0, (r.1.0, r.1.1))

found : {A : Type 0} (p : A → Bool) (xs : List A) (k : ℕ) → position p xs ≡ Some k → IsFound p xs k
found p xs k h = go (nat_lt (position_or_len p xs) (length xs)) refl h
  where
    go : (b : Bool) → nat_lt (position_or_len p xs) (length xs) ≡ b → cond b (Some (position_or_len p xs)) None ≡ Some k → IsFound p xs k
    go true e h =
        let same : position_or_len p xs ≡ k = cc h in
        let P : ℕ → Type 0 = λ j. IsFound p xs j in
        subst P same (at_first p xs e)
    go false e h = absurd (cc h)

-- ---- kinds of derived variables

-- the kind of a derived variable, by the number of its form and the kind of its sequence
abbrev kind_by : ℕ → Kind → Kind
kind_by n k = if n == 2 then kind.Int else if nat_le n 5 then element_kind k else k

abbrev IsKinded : List VarInfo → Shape → Type 0
IsKinded base d = is_base_form d.form ≡ false → d.kind ≡ kind_by (number_of_form d.form) (var_at base (bases_of d.form).0).kind

by_index_kinded : (base : List VarInfo) (s i : ℕ × Shape) → (var_at base s.0).kind ≡ s.1.kind → All (IsKinded base) (by_index s i)
by_index_kinded base s i there = all_of (IsKinded base) (by_index s i) (go (is_int i.1.kind && beq (is_orig i.1.form) (is_orig s.1.form)))
  where
    slice : s.1.kind ≡ (var_at base s.0).kind
    slice = sym there

    go : (b : Bool) → Each (IsKinded base) (if b then five s i else [])
    go true = (λ _. ap element_kind slice, (λ _. slice, (λ _. slice, (λ _. slice, (λ _. slice, tt)))))
    go false = tt

of_sequence_kinded : (base : List VarInfo) (es : List (ℕ × Shape)) (s : ℕ × Shape) → IsThere base s → All (IsKinded base) (of_sequence es s)
of_sequence_kinded base es s there = go (is_sequence s.1.kind)
  where
    same : (var_at base s.0).kind ≡ s.1.kind
    same = ap (λ d. d.kind) there

    go : (b : Bool) → All (IsKinded base) (if b then three s ++ flat_map (by_index s) es else [])
    go true =
        All-append (IsKinded base) (three s) (flat_map (by_index s) es)
        (all_of (IsKinded base) (three s) (λ _. refl, (λ _. ap element_kind (sym same), (λ _. ap element_kind (sym same), tt))))
        (all_flat_map (λ i. Unit {0}) (IsKinded base) (by_index s) (λ i _. by_index_kinded base s i same) es (λ k d within. tt))
    go false = All-nil (IsKinded base)

base_kinded : (whole base : List VarInfo) → All IsBaseVar base → All (λ v. IsKinded whole (shape_of v)) base
base_kinded whole [] all = All-nil (λ v. IsKinded whole (shape_of v))
base_kinded whole (v ∷ base) all =
    All-cons (λ v. IsKinded whole (shape_of v)) v base (λ h. absurd (cc (h, base_form v (All-head IsBaseVar v base all)))) (base_kinded whole base (All-tail IsBaseVar v base all))

all_kinded : (base : List VarInfo) → All IsBaseVar base → All (λ v. IsKinded base (shape_of v)) (with_derived_vars base)
all_kinded base all =
    let P : VarInfo → Type 0 = λ v. IsKinded base (shape_of v) in
    let es = enumerate_from 0 (map shape_of base) in
    let given = flat_map (of_sequence es) es in
    subst (All P) (all_pushed base)
    (All-append P base (map (derived_var base) given) (base_kinded base base all)
    (All-map P (derived_var base) given (all_flat_map (IsThere base) (IsKinded base) (of_sequence es) (of_sequence_kinded base es) es (there_all base))))

-- ---- partners of base variables

vars-are : (ps : List Point) (i : ℕ) → All IsBaseVar (vars_of ps i)
unfolding vars_of
vars-are ps i = go (slice_get ps i)
  where
    go : (o : Option Point) → All IsBaseVar (option_map_or (λ p. base_vars (take i ps) p.decl) o [])
    go None = All-nil IsBaseVar
    go (Some p) = base-vars-are (take i ps) p.decl

abbrev ArePartners : List Point → Edge → ℕ → ℕ → Type 0
ArePartners ps e w v = (p : VarInfo) × ((slice_get (vars_of ps e.parent.0) w ≡ Some p) × ((c : VarInfo) × ((slice_get (vars_of ps e.child.0) v ≡ Some c) × (c.kind ≡ p.kind))))

base_partners : (ps : List Point) (e : Edge) (w v : ℕ) → partner_of ps e w ≡ Some v → ArePartners ps e w v
unfolding partner_of
base_partners ps e w v h =
    let vs = vars_of ps e.child.0 in
    let a = bound (λ p. option_and_then (partner_in ps e.child.0 e.number p) (slice_get ps e.child.0)) (slice_get (vars_of ps e.parent.0) w) v h in
    let b = bound (partner_in ps e.child.0 e.number a.0) (slice_get ps e.child.0) v a.1.1 in
    let n = bound (λ name. position (is_like a.0 name) vs) _ v b.1.1 in
    let f = found (is_like a.0 n.0) vs v n.1.1 in
    (a.0, (a.1.0, (f.0, (f.1.0, kind-same f.0.kind a.0.kind (first (same_kind f.0.kind a.0.kind) _ (second _ _ f.1.1))))))

-- ---- forms

one_through : (make : VarId → Form) (o : Option ℕ) (g : Form) → with_one make o ≡ Some g → (t : ℕ) × ((o ≡ Some t) × (make (var t) ≡ g))
one_through make None g h = absurd (cc h)
one_through make (Some t) g h = (t, (refl, cc h))

two_through : (make : VarId → VarId → Form) (o r : Option ℕ) (g : Form) → with_two make o r ≡ Some g → (t : ℕ) × ((o ≡ Some t) × ((j : ℕ) × (make (var t) (var j) ≡ g)))
two_through make None r g h = absurd (cc h)
two_through make (Some t) None g h = absurd (cc h)
two_through make (Some t) (Some j) g h = (t, (refl, (j, cc h)))

-- one way to derive, and the sequence's partner
abbrev IsThrough : (ℕ → Option ℕ) → Form → Form → Type 0
IsThrough q f g = (number_of_form g ≡ number_of_form f) × (q (bases_of f).0 ≡ Some (bases_of g).0)

by_one : (q : ℕ → Option ℕ) (make : VarId → Form) (s : ℕ) (g : Form) → ((t : ℕ) → number_of_form (make (var t)) ≡ number_of_form (make (var s))) → ((t : ℕ) → (bases_of (make (var t))).0 ≡ t)
    → with_one make (q s) ≡ Some g → IsThrough q (make (var s)) g
by_one q make s g number base h =
    let r = one_through make (q s) g h in
    let P : Form → Type 0 = λ x. IsThrough q (make (var s)) x in
    subst P r.1.1 (number r.0, ap q (base s) ∙ r.1.0 ∙ ap (λ (t : ℕ). Some t) (sym (base r.0)))

by_two : (q : ℕ → Option ℕ) (make : VarId → VarId → Form) (s i : ℕ) (g : Form) → ((t j : ℕ) → number_of_form (make (var t) (var j)) ≡ number_of_form (make (var s) (var i)))
    → ((t j : ℕ) → (bases_of (make (var t) (var j))).0 ≡ t) → with_two make (q s) (q i) ≡ Some g → IsThrough q (make (var s) (var i)) g
by_two q make s i g number base h =
    let r = two_through make (q s) (q i) g h in
    let P : Form → Type 0 = λ x. IsThrough q (make (var s) (var i)) x in
    subst P r.1.1.1 (number r.0 r.1.1.0, ap q (base s i) ∙ r.1.0 ∙ ap (λ (t : ℕ). Some t) (sym (base r.0 r.1.1.0)))

through : (q : ℕ → Option ℕ) (f g : Form) → form_through q f ≡ Some g → IsThrough q f g
through q form.Declared g h = absurd (cc h)
through q form.Orig g h = absurd (cc h)
through q (form.Size s) g h = by_one q (λ t. form.Size t) s.0 g (λ t. refl) (λ t. refl) h
through q (form.First s) g h = by_one q (λ t. form.First t) s.0 g (λ t. refl) (λ t. refl) h
through q (form.Last s) g h = by_one q (λ t. form.Last t) s.0 g (λ t. refl) (λ t. refl) h
through q (form.At s i) g h = by_two q (λ t j. form.At t j) s.0 i.0 g (λ t j. refl) (λ t j. refl) h
through q (form.Upto s i) g h = by_two q (λ t j. form.Upto t j) s.0 i.0 g (λ t j. refl) (λ t j. refl) h
through q (form.Before s i) g h = by_two q (λ t j. form.Before t j) s.0 i.0 g (λ t j. refl) (λ t j. refl) h
through q (form.Since s i) g h = by_two q (λ t j. form.Since t j) s.0 i.0 g (λ t j. refl) (λ t j. refl) h
through q (form.After s i) g h = by_two q (λ t j. form.After t j) s.0 i.0 g (λ t j. refl) (λ t j. refl) h

base_number : (f : Form) → is_base_form f ≡ nat_le (number_of_form f) 1
base_number form.Declared = refl
base_number form.Orig = refl
base_number (form.Size s) = refl
base_number (form.First s) = refl
base_number (form.Last s) = refl
base_number (form.At s i) = refl
base_number (form.Upto s i) = refl
base_number (form.Before s i) = refl
base_number (form.Since s i) = refl
base_number (form.After s i) = refl

equal : (x y : ℕ) → (x == y) ≡ true → x ≡ y
equal x y h = grind (arith, nat_tests)

-- ---- all of them

in_front : {A : Type 0} (xs ys : List A) (k : ℕ) (x : A) → slice_get xs k ≡ Some x → slice_get (xs ++ ys) k ≡ Some x
in_front [] ys k x h = absurd (cc h)
in_front (y ∷ xs) ys zero x h = h
in_front (y ∷ xs) ys (suc k) x h = in_front xs ys k x h

at_base : (base : List VarInfo) (k : ℕ) (v : VarInfo) → slice_get base k ≡ Some v → slice_get (with_derived_vars base) k ≡ Some v
unfolding with_derived_vars
at_base base k v h = in_front base _ k v h

abbrev BothAlike : List VarInfo → List VarInfo → ℕ → ℕ → Type 0
BothAlike parent child w v = IsSomeAnd (slice_get parent w) (λ p. IsSomeAnd (slice_get child v) (IsAlike p))

both : (parent child : List VarInfo) (w v : ℕ) (p c : VarInfo) → slice_get parent w ≡ Some p → slice_get child v ≡ Some c → IsAlike p c → BothAlike parent child w v
both parent child w v p c hp hc alike = rw (hp, hc) alike

pub partners_are_alike : PartnersAreAlike
unfolding partner_with_derived
partners_are_alike ps e w v h =
    let bs = vars_of ps e.parent.0 in
    let cs = vars_of ps e.child.0 in
    let parent = all_vars_of ps e.parent.0 in
    let child = all_vars_of ps e.child.0 in
    let a = bound (λ p. partner_by_form ps e child w p.form) (slice_get parent w) v h in
    go a.0 a.1.0 (is_base_form a.0.form) refl a.1.1
  where
    go : (p : VarInfo) → slice_get (all_vars_of ps e.parent.0) w ≡ Some p → (b : Bool) → is_base_form p.form ≡ b
        → (if b then partner_of ps e w else option_and_then (place_of_form (all_vars_of ps e.child.0)) (form_through (partner_of ps e) p.form)) ≡ Some v
        → BothAlike (all_vars_of ps e.parent.0) (all_vars_of ps e.child.0) w v
    go p there true is h =
        let r = base_partners ps e w v h in
        let q = r.0 in
        let c = r.1.1.0 in
        let form_q : is_base_form q.form ≡ true = base_form q (all_at IsBaseVar (vars_of ps e.parent.0) w q (vars-are ps e.parent.0) r.1.0) in
        let form_c : is_base_form c.form ≡ true = base_form c (all_at IsBaseVar (vars_of ps e.child.0) v c (vars-are ps e.child.0) r.1.1.1.0) in
        both (all_vars_of ps e.parent.0) (all_vars_of ps e.child.0) w v q c
        (at_base (vars_of ps e.parent.0) w q r.1.0) (at_base (vars_of ps e.child.0) v c r.1.1.1.0) (sym r.1.1.1.1, form_q ∙ sym form_c)
    go p there false is h =
        let bs = vars_of ps e.parent.0 in
        let cs = vars_of ps e.child.0 in
        let child = all_vars_of ps e.child.0 in
        let a = bound (place_of_form child) (form_through (partner_of ps e) p.form) v h in
        let g = a.0 in
        let t = through (partner_of ps e) p.form g a.1.0 in
        let f = found (λ u. same_form g u.form) child v a.1.1 in
        let c = f.0 in
        let number_c : number_of_form g ≡ number_of_form c.form = equal (number_of_form g) (number_of_form c.form) (first _ _ f.1.1) in
        let base_c : (bases_of g).0 ≡ (bases_of c.form).0 = equal (bases_of g).0 (bases_of c.form).0 (first _ _ (second _ _ f.1.1)) in
        let r = base_partners ps e (bases_of p.form).0 (bases_of g).0 t.1 in
        let form_c : is_base_form p.form ≡ is_base_form c.form = base_number p.form ∙ ap (λ n. nat_le n 1) (sym t.0 ∙ number_c) ∙ sym (base_number c.form) in
        let kind_p : p.kind ≡ kind_by (number_of_form p.form) (var_at bs (bases_of p.form).0).kind =
        all_at (λ u. IsKinded bs (shape_of u)) (all_vars_of ps e.parent.0) w p (all_kinded bs (vars-are ps e.parent.0)) there is in
        let kind_c : c.kind ≡ kind_by (number_of_form c.form) (var_at cs (bases_of c.form).0).kind =
        all_at (λ u. IsKinded cs (shape_of u)) child v c (all_kinded cs (vars-are ps e.child.0)) f.1.0 (sym form_c ∙ is) in
        let own_p : (var_at bs (bases_of p.form).0).kind ≡ r.0.kind = ap (λ u. u.kind) (get_or_from_slice_get bs (bases_of p.form).0 r.0 _ r.1.0) in
        let own_c : (var_at cs (bases_of c.form).0).kind ≡ r.1.1.0.kind =
        ap (λ n. (var_at cs n).kind) (sym base_c) ∙ ap (λ u. u.kind) (get_or_from_slice_get cs (bases_of g).0 r.1.1.0 _ r.1.1.1.0) in
        let kinds : p.kind ≡ c.kind =
        kind_p ∙ ap (kind_by (number_of_form p.form)) (own_p ∙ sym r.1.1.1.1 ∙ sym own_c)
        ∙ ap (λ n. kind_by n (var_at cs (bases_of c.form).0).kind) (sym t.0 ∙ number_c) ∙ sym kind_c in
        both (all_vars_of ps e.parent.0) child w v p c there f.1.0 (kinds, form_c)
