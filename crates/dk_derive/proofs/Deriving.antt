-- What is derived of base variables, variable by variable.
use Rattle.std.proofs.Common.{◌≡◌, ◌∙◌, ℕ, suc, ◌+◌, ◌++◌, ◌&&◌, ◌≤◌, Bool, true, false, All, List, [], ◌∷◌, drop, filter, length, length-append, map, Some, slice_get, if◌then◌else◌, inl, inr, refl, sym, ap, subst, arith, append_assoc, add-one}
use Rattle.std.proofs.Math.Seq.{drop-cons}
use Rattle.std.proofs.lemmas.List.{append-nil, drop_all, drop_at, length-map, map-append}
use Rattle.std.proofs.lemmas.List.Elements.{All-append, All-cons, All-head, All-nil, All-tail, filter-append}
use Rattle.std.proofs.lemmas.Option.{get_or_from_slice_get, slice_get_within}
use Rattle.std.specs.Bool.{beq}
use Rattle.std.specs.List.{enumerate_from, flat_map}
use Rattle.dk_base.specs.Shapes.{AreWithDerived, Shape, by_index, element_kind, is_base_form, is_int, is_orig, is_sequence, of_sequence, shape, shape_of, var, with_derived}
use Rattle.dk_base.specs.declared.kinds.Form.TheVariants as form
use Rattle.dk_base.specs.declared.kinds.Kind.TheVariants as kind
use Rattle.dk_base.specs.declared.kinds.VarInfo.{VarInfo}
use Rattle.dk_points.specs.Laws.{IsBaseVar}
use Rattle.dk_derive.proofs.Parts.{Each, all_flat_map, all_of}
use Rattle.dk_derive.specs.Vars.{derived_var, no_var, var_at, var_over, with_derived_vars}

next : (base : List VarInfo) (n : ℕ) (v : VarInfo) → slice_get base n ≡ Some v → drop n base ≡ v ∷ drop (n + 1) base
next base n v is =
    drop-cons base n v (slice_get_within base n v is) ∙ ap (λ x. x ∷ drop (suc n) base) (get_or_from_slice_get base n v v is) ∙ ap (λ k. v ∷ drop k base) (sym (add-one n))

-- ---- what a sequence gives by indices

-- what it gives by the variables from n on
abbrev pub indices_left : List VarInfo → ℕ × Shape → ℕ → List VarInfo
indices_left base s n = map (derived_var base) (flat_map (by_index s) (enumerate_from n (map shape_of (drop n base))))

-- the element and the slices that a sequence gives by an index
abbrev pub five : ℕ × Shape → ℕ × Shape → List Shape
five s i = shape (element_kind s.1.kind) (form.At (var s.0) (var i.0)) ∷ shape s.1.kind (form.Upto (var s.0) (var i.0)) ∷ shape s.1.kind (form.Before (var s.0) (var i.0))
    ∷ shape s.1.kind (form.Since (var s.0) (var i.0)) ∷ shape s.1.kind (form.After (var s.0) (var i.0)) ∷ []

over : (base : List VarInfo) (s i : ℕ × Shape) (sequence index : VarInfo) → slice_get base s.0 ≡ Some sequence → slice_get base i.0 ≡ Some index
    → map (derived_var base) (by_index s i) ≡ map (var_over sequence index) (by_index s i)
over base s i sequence index there within =
    inside (is_int i.1.kind && beq (is_orig i.1.form) (is_orig s.1.form))
    ∙ ap (λ v. map (var_over v (var_at base i.0)) (by_index s i)) (get_or_from_slice_get base s.0 sequence no_var there)
    ∙ ap (λ v. map (var_over sequence v) (by_index s i)) (get_or_from_slice_get base i.0 index no_var within)
  where
    inside : (b : Bool) → map (derived_var base) (if b then five s i else []) ≡ map (var_over (var_at base s.0) (var_at base i.0)) (if b then five s i else [])
    inside true = refl
    inside false = refl

index_left : (base : List VarInfo) (s : ℕ × Shape) (n : ℕ) (index : VarInfo) → slice_get base n ≡ Some index
    → indices_left base s n ≡ map (derived_var base) (by_index s (n, shape_of index)) ++ indices_left base s (n + 1)
index_left base s n index there =
    ap (λ l. map (derived_var base) (flat_map (by_index s) (enumerate_from n (map shape_of l)))) (next base n index there)
    ∙ map-append (derived_var base) (by_index s (n, shape_of index)) (flat_map (by_index s) (enumerate_from (n + 1) (map shape_of (drop (n + 1) base))))

pub index_pushed : (base : List VarInfo) (s : ℕ × Shape) (sequence index : VarInfo) (n : ℕ) (before after whole : List VarInfo)
    → slice_get base s.0 ≡ Some sequence → slice_get base n ≡ Some index
    → after ≡ before ++ map (var_over sequence index) (by_index s (n, shape_of index))
    → before ++ indices_left base s n ≡ whole → after ++ indices_left base s (n + 1) ≡ whole
index_pushed base s sequence index n before after whole there within pushed left =
    let rest = indices_left base s (n + 1) in
    let made = map (var_over sequence index) (by_index s (n, shape_of index)) in
    ap (λ l. l ++ rest) pushed ∙ append_assoc before made rest
    ∙ ap (λ l. before ++ l) (ap (λ l. l ++ rest) (sym (over base s (n, shape_of index) sequence index there within)) ∙ sym (index_left base s n index within)) ∙ left

-- one variable pushed after another
pub five_pushed : (sequence index : VarInfo) (s i : ℕ × Shape) (vars one two three four : List VarInfo) → (is_int i.1.kind && beq (is_orig i.1.form) (is_orig s.1.form)) ≡ true
    → one ≡ vars ++ var_over sequence index (shape (element_kind s.1.kind) (form.At (var s.0) (var i.0))) ∷ []
    → two ≡ one ++ var_over sequence index (shape s.1.kind (form.Upto (var s.0) (var i.0))) ∷ []
    → three ≡ two ++ var_over sequence index (shape s.1.kind (form.Before (var s.0) (var i.0))) ∷ []
    → four ≡ three ++ var_over sequence index (shape s.1.kind (form.Since (var s.0) (var i.0))) ∷ []
    → four ++ var_over sequence index (shape s.1.kind (form.After (var s.0) (var i.0))) ∷ [] ≡ vars ++ map (var_over sequence index) (by_index s i)
five_pushed sequence index s i vars one two three four is e1 e2 e3 e4 = rw (e4, e3, e2, e1, is) (simp append_assoc)

-- ---- what all sequences give

abbrev pub sequences_left : List VarInfo → ℕ → List VarInfo
sequences_left base n = map (derived_var base) (flat_map (of_sequence (enumerate_from 0 (map shape_of base))) (enumerate_from n (map shape_of (drop n base))))

pub sequence_pushed : (base : List VarInfo) (sequence : VarInfo) (n : ℕ) (before after whole : List VarInfo) → slice_get base n ≡ Some sequence
    → after ≡ before ++ map (derived_var base) (of_sequence (enumerate_from 0 (map shape_of base)) (n, shape_of sequence))
    → before ++ sequences_left base n ≡ whole → after ++ sequences_left base (n + 1) ≡ whole
sequence_pushed base sequence n before after whole there pushed left =
    let es = enumerate_from 0 (map shape_of base) in
    let rest = sequences_left base (n + 1) in
    let made = map (derived_var base) (of_sequence es (n, shape_of sequence)) in
    let one : sequences_left base n ≡ made ++ rest = ap (λ l. map (derived_var base) (flat_map (of_sequence es) (enumerate_from n (map shape_of l)))) (next base n sequence there)
    ∙ map-append (derived_var base) (of_sequence es (n, shape_of sequence)) (flat_map (of_sequence es) (enumerate_from (n + 1) (map shape_of (drop (n + 1) base)))) in
    ap (λ l. l ++ rest) pushed ∙ append_assoc before made rest ∙ ap (λ l. before ++ l) (sym one) ∙ left

-- behind the last variable nothing is left
pub none_left : (base vars : List VarInfo) (n : ℕ) → length base ≤ n → vars ++ sequences_left base n ≡ with_derived_vars base → vars ≡ with_derived_vars base
none_left base vars n end left =
    let es = enumerate_from 0 (map shape_of base) in
    let none : sequences_left base n ≡ [] = ap (λ l. map (derived_var base) (flat_map (of_sequence es) (enumerate_from n (map shape_of l)))) (drop_all n base end) in
    sym (append-nil vars) ∙ ap (λ l. vars ++ l) (sym none) ∙ left

pub all_pushed : (base : List VarInfo) → base ++ sequences_left base 0 ≡ with_derived_vars base
unfolding with_derived_vars
all_pushed base =
    let es = enumerate_from 0 (map shape_of base) in
    ap (λ l. base ++ map (derived_var base) l) (sym (drop_at (map shape_of base) (flat_map (of_sequence es) es) (length base) (length-map base shape_of)))

pub base_is_among : (base : List VarInfo) → length base ≤ length (with_derived_vars base)
unfolding with_derived_vars
base_is_among base = let n = length-append base (map (derived_var base) (drop (length base) (with_derived (map shape_of base)))) in omega arith

pub base_is_few : (base : List VarInfo) → length base ≤ length (with_derived (map shape_of base))
base_is_few base =
    let es = enumerate_from 0 (map shape_of base) in
    let n : length (with_derived (map shape_of base)) ≡ length (map shape_of base) + length (flat_map (of_sequence es) es) = length-append (map shape_of base) (flat_map (of_sequence es) es) in
    let m : length (map shape_of base) ≡ length base = length-map base shape_of in
    omega arith

pub sequence_given : (base : List VarInfo) (sequence : VarInfo) (s : ℕ) (vars one two three : List VarInfo) → slice_get base s ≡ Some sequence → is_sequence sequence.kind ≡ true
    → one ≡ vars ++ var_over sequence sequence (shape kind.Int (form.Size (var s))) ∷ []
    → two ≡ one ++ var_over sequence sequence (shape (element_kind sequence.kind) (form.First (var s))) ∷ []
    → three ≡ two ++ var_over sequence sequence (shape (element_kind sequence.kind) (form.Last (var s))) ∷ []
    → three ++ map (derived_var base) (flat_map (by_index (s, shape_of sequence)) (enumerate_from 0 (map shape_of base)))
    ≡ vars ++ map (derived_var base) (of_sequence (enumerate_from 0 (map shape_of base)) (s, shape_of sequence))
sequence_given base sequence s vars one two three there is e1 e2 e3 =
    rw (e3, e2, e1, is, get_or_from_slice_get base s sequence no_var there) (simp append_assoc)

-- ---- kinds and forms

shapes_derived : (base : List VarInfo) (ds : List Shape) → map shape_of (map (derived_var base) ds) ≡ ds
shapes_derived base [] = refl
shapes_derived base (d ∷ ds) = ap (λ l. d ∷ l) (shapes_derived base ds)

pub shapes_with_derived : (base : List VarInfo) → map shape_of (with_derived_vars base) ≡ with_derived (map shape_of base)
unfolding with_derived_vars
shapes_with_derived base =
    let es = enumerate_from 0 (map shape_of base) in
    let given = flat_map (of_sequence es) es in
    map-append shape_of base (map (derived_var base) (drop (length base) (with_derived (map shape_of base))))
    ∙ ap (λ l. map shape_of base ++ l) (shapes_derived base (drop (length base) (with_derived (map shape_of base))) ∙ drop_at (map shape_of base) given (length base) (length-map base shape_of))

pub length_with_derived : (base : List VarInfo) → length (with_derived_vars base) ≡ length (with_derived (map shape_of base))
length_with_derived base = sym (length-map (with_derived_vars base) shape_of) ∙ ap length (shapes_with_derived base)

abbrev pub IsBase : Shape → Type 0
IsBase s = is_base_form s.form ≡ true

abbrev pub IsDerived : Shape → Type 0
IsDerived s = is_base_form s.form ≡ false

by_index_derived : (s i : ℕ × Shape) → All IsDerived (by_index s i)
by_index_derived s i = all_of IsDerived (by_index s i) (go (is_int i.1.kind && beq (is_orig i.1.form) (is_orig s.1.form)))
  where
    go : (b : Bool) → Each IsDerived (if b then five s i else [])
    go true = (refl, (refl, (refl, (refl, (refl, tt)))))
    go false = tt

-- its size, its first and its last element
abbrev pub three : ℕ × Shape → List Shape
three s = shape kind.Int (form.Size (var s.0)) ∷ shape (element_kind s.1.kind) (form.First (var s.0)) ∷ shape (element_kind s.1.kind) (form.Last (var s.0)) ∷ []

of_sequence_derived : (es : List (ℕ × Shape)) (s : ℕ × Shape) → All IsDerived (of_sequence es s)
of_sequence_derived es s = go (is_sequence s.1.kind)
  where
    go : (b : Bool) → All IsDerived (if b then three s ++ flat_map (by_index s) es else [])
    go true =
        All-append IsDerived (three s) (flat_map (by_index s) es) (all_of IsDerived (three s) (refl, (refl, (refl, tt))))
        (all_flat_map (λ i. Unit {0}) IsDerived (by_index s) (λ i _. by_index_derived s i) es (λ k d within. tt))
    go false = All-nil IsDerived

pub given_derived : (es : List (ℕ × Shape)) → All IsDerived (flat_map (of_sequence es) es)
given_derived es = all_flat_map (λ s. Unit {0}) IsDerived (of_sequence es) (λ s _. of_sequence_derived es s) es (λ k d within. tt)

abbrev kept : List Shape → List Shape
kept ss = filter (λ s. is_base_form s.form) ss

kept_all : (ss : List Shape) → All IsBase ss → kept ss ≡ ss
kept_all [] all = refl
kept_all (s ∷ ss) all = rw (All-head IsBase s ss all) (ap (λ l. s ∷ l) (kept_all ss (All-tail IsBase s ss all)))

kept_none : (ss : List Shape) → All IsDerived ss → kept ss ≡ []
kept_none [] all = refl
kept_none (s ∷ ss) all = rw (All-head IsDerived s ss all) (kept_none ss (All-tail IsDerived s ss all))

pub base_form : (v : VarInfo) → IsBaseVar v → IsBase (shape_of v)
base_form v (inl h) = ap is_base_form h
base_form v (inr h) = ap is_base_form h.0

base_forms : (base : List VarInfo) → All IsBaseVar base → All IsBase (map shape_of base)
base_forms [] all = All-nil IsBase
base_forms (v ∷ base) all =
    All-cons IsBase (shape_of v) (map shape_of base) (base_form v (All-head IsBaseVar v base all)) (base_forms base (All-tail IsBaseVar v base all))

pub are_with_derived : (base : List VarInfo) → All IsBaseVar base → AreWithDerived (with_derived_vars base)
are_with_derived base all =
    let bs = map shape_of base in
    let es = enumerate_from 0 bs in
    let given = flat_map (of_sequence es) es in
    let P : List Shape → Type 0 = λ ss. with_derived (kept ss) ≡ ss in
    let same : kept (with_derived bs) ≡ bs =
    filter-append (λ s. is_base_form s.form) bs given ∙ ap (λ l. l ++ kept given) (kept_all bs (base_forms base all)) ∙ ap (λ l. bs ++ l) (kept_none given (given_derived es)) ∙ append-nil bs in
    subst P (sym (shapes_with_derived base)) (ap with_derived same)
