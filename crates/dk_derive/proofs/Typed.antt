-- The kinds of the values of all variables.
use Rattle.std.proofs.Common.{◌≡◌, ◌∙◌, ◌+◌, ◌-◌, ◌++◌, ℕ, suc, Bool, true, false, cond, ◌&&◌, All, List, [], ◌∷◌, filter, map, Option, Some, None, option_and_then, slice_get, if◌then◌else◌, refl, sym, ap, subst, arith, zero-add}
use Rattle.std.proofs.lemmas.List.Elements.{All-append, All-cons, All-head, All-nil, All-tail}
use Rattle.std.specs.Bool.{beq}
use Rattle.std.specs.List.{AllZip, enumerate_from, flat_map}
use Rattle.std.specs.Option.{option_map_or}
use Rattle.dk_base.specs.Shapes.{Shape, by_index, element_kind, is_base_form, is_int, is_orig, is_sequence, of_sequence, shape, shape_of, var, with_derived}
use Rattle.dk_base.specs.Values.{IsOfKind}
use Rattle.dk_base.specs.Values.Tuples.{value_at}
use Rattle.dk_base.specs.declared.kinds.Form.{Form}
use Rattle.dk_base.specs.declared.kinds.Form.TheVariants as form
use Rattle.dk_base.specs.declared.kinds.Kind.{Kind}
use Rattle.dk_base.specs.declared.kinds.Kind.TheVariants as kind
use Rattle.dk_base.specs.declared.kinds.VarInfo.{VarInfo}
use Rattle.dk_base.specs.declared.values.Value.{Value}
use Rattle.dk_base.specs.declared.values.Value.TheVariants as value
use Rattle.dk_derive.proofs.Parts.{Each, all_flat_map, all_of}
use Rattle.dk_derive.specs.Laws.{ValuesAreOfKinds, base_of, var_kinds}
use Rattle.dk_derive.specs.Values.{back, element, front, next_place, number_of_elements, place, size, value_by_form}

-- ---- one value

size-kind : (v : Value) → IsOfKind kind.Int (size v)
size-kind value.Missing = tt
size-kind (value.Bool b) = tt
size-kind (value.Int z) = tt
size-kind (value.Hash n) = tt
size-kind (value.Str s) = tt
size-kind (value.BoolSeq bs) = refl
size-kind (value.IntSeq zs) = refl
size-kind (value.HashSeq ns) = refl
size-kind (value.StrSeq ss) = refl

made : {A : Type 0} (k : Kind) (make : A → Value) → ((x : A) → IsOfKind k (make x)) → (o : Option A) → IsOfKind k (option_map_or make o value.Missing)
made k make is None = tt
made k make is (Some x) = is x

element-kind : (v : Value) (k : Kind) (i : Option ℕ) → IsOfKind k v → IsOfKind (element_kind k) (element v i)
element-kind value.Missing k i h = tt
element-kind (value.Bool b) k i h = tt
element-kind (value.Int z) k i h = tt
element-kind (value.Hash n) k i h = tt
element-kind (value.Str s) k i h = tt
element-kind (value.BoolSeq bs) k i h =
    let P : Kind → Type 0 = λ k. IsOfKind (element_kind k) (element (value.BoolSeq bs) i) in
    subst P h (made kind.Bool (λ b. value.Bool b) (λ b. refl) (option_and_then (slice_get bs) i))
element-kind (value.IntSeq zs) k i h =
    let P : Kind → Type 0 = λ k. IsOfKind (element_kind k) (element (value.IntSeq zs) i) in
    subst P h (made kind.Int (λ z. value.Int z) (λ z. refl) (option_and_then (slice_get zs) i))
element-kind (value.HashSeq ns) k i h =
    let P : Kind → Type 0 = λ k. IsOfKind (element_kind k) (element (value.HashSeq ns) i) in
    subst P h (made kind.Hash (λ n. value.Hash n) (λ n. refl) (option_and_then (slice_get ns) i))
element-kind (value.StrSeq ss) k i h =
    let P : Kind → Type 0 = λ k. IsOfKind (element_kind k) (element (value.StrSeq ss) i) in
    subst P h (made kind.Str (λ s. value.Str s) (λ s. refl) (option_and_then (slice_get ss) i))

front-kind : (v : Value) (k : Kind) (i : Option ℕ) → IsOfKind k v → IsOfKind k (front v i)
front-kind value.Missing k i h = tt
front-kind (value.Bool b) k i h = tt
front-kind (value.Int z) k i h = tt
front-kind (value.Hash n) k i h = tt
front-kind (value.Str s) k i h = tt
front-kind (value.BoolSeq bs) k i h = made k (λ xs. value.BoolSeq xs) (λ xs. h) _
front-kind (value.IntSeq zs) k i h = made k (λ xs. value.IntSeq xs) (λ xs. h) _
front-kind (value.HashSeq ns) k i h = made k (λ xs. value.HashSeq xs) (λ xs. h) _
front-kind (value.StrSeq ss) k i h = made k (λ xs. value.StrSeq xs) (λ xs. h) _

back-kind : (v : Value) (k : Kind) (i : Option ℕ) → IsOfKind k v → IsOfKind k (back v i)
back-kind value.Missing k i h = tt
back-kind (value.Bool b) k i h = tt
back-kind (value.Int z) k i h = tt
back-kind (value.Hash n) k i h = tt
back-kind (value.Str s) k i h = tt
back-kind (value.BoolSeq bs) k i h = made k (λ xs. value.BoolSeq xs) (λ xs. h) _
back-kind (value.IntSeq zs) k i h = made k (λ xs. value.IntSeq xs) (λ xs. h) _
back-kind (value.HashSeq ns) k i h = made k (λ xs. value.HashSeq xs) (λ xs. h) _
back-kind (value.StrSeq ss) k i h = made k (λ xs. value.StrSeq xs) (λ xs. h) _

-- ---- what a sequence gives

-- the value by the form is of the kind, at whatever place the variable stands
abbrev HasKind : List Value → Shape → Type 0
HasKind base s = (n : ℕ) → IsOfKind s.kind (value_by_form base n s.form)

-- the variable has a value of its kind
abbrev IsFed : List Value → ℕ × Shape → Type 0
IsFed base e = IsOfKind e.1.kind (value_at base e.0)

by_index-kinds : (base : List Value) (s i : ℕ × Shape) → IsFed base s → All (HasKind base) (by_index s i)
by_index-kinds base s i h = all_of (HasKind base) (by_index s i) (go (is_int i.1.kind && beq (is_orig i.1.form) (is_orig s.1.form)))
  where
    v : Value
    v = value_at base s.0

    here : Option ℕ
    here = place (value_at base i.0)

    next : Option ℕ
    next = next_place (value_at base i.0)

    go : (b : Bool) → Each (HasKind base) (if b then
        shape (element_kind s.1.kind) (form.At (var s.0) (var i.0))
        ∷ shape s.1.kind (form.Upto (var s.0) (var i.0))
        ∷ shape s.1.kind (form.Before (var s.0) (var i.0))
        ∷ shape s.1.kind (form.Since (var s.0) (var i.0))
        ∷ shape s.1.kind (form.After (var s.0) (var i.0))
        ∷ []
        else [])
    go true = (
      λ n. element-kind v s.1.kind here h,
      (
        λ n. front-kind v s.1.kind next h,
        (
          λ n. front-kind v s.1.kind here h,
          (λ n. back-kind v s.1.kind here h, (λ n. back-kind v s.1.kind next h, tt)),
        ),
      ),
    )
    go false = tt

of_sequence-kinds : (base : List Value) (es : List (ℕ × Shape)) (s : ℕ × Shape) → IsFed base s → All (HasKind base) (of_sequence es s)
of_sequence-kinds base es s h =
    go (is_sequence s.1.kind) (all_flat_map (λ i. Unit {0}) (HasKind base) (by_index s) (λ i _. by_index-kinds base s i h) es (λ k d within. tt))
  where
    v : Value
    v = value_at base s.0

    go : (b : Bool) → All (HasKind base) (flat_map (by_index s) es) → All (HasKind base) (if b then
        shape kind.Int (form.Size (var s.0))
        ∷ shape (element_kind s.1.kind) (form.First (var s.0))
        ∷ shape (element_kind s.1.kind) (form.Last (var s.0))
        ∷ flat_map (by_index s) es
        else [])
    go true rest =
        All-append (HasKind base)
        (shape kind.Int (form.Size (var s.0)) ∷ shape (element_kind s.1.kind) (form.First (var s.0)) ∷ shape (element_kind s.1.kind) (form.Last (var s.0)) ∷ [])
        (flat_map (by_index s) es)
        (all_of (HasKind base)
        (shape kind.Int (form.Size (var s.0)) ∷ shape (element_kind s.1.kind) (form.First (var s.0)) ∷ shape (element_kind s.1.kind) (form.Last (var s.0)) ∷ [])
        (λ n. size-kind v, (λ n. element-kind v s.1.kind (Some 0) h, (λ n. element-kind v s.1.kind (Some (number_of_elements v - 1)) h, tt))))
        rest
    go false rest = All-nil (HasKind base)

-- ---- all of them

abbrev kinds : List Shape → List Kind
kinds ss = map (λ s. s.kind) ss

abbrev values : List Value → ℕ → List Shape → List Value
values base n ss = map (λ e. value_by_form base e.0 e.1.form) (enumerate_from n ss)

derived-kinds : (base : List Value) (n : ℕ) (ss : List Shape) → All (HasKind base) ss → AllZip IsOfKind (kinds ss) (values base n ss)
derived-kinds base n [] all = tt
derived-kinds base n (s ∷ ss) all = (All-head (HasKind base) s ss all n, derived-kinds base (n + 1) ss (All-tail (HasKind base) s ss all))

-- `whole` goes on at n with `rest`
abbrev GoesOn : List Value → ℕ → List Value → Type 0
GoesOn whole n rest = (k : ℕ) → value_at whole (n + k) ≡ value_at rest k

goes_on : (whole : List Value) (n : ℕ) (v : Value) (rest : List Value) → GoesOn whole n (v ∷ rest) → GoesOn whole (n + 1) rest
goes_on whole n v rest h = λ (k : ℕ). let e : n + 1 + k ≡ n + suc k = omega arith in ap (value_at whole) e ∙ h (suc k)

here : (whole : List Value) (n : ℕ) (v : Value) (rest : List Value) → GoesOn whole n (v ∷ rest) → value_at whole n ≡ v
here whole n v rest h = let e : n ≡ n + 0 = omega arith in ap (value_at whole) e ∙ h 0

base-value : (whole : List Value) (n : ℕ) (f : Form) → is_base_form f ≡ true → value_by_form whole n f ≡ value_at whole n
base-value whole n f h = rw h refl

abbrev IsBase : Shape → Type 0
IsBase s = is_base_form s.form ≡ true

-- base variables are fed, and have values of their kinds, followed by what the others have
base-kinds : (whole : List Value) (n : ℕ) (rest : List Value) (bs ds : List Shape) → GoesOn whole n rest → All IsBase bs → AllZip IsOfKind (kinds bs) rest
    → ((m : ℕ) → AllZip IsOfKind (kinds ds) (values whole m ds)) → AllZip IsOfKind (kinds (bs ++ ds)) (values whole n (bs ++ ds))
base-kinds whole n rest [] ds on all zips others = others n
base-kinds whole n [] (b ∷ bs) ds on all zips others = absurd zips
base-kinds whole n (v ∷ rest) (b ∷ bs) ds on all zips others = (
  subst (IsOfKind b.kind) (sym (base-value whole n b.form (All-head IsBase b bs all) ∙ here whole n v rest on)) zips.0,
  base-kinds whole (n + 1) rest bs ds (goes_on whole n v rest on) (All-tail IsBase b bs all) zips.1 others,
)

base-fed : (whole : List Value) (n : ℕ) (rest : List Value) (bs : List Shape) → GoesOn whole n rest → AllZip IsOfKind (kinds bs) rest → All (IsFed whole) (enumerate_from n bs)
base-fed whole n rest [] on zips = All-nil (IsFed whole)
base-fed whole n [] (b ∷ bs) on zips = absurd zips
base-fed whole n (v ∷ rest) (b ∷ bs) on zips =
    All-cons (IsFed whole) (n, b) (enumerate_from (n + 1) bs) (subst (IsOfKind b.kind) (sym (here whole n v rest on)) zips.0)
    (base-fed whole (n + 1) rest bs (goes_on whole n v rest on) zips.1)

with-derived-kinds : (base : List Value) (bs : List Shape) → All IsBase bs → AllZip IsOfKind (kinds bs) base → AllZip IsOfKind (kinds (with_derived bs)) (values base 0 (with_derived bs))
with-derived-kinds base bs all zips =
    let on : GoesOn base 0 base = λ (k : ℕ). ap (value_at base) (zero-add k) in
    let es = enumerate_from 0 bs in
    base-kinds base 0 base bs (flat_map (of_sequence es) es) on all zips (λ m. derived-kinds base m (flat_map (of_sequence es) es)
    (all_flat_map (IsFed base) (HasKind base) (of_sequence es) (of_sequence-kinds base es) es (base-fed base 0 base bs on zips)))

-- ---- shapes of variables

shape-kinds : (vars : List VarInfo) → kinds (map shape_of vars) ≡ var_kinds vars
shape-kinds [] = refl
shape-kinds (v ∷ vars) = ap (λ ks. v.kind ∷ ks) (shape-kinds vars)

shape-values : (base : List Value) (n : ℕ) (vars : List VarInfo) → values base n (map shape_of vars) ≡ map (λ v. value_by_form base v.0 v.1.form) (enumerate_from n vars)
shape-values base n [] = refl
shape-values base n (v ∷ vars) = ap (λ vs. value_by_form base n v.form ∷ vs) (shape-values base (n + 1) vars)

abbrev base_shapes : List Shape → List Shape
base_shapes ss = filter (λ s. is_base_form s.form) ss

base-shape-kinds : (vars : List VarInfo) → kinds (base_shapes (map shape_of vars)) ≡ var_kinds (base_of vars)
base-shape-kinds [] = refl
base-shape-kinds (v ∷ vars) = go (is_base_form v.form) (base-shape-kinds vars)
  where
    go : (b : Bool) → kinds (base_shapes (map shape_of vars)) ≡ var_kinds (base_of vars)
        → kinds (cond b (shape_of v ∷ base_shapes (map shape_of vars)) (base_shapes (map shape_of vars))) ≡ var_kinds (cond b (v ∷ base_of vars) (base_of vars))
    go true h = ap (λ ks. v.kind ∷ ks) h
    go false h = h

kept-base : (ss : List Shape) → All IsBase (base_shapes ss)
kept-base [] = All-nil IsBase
kept-base (s ∷ ss) = go (is_base_form s.form) refl (kept-base ss)
  where
    go : (b : Bool) → is_base_form s.form ≡ b → All IsBase (base_shapes ss) → All IsBase (cond b (s ∷ base_shapes ss) (base_shapes ss))
    go true e h = All-cons IsBase s (base_shapes ss) e h
    go false e h = h

pub values_of_kinds : ValuesAreOfKinds
values_of_kinds vars base derived zips =
    let bs = base_shapes (map shape_of vars) in
    let P : List Kind → Type 0 = λ ks. AllZip IsOfKind ks base in
    let Q : List Shape → Type 0 = λ ss. AllZip IsOfKind (kinds ss) (values base 0 ss) in
    let all : Q (map shape_of vars) = subst Q derived (with-derived-kinds base bs (kept-base (map shape_of vars)) (subst P (sym (base-shape-kinds vars)) zips)) in
    let R : List Kind → Type 0 = λ ks. AllZip IsOfKind ks (values base 0 (map shape_of vars)) in
    let S : List Value → Type 0 = λ vs. AllZip IsOfKind (var_kinds vars) vs in
    subst S (shape-values base 0 vars) (subst R (shape-kinds vars) all)
