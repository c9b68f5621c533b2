-- How many variables are derived.
use Rattle.std.proofs.Common.{◌≡◌, ◌∙◌, ◌≤◌, ◌<◌, ◌^◌, ℕ, suc, ◌+◌, ◌*◌, ◌++◌, ◌&&◌, Bool, true, false, cond, All, List, [], ◌∷◌, filter, length, length-append, map, if◌then◌else◌, refl, sym, ap, arith, zero-add}
use Rattle.std.proofs.Math.Nat.{mul-le-mul}
use Rattle.std.proofs.lemmas.List.{map-append}
use Rattle.std.proofs.lemmas.List.Elements.{All-append, All-cons, All-head, All-nil, All-tail, filter-append}
use Rattle.std.specs.Bool.{beq}
use Rattle.std.specs.List.{enumerate_from, flat_map}
use Rattle.dk_base.specs.Shapes.{Shape, by_index, is_int, is_orig, is_sequence, of_sequence, shape_of, with_derived}
use Rattle.dk_base.specs.declared.kinds.VarInfo.{VarInfo}
use Rattle.dk_points.proofs.Counting.{given, ints_in, ints_of, length-with_derived, of_one, sequences_in, sequences_of}
use Rattle.dk_points.specs.Counts.{number_of_ints, number_of_sequences}
use Rattle.dk_points.specs.Laws.{IsBaseVar}
use Rattle.dk_derive.proofs.Deriving.{all_pushed, base_form, five, three}
use Rattle.dk_derive.proofs.Parts.{Each, all_flat_map, all_of}
use Rattle.dk_derive.specs.Laws.{DerivedAreCounted, is_derived_of}
use Rattle.dk_derive.specs.Vars.{derived_var, var_at}

-- whether what is derived of the variable at this place counts
abbrev counts : Bool → List VarInfo → ℕ → Bool
counts orig base s = beq (is_orig (var_at base s).form) orig

-- a shape is one of a derived variable over this sequence
abbrev IsOver : Bool → List VarInfo → ℕ → Shape → Type 0
IsOver orig base s d = is_derived_of orig base (derived_var base d) ≡ counts orig base s

by_index_over : (orig : Bool) (base : List VarInfo) (s i : ℕ × Shape) → All (IsOver orig base s.0) (by_index s i)
by_index_over orig base s i = all_of (IsOver orig base s.0) (by_index s i) (go (is_int i.1.kind && beq (is_orig i.1.form) (is_orig s.1.form)))
  where
    go : (b : Bool) → Each (IsOver orig base s.0) (if b then five s i else [])
    go true = (refl, (refl, (refl, (refl, (refl, tt)))))
    go false = tt

of_sequence_over : (orig : Bool) (base : List VarInfo) (es : List (ℕ × Shape)) (s : ℕ × Shape) → All (IsOver orig base s.0) (of_sequence es s)
of_sequence_over orig base es s = go (is_sequence s.1.kind)
  where
    go : (b : Bool) → All (IsOver orig base s.0) (if b then three s ++ flat_map (by_index s) es else [])
    go true =
        All-append (IsOver orig base s.0) (three s) (flat_map (by_index s) es) (all_of (IsOver orig base s.0) (three s) (refl, (refl, (refl, tt))))
        (all_flat_map (λ i. Unit {0}) (IsOver orig base s.0) (by_index s) (λ i _. by_index_over orig base s i) es (λ k d within. tt))
    go false = All-nil (IsOver orig base s.0)

-- all of them count, or none
counted : (orig : Bool) (base : List VarInfo) (s : ℕ) (ds : List Shape) → All (IsOver orig base s) ds
    → length (filter (is_derived_of orig base) (map (derived_var base) ds)) ≡ (if counts orig base s then length ds else 0)
counted orig base s [] all = go (counts orig base s)
  where
    go : (b : Bool) → ◌≡◌ {A = ℕ} 0 (if b then 0 else 0)
    go true = refl
    go false = refl
counted orig base s (d ∷ ds) all =
    rw (All-head (IsOver orig base s) d ds all) (go (counts orig base s) (counted orig base s ds (All-tail (IsOver orig base s) d ds all)))
  where
    go : (b : Bool) → length (filter (is_derived_of orig base) (map (derived_var base) ds)) ≡ (if b then length ds else 0)
        → length (cond b (derived_var base d ∷ filter (is_derived_of orig base) (map (derived_var base) ds)) (filter (is_derived_of orig base) (map (derived_var base) ds))) ≡ (if b then suc (length ds) else 0)
    go true h = ap suc h
    go false h = h

-- the variable at the place has the shape
abbrev pub IsThere : List VarInfo → ℕ × Shape → Type 0
IsThere base s = shape_of (var_at base s.0) ≡ s.1

abbrev number : Bool → List (ℕ × Shape) → List (ℕ × Shape) → ℕ
number orig es xs = 3 * sequences_in orig xs + 5 * (sequences_in orig xs * ints_in orig es)

of_one_counted : (orig : Bool) (base : List VarInfo) (es : List (ℕ × Shape)) (s : ℕ × Shape) → IsThere base s
    → length (filter (is_derived_of orig base) (map (derived_var base) (of_sequence es s))) ≡ (if beq (is_orig s.1.form) orig then given es s else 0)
of_one_counted orig base es s there =
    counted orig base s.0 (of_sequence es s) (of_sequence_over orig base es s)
    ∙ ap (λ n. if counts orig base s.0 then n else 0) (of_one es s)
    ∙ ap (λ d. if beq (is_orig d.form) orig then given es s else 0) there

step : (orig : Bool) (es xs : List (ℕ × Shape)) (s : ℕ × Shape) → (if beq (is_orig s.1.form) orig then given es s else 0) + number orig es xs ≡ number orig es (s ∷ xs)
step orig es xs s = go (is_sequence s.1.kind) (is_orig s.1.form) orig
  where
    rest : Bool → List (ℕ × Shape)
    rest r = filter (λ t. is_sequence t.1.kind && beq (is_orig t.1.form) r) xs

    go : (q o r : Bool) → (if beq o r then (if q then 3 + 5 * ints_in o es else 0) else 0) + number r es xs
        ≡ 3 * length (cond (q && beq o r) (s ∷ filter (λ t. is_sequence t.1.kind && beq (is_orig t.1.form) r) xs) (filter (λ t. is_sequence t.1.kind && beq (is_orig t.1.form) r) xs))
        + 5 * (length (cond (q && beq o r) (s ∷ filter (λ t. is_sequence t.1.kind && beq (is_orig t.1.form) r) xs) (filter (λ t. is_sequence t.1.kind && beq (is_orig t.1.form) r) xs)) * ints_in r es)
    go false true true = omega arith
    go false true false = omega arith
    go false false true = omega arith
    go false false false = omega arith
    go true true false = omega arith
    go true false true = omega arith
    go true true true = more (sequences_in true xs) (ints_in true es)
      where
        more : (p n : ℕ) → 3 + 5 * n + (3 * p + 5 * (p * n)) ≡ 3 * suc p + 5 * (suc p * n)
        more p n = omega arith
    go true false false = more (sequences_in false xs) (ints_in false es)
      where
        more : (p n : ℕ) → 3 + 5 * n + (3 * p + 5 * (p * n)) ≡ 3 * suc p + 5 * (suc p * n)
        more p n = omega arith

all_counted : (orig : Bool) (base : List VarInfo) (es xs : List (ℕ × Shape)) → All (IsThere base) xs
    → length (filter (is_derived_of orig base) (map (derived_var base) (flat_map (of_sequence es) xs))) ≡ number orig es xs
all_counted orig base es [] all = omega arith
all_counted orig base es (s ∷ xs) all =
    let p = is_derived_of orig base in
    let own = map (derived_var base) (of_sequence es s) in
    let rest = map (derived_var base) (flat_map (of_sequence es) xs) in
    ap (λ l. length (filter p l)) (map-append (derived_var base) (of_sequence es s) (flat_map (of_sequence es) xs))
    ∙ ap length (filter-append p own rest)
    ∙ length-append (filter p own) (filter p rest)
    ∙ ap (λ n. n + length (filter p rest)) (of_one_counted orig base es s (All-head (IsThere base) s xs all))
    ∙ ap (λ n. (if beq (is_orig s.1.form) orig then given es s else 0) + n) (all_counted orig base es xs (All-tail (IsThere base) s xs all))
    ∙ step orig es xs s

there : (whole : List VarInfo) (n : ℕ) (rest : List VarInfo) → ((k : ℕ) → var_at whole (n + k) ≡ var_at rest k) → All (IsThere whole) (enumerate_from n (map shape_of rest))
there whole n [] on = All-nil (IsThere whole)
there whole n (v ∷ rest) on =
    let here : var_at whole n ≡ v = (let e : n ≡ n + 0 = omega arith in ap (var_at whole) e ∙ on 0) in
    All-cons (IsThere whole) (n, shape_of v) (enumerate_from (n + 1) (map shape_of rest)) (ap shape_of here)
    (there whole (n + 1) rest (λ (k : ℕ). let e : n + 1 + k ≡ n + suc k = omega arith in ap (var_at whole) e ∙ on (suc k)))

pub there_all : (base : List VarInfo) → All (IsThere base) (enumerate_from 0 (map shape_of base))
there_all base = there base 0 base (λ (k : ℕ). ap (var_at base) (zero-add k))

none_of_base : (orig : Bool) (whole base : List VarInfo) → All IsBaseVar base → filter (is_derived_of orig whole) base ≡ []
none_of_base orig whole [] all = refl
none_of_base orig whole (v ∷ base) all = rw (base_form v (All-head IsBaseVar v base all)) (none_of_base orig whole base (All-tail IsBaseVar v base all))

pub derived_are_counted : DerivedAreCounted
derived_are_counted orig base all =
    let p = is_derived_of orig base in
    let es = enumerate_from 0 (map shape_of base) in
    let given = map (derived_var base) (flat_map (of_sequence es) es) in
    ap (λ l. length (filter p l)) (sym (all_pushed base))
    ∙ ap length (filter-append p base given ∙ ap (λ l. l ++ filter p given) (none_of_base orig base base all))
    ∙ all_counted orig base es es (there_all base)
    ∙ rw (sequences_of orig 0 base, ints_of orig 0 base) refl

few_of : (q n m : ℕ) → q ≤ m → n ≤ m → m ≤ 16384 → 3 * q + 5 * (q * n) ≤ 1342226432
few_of q n m hq hn hm =
    let p : q * n ≤ 16384 * 16384 = mul-le-mul {n₁ = q} {m₁ = n} {n₂ = 16384} {m₂ = 16384} (omega arith) (omega arith) in
    omega arith

passing : {A : Type 0} (p : A → Bool) (xs : List A) → length (filter p xs) ≤ length xs
passing p [] = omega arith
passing p (x ∷ xs) = go (p x) (passing p xs)
  where
    go : (b : Bool) → length (filter p xs) ≤ length xs → length (cond b (x ∷ filter p xs) (filter p xs)) ≤ suc (length xs)
    go true h = omega arith
    go false h = omega arith

-- few base variables give few
pub few_are_derived : (vars : List VarInfo) → length vars ≤ 16384 → length (with_derived (map shape_of vars)) < 2 ^ 32
few_are_derived vars few =
    let all = length-with_derived vars in
    let plain = few_of (number_of_sequences false vars) (number_of_ints false vars) (length vars) (passing (λ v. is_sequence v.kind && beq (is_orig v.form) false) vars) (passing (λ v. is_int v.kind && beq (is_orig v.form) false) vars) few in
    let orig = few_of (number_of_sequences true vars) (number_of_ints true vars) (length vars) (passing (λ v. is_sequence v.kind && beq (is_orig v.form) true) vars) (passing (λ v. is_int v.kind && beq (is_orig v.form) true) vars) few in
    omega arith
