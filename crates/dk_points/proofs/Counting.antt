-- How many variables the sequences and whole numbers among the base variables give.
use Rattle.std.proofs.Common.{◌≡◌, ◌∙◌, ℕ, suc, ◌+◌, ◌*◌, ◌≤◌, nat_lt, ◌||◌, Bool, true, false, cond, ◌&&◌, List, [], ◌∷◌, filter, length, map, refl, ap, length-append, if◌then◌else◌, arith}
use Rattle.std.proofs.lemmas.List.{length-map}
use Rattle.std.specs.Bool.{beq}
use Rattle.std.specs.List.{enumerate_from, flat_map}
use Rattle.dk_base.specs.Shapes.{Shape, by_index, is_int, is_orig, is_sequence, of_sequence, shape_of, with_derived}
use Rattle.dk_base.specs.declared.kinds.VarInfo.{VarInfo}
use Rattle.dk_points.specs.Counts.{number_of_ints, number_of_sequences}

abbrev pub ints_in : Bool → List (ℕ × Shape) → ℕ
ints_in orig es = length (filter (λ i. is_int i.1.kind && beq (is_orig i.1.form) orig) es)

abbrev pub sequences_in : Bool → List (ℕ × Shape) → ℕ
sequences_in orig es = length (filter (λ s. is_sequence s.1.kind && beq (is_orig s.1.form) orig) es)

-- an element and four slices by each index
by_indices : (s : ℕ × Shape) (es : List (ℕ × Shape)) → length (flat_map (by_index s) es) ≡ 5 * ints_in (is_orig s.1.form) es
by_indices s [] = refl
by_indices s (i ∷ es) = length-append (by_index s i) (flat_map (by_index s) es) ∙ go (is_int i.1.kind && beq (is_orig i.1.form) (is_orig s.1.form)) refl (by_indices s es)
  where
    rest : ℕ
    rest = length (filter (λ j. is_int j.1.kind && beq (is_orig j.1.form) (is_orig s.1.form)) es)

    go : (b : Bool) → (is_int i.1.kind && beq (is_orig i.1.form) (is_orig s.1.form)) ≡ b → length (flat_map (by_index s) es) ≡ 5 * rest
        → length (by_index s i) + length (flat_map (by_index s) es) ≡ 5 * length (cond b (i ∷ filter (λ j. is_int j.1.kind && beq (is_orig j.1.form) (is_orig s.1.form)) es) (filter (λ j. is_int j.1.kind && beq (is_orig j.1.form) (is_orig s.1.form)) es))
    go true e h = rw e (omega (arith, h))
    go false e h = rw e (omega (arith, h))

-- what each sequence gives
abbrev pub given : List (ℕ × Shape) → ℕ × Shape → ℕ
given es s = if is_sequence s.1.kind then 3 + 5 * ints_in (is_orig s.1.form) es else 0

pub of_one : (es : List (ℕ × Shape)) (s : ℕ × Shape) → length (of_sequence es s) ≡ given es s
of_one es s = go (is_sequence s.1.kind) refl
  where
    go : (b : Bool) → is_sequence s.1.kind ≡ b → length (of_sequence es s) ≡ (if b then 3 + 5 * ints_in (is_orig s.1.form) es else 0)
    go true e = rw e (let h : length (flat_map (by_index s) es) ≡ 5 * ints_in (is_orig s.1.form) es = by_indices s es in omega (arith, h))
    go false e = rw e refl

abbrev of_all : List (ℕ × Shape) → List (ℕ × Shape) → ℕ
of_all es xs = (3 * sequences_in false xs + 5 * (sequences_in false xs * ints_in false es)) + (3 * sequences_in true xs + 5 * (sequences_in true xs * ints_in true es))

derived_in : (es xs : List (ℕ × Shape)) → length (flat_map (of_sequence es) xs) ≡ of_all es xs
derived_in es [] = omega arith
derived_in es (s ∷ xs) = length-append (of_sequence es s) (flat_map (of_sequence es) xs) ∙ ap (λ n. n + length (flat_map (of_sequence es) xs)) (of_one es s)
    ∙ ap (λ n. given es s + n) (derived_in es xs) ∙ go (is_sequence s.1.kind) (is_orig s.1.form)
  where
    p0 : ℕ
    p0 = sequences_in false xs

    p1 : ℕ
    p1 = sequences_in true xs

    n0 : ℕ
    n0 = ints_in false es

    n1 : ℕ
    n1 = ints_in true es

    go : (q o : Bool) → (if q then 3 + 5 * ints_in o es else 0) + of_all es xs
        ≡ (3 * length (cond (q && beq o false) (s ∷ filter (λ t. is_sequence t.1.kind && beq (is_orig t.1.form) false) xs) (filter (λ t. is_sequence t.1.kind && beq (is_orig t.1.form) false) xs))
        + 5 * (length (cond (q && beq o false) (s ∷ filter (λ t. is_sequence t.1.kind && beq (is_orig t.1.form) false) xs) (filter (λ t. is_sequence t.1.kind && beq (is_orig t.1.form) false) xs)) * ints_in false es))
        + (3 * length (cond (q && beq o true) (s ∷ filter (λ t. is_sequence t.1.kind && beq (is_orig t.1.form) true) xs) (filter (λ t. is_sequence t.1.kind && beq (is_orig t.1.form) true) xs))
        + 5 * (length (cond (q && beq o true) (s ∷ filter (λ t. is_sequence t.1.kind && beq (is_orig t.1.form) true) xs) (filter (λ t. is_sequence t.1.kind && beq (is_orig t.1.form) true) xs)) * ints_in true es))
    go false o = omega arith
    go true false = more_false
      where
        more_false : 3 + 5 * n0 + of_all es xs ≡ (3 * suc p0 + 5 * (suc p0 * n0)) + (3 * p1 + 5 * (p1 * n1))
        more_false = omega arith
    go true true = more_true
      where
        more_true : 3 + 5 * n1 + of_all es xs ≡ (3 * p0 + 5 * (p0 * n0)) + (3 * suc p1 + 5 * (suc p1 * n1))
        more_true = omega arith

pub sequences_of : (orig : Bool) (n : ℕ) (vs : List VarInfo) → sequences_in orig (enumerate_from n (map shape_of vs)) ≡ number_of_sequences orig vs
sequences_of orig n [] = refl
sequences_of orig n (v ∷ vs) = go (is_sequence v.kind && beq (is_orig v.form) orig) (sequences_of orig (n + 1) vs)
  where
    go : (b : Bool) → sequences_in orig (enumerate_from (n + 1) (map shape_of vs)) ≡ number_of_sequences orig vs
        → length (cond b ((n, shape_of v) ∷ filter (λ t. is_sequence t.1.kind && beq (is_orig t.1.form) orig) (enumerate_from (n + 1) (map shape_of vs))) (filter (λ t. is_sequence t.1.kind && beq (is_orig t.1.form) orig) (enumerate_from (n + 1) (map shape_of vs))))
        ≡ length (cond b (v ∷ filter (λ w. is_sequence w.kind && beq (is_orig w.form) orig) vs) (filter (λ w. is_sequence w.kind && beq (is_orig w.form) orig) vs))
    go true h = ap suc h
    go false h = h

pub ints_of : (orig : Bool) (n : ℕ) (vs : List VarInfo) → ints_in orig (enumerate_from n (map shape_of vs)) ≡ number_of_ints orig vs
ints_of orig n [] = refl
ints_of orig n (v ∷ vs) = go (is_int v.kind && beq (is_orig v.form) orig) (ints_of orig (n + 1) vs)
  where
    go : (b : Bool) → ints_in orig (enumerate_from (n + 1) (map shape_of vs)) ≡ number_of_ints orig vs
        → length (cond b ((n, shape_of v) ∷ filter (λ t. is_int t.1.kind && beq (is_orig t.1.form) orig) (enumerate_from (n + 1) (map shape_of vs))) (filter (λ t. is_int t.1.kind && beq (is_orig t.1.form) orig) (enumerate_from (n + 1) (map shape_of vs))))
        ≡ length (cond b (v ∷ filter (λ w. is_int w.kind && beq (is_orig w.form) orig) vs) (filter (λ w. is_int w.kind && beq (is_orig w.form) orig) vs))
    go true h = ap suc h
    go false h = h

-- base variables and derived ones
abbrev number_in_all : List VarInfo → ℕ
number_in_all vs = length vs + (3 * number_of_sequences false vs + 5 * (number_of_sequences false vs * number_of_ints false vs))
    + (3 * number_of_sequences true vs + 5 * (number_of_sequences true vs * number_of_ints true vs))

pub length-with_derived : (vs : List VarInfo) → length (with_derived (map shape_of vs)) ≡ number_in_all vs
length-with_derived vs =
    let es = enumerate_from 0 (map shape_of vs) in
    length-append (map shape_of vs) (flat_map (of_sequence es) es)
    ∙ ap (λ n. n + length (flat_map (of_sequence es) es)) (length-map vs shape_of)
    ∙ ap (λ n. length vs + n) (derived_in es es)
    ∙ rw (sequences_of false 0 vs, sequences_of true 0 vs, ints_of false 0 vs, ints_of true 0 vs) (omega arith)

pub many-is : (declared : ℕ) (vs : List VarInfo) (plain orig : ℕ) → declared ≤ 1024
    → plain ≡ 3 * number_of_sequences false vs + 5 * (number_of_sequences false vs * number_of_ints false vs)
    → orig ≡ 3 * number_of_sequences true vs + 5 * (number_of_sequences true vs * number_of_ints true vs)
    → nat_lt 16384 (length vs + plain + orig) ≡ (nat_lt 1024 declared || nat_lt 16384 (length (with_derived (map shape_of vs))))
many-is declared vs plain orig few p o =
    let not_many : nat_lt 1024 declared ≡ false = grind arith in
    rw (not_many, length-with_derived vs, p, o) refl
