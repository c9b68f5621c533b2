-- Lists of samples that tell the same.
use Rattle.std.specs.Prelude.{◌≡◌, ◌+◌, ◌*◌, ◌<◌, ◌++◌, ℕ, zero, suc, List, [], ◌∷◌, flat_map, refl, ◌⊎◌}
use Rattle.std.proofs.Common.{◌∙◌, ap, arith, inl, inr, subst, sym}
use Rattle.std.proofs.lemmas.List.{append_assoc}
use Rattle.dk_base.specs.declared.kinds.VarId.{VarId}
use Rattle.dk_base.specs.declared.values.Value.{Value}
use Rattle.dk_forms.proofs.Summaries.{IsIn-append_left, IsIn-append_right}
use Rattle.dk_forms.specs.Laws.{IsIn}
use Rattle.dk_instances.proofs.Fitting.{count_of_both}
use Rattle.dk_presence.specs.Patterns.{capped, count_of}
use Rattle.dk_hierarchy.specs.Ways.{SamplesTellTheSame, repeated_samples}

abbrev pub Samples : Type 0
Samples = List (List Value)

in_either : (x : List Value) (xs ys : Samples) → IsIn x (xs ++ ys) → IsIn x xs ⊎ IsIn x ys
in_either x [] ys i = inr i
in_either x (z ∷ xs) ys i = elim i as (λ _. IsIn x (z ∷ xs) ⊎ IsIn x ys) [
  | inl e ↦ inl (inl e)
  | inr r ↦ elim (in_either x xs ys r) as (λ _. IsIn x (z ∷ xs) ⊎ IsIn x ys) [ inl a ↦ inl (inr a) | inr b ↦ inr b ]
]

-- ---- an equivalence, kept by lists one after another
pub same_refl : (a : Samples) → SamplesTellTheSame a a
same_refl a = record { samples = record { to = λ x i. i; from = λ x i. i }; counts = λ vars. refl }

pub same_as : (a b : Samples) → a ≡ b → SamplesTellTheSame a b
same_as a b e = subst (SamplesTellTheSame a) e (same_refl a)

pub same_sym : (a b : Samples) → SamplesTellTheSame a b → SamplesTellTheSame b a
same_sym a b h = record { samples = record { to = h.samples.from; from = h.samples.to }; counts = λ vars. sym (h.counts vars) }

pub same_trans : (a b c : Samples) → SamplesTellTheSame a b → SamplesTellTheSame b c → SamplesTellTheSame a c
same_trans a b c h k = record {
  samples = record { to = λ x i. k.samples.to x (h.samples.to x i); from = λ x i. h.samples.from x (k.samples.from x i) };
  counts = λ vars. h.counts vars ∙ k.counts vars;
}

in_both : (a b c d : Samples) → ((x : List Value) → IsIn x a → IsIn x b) → ((x : List Value) → IsIn x c → IsIn x d) → (x : List Value) → IsIn x (a ++ c) → IsIn x (b ++ d)
in_both a b c d to also x i = elim (in_either x a c i) as (λ _. IsIn x (b ++ d)) [
  | inl l ↦ IsIn-append_left x b d (to x l)
  | inr r ↦ IsIn-append_right x b d (also x r)
]

pub same_append : (a b c d : Samples) → SamplesTellTheSame a b → SamplesTellTheSame c d → SamplesTellTheSame (a ++ c) (b ++ d)
same_append a b c d h k = record {
  samples = record { to = in_both a b c d h.samples.to k.samples.to; from = in_both b a d c h.samples.from k.samples.from };
  counts = λ vars. count_of_both vars a c ∙ (ap (λ n. capped (n + count_of vars c)) (h.counts vars) ∙ (ap (λ n. capped (count_of vars b + n)) (k.counts vars) ∙ sym (count_of_both vars b d)));
}

swapped : (a b : Samples) (x : List Value) → IsIn x (a ++ b) → IsIn x (b ++ a)
swapped a b x i = elim (in_either x a b i) as (λ _. IsIn x (b ++ a)) [
  | inl l ↦ IsIn-append_right x b a l
  | inr r ↦ IsIn-append_left x b a r
]

pub same_swap : (a b : Samples) → SamplesTellTheSame (a ++ b) (b ++ a)
same_swap a b = record {
  samples = record { to = swapped a b; from = swapped b a };
  counts = λ vars. count_of_both vars a b ∙ (ap capped (added (count_of vars a) (count_of vars b)) ∙ sym (count_of_both vars b a));
}
  where
    added : (m n : ℕ) → m + n ≡ n + m
    added m n = omega arith

-- the same behind the same
pub same_behind : (a c d : Samples) → SamplesTellTheSame c d → SamplesTellTheSame (a ++ c) (a ++ d)
same_behind a c d h = same_append a a c d (same_refl a) h

-- the last of three goes before the second
pub same_inner : (a b c : Samples) → SamplesTellTheSame ((a ++ b) ++ c) ((a ++ c) ++ b)
same_inner a b c =
    same_trans ((a ++ b) ++ c) (a ++ (b ++ c)) ((a ++ c) ++ b) (same_as ((a ++ b) ++ c) (a ++ (b ++ c)) (append_assoc a b c))
    (same_trans (a ++ (b ++ c)) (a ++ (c ++ b)) ((a ++ c) ++ b) (same_behind a (b ++ c) (c ++ b) (same_swap b c)) (same_as (a ++ (c ++ b)) ((a ++ c) ++ b) (sym (append_assoc a c b))))

-- two pairs, first with first and second with second
pub same_across : (a b c d : Samples) → SamplesTellTheSame ((a ++ b) ++ (c ++ d)) ((a ++ c) ++ (b ++ d))
same_across a b c d =
    same_trans ((a ++ b) ++ (c ++ d)) (((a ++ b) ++ c) ++ d) ((a ++ c) ++ (b ++ d)) (same_as ((a ++ b) ++ (c ++ d)) (((a ++ b) ++ c) ++ d) (sym (append_assoc (a ++ b) c d)))
    (same_trans (((a ++ b) ++ c) ++ d) (((a ++ c) ++ b) ++ d) ((a ++ c) ++ (b ++ d)) (same_append ((a ++ b) ++ c) ((a ++ c) ++ b) d d (same_inner a b c) (same_refl d))
    (same_as (((a ++ c) ++ b) ++ d) ((a ++ c) ++ (b ++ d)) (append_assoc (a ++ c) b d)))

-- ---- so many times over
pub repeated_both : (n : ℕ) (a b : Samples) → SamplesTellTheSame (repeated_samples n (a ++ b)) (repeated_samples n a ++ repeated_samples n b)
unfolding repeated_samples
repeated_both zero a b = same_refl []
repeated_both (suc n) a b =
    same_trans ((a ++ b) ++ repeated_samples n (a ++ b)) ((a ++ b) ++ (repeated_samples n a ++ repeated_samples n b)) ((a ++ repeated_samples n a) ++ (b ++ repeated_samples n b))
    (same_behind (a ++ b) (repeated_samples n (a ++ b)) (repeated_samples n a ++ repeated_samples n b) (repeated_both n a b)) (same_across a b (repeated_samples n a) (repeated_samples n b))

repeated_none : (n : ℕ) → repeated_samples n [] ≡ []
unfolding repeated_samples
repeated_none zero = refl
repeated_none (suc n) = repeated_none n

pub repeated_each : {A : Type 0} (n : ℕ) (f : A → Samples) (xs : List A) → SamplesTellTheSame (repeated_samples n (flat_map f xs)) (flat_map (λ x. repeated_samples n (f x)) xs)
repeated_each n f [] = same_as (repeated_samples n []) [] (repeated_none n)
repeated_each n f (x ∷ xs) =
    same_trans (repeated_samples n (f x ++ flat_map f xs)) (repeated_samples n (f x) ++ repeated_samples n (flat_map f xs)) (repeated_samples n (f x) ++ flat_map (λ x. repeated_samples n (f x)) xs)
    (repeated_both n (f x) (flat_map f xs)) (same_behind (repeated_samples n (f x)) (repeated_samples n (flat_map f xs)) (flat_map (λ x. repeated_samples n (f x)) xs) (repeated_each n f xs))

pub repeated_more : (m n : ℕ) (a : Samples) → repeated_samples (m + n) a ≡ repeated_samples m a ++ repeated_samples n a
unfolding repeated_samples
repeated_more zero n a = ap (λ k. repeated_samples k a) (none n)
  where
    none : (n : ℕ) → 0 + n ≡ n
    none n = omega arith
repeated_more (suc m) n a = ap (λ k. repeated_samples k a) (one m n) ∙ (ap (λ xs. a ++ xs) (repeated_more m n a) ∙ sym (append_assoc a (repeated_samples m a) (repeated_samples n a)))
  where
    one : (m n : ℕ) → suc m + n ≡ suc (m + n)
    one m n = omega arith

-- samples stand in a list as often as in one time over, which is at all where there is one
pub in_repeated : (n : ℕ) (a : Samples) (x : List Value) → 0 < n → IsIn x a → IsIn x (repeated_samples n a)
unfolding repeated_samples
in_repeated zero a x l i = absurd (omega (arith, l))
in_repeated (suc n) a x l i = IsIn-append_left x a (repeated_samples n a) i

pub from_repeated : (n : ℕ) (a : Samples) (x : List Value) → IsIn x (repeated_samples n a) → IsIn x a
unfolding repeated_samples
from_repeated zero a x i = absurd i
from_repeated (suc n) a x i = elim (in_either x a (repeated_samples n a) i) as (λ _. IsIn x a) [ inl l ↦ l | inr r ↦ from_repeated n a x r ]

pub count_repeated : (n : ℕ) (vars : List VarId) (a : Samples) → count_of vars (repeated_samples n a) ≡ capped (n * count_of vars a)
unfolding repeated_samples
count_repeated zero vars a = none (count_of vars a)
  where
    none : (c : ℕ) → 0 ≡ capped (0 * c)
    none c = omega arith
count_repeated (suc n) vars a = count_of_both vars a (repeated_samples n a) ∙ (ap (λ k. capped (count_of vars a + k)) (count_repeated n vars a) ∙ one_more (count_of vars a) n)
  where
    further : (c k : ℕ) → capped (c + capped k) ≡ capped (c + k)
    further c k = omega arith

    times : (c n : ℕ) → c + n * c ≡ suc n * c
    times c n = omega arith

    one_more : (c n : ℕ) → capped (c + capped (n * c)) ≡ capped (suc n * c)
    one_more c n = further c (n * c) ∙ ap capped (times c n)

-- 2^64 - 1 times over is as much as more
capped_times : (n c : ℕ) → capped (capped n * c) ≡ capped (n * c)
capped_times n zero = ap capped (none (capped n) ∙ sym (none n))
  where
    none : (a : ℕ) → a * 0 ≡ 0
    none a = omega arith
capped_times n (suc c) = ap capped (times (capped n) c) ∙ (both (capped n) n (capped n * c) (n * c) refl (capped_times n c) ∙ ap capped (sym (times n c)))
  where
    times : (a c : ℕ) → a * suc c ≡ a + a * c
    times a c = omega arith

    both : (m n a b : ℕ) → m ≡ capped n → capped a ≡ capped b → capped (m + a) ≡ capped (n + b)
    both m n a b first rest = omega (arith, first, rest)

pub repeated_capped : (n : ℕ) (a : Samples) → SamplesTellTheSame (repeated_samples (capped n) a) (repeated_samples n a)
repeated_capped zero a = same_refl (repeated_samples zero a)
repeated_capped (suc n) a = record {
  samples = record {
    to = λ x i. in_repeated (suc n) a x (omega arith) (from_repeated (capped (suc n)) a x i);
    from = λ x i. in_repeated (capped (suc n)) a x (omega arith) (from_repeated (suc n) a x i);
  };
  counts = λ vars. count_repeated (capped (suc n)) vars a ∙ (capped_times (suc n) (count_of vars a) ∙ sym (count_repeated (suc n) vars a));
}
