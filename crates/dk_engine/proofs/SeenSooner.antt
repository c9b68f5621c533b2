-- That three leaders have no slot of an operation's row, seen without its result.
use Rattle.std.specs.Prelude.{◌≡◌, ◌<◌, ◌≤◌, ◌*◌, ◌/◌, ◌%◌, ◌&&◌, ◌∷◌, [], ℕ, zero, suc, ℤ, pos, negsuc, neg_ℤ, true, false, not, nat_lt, int_div, int_rem, refl, unsigned_abs}
use Rattle.std.specs.Ordering.{int_eq}
use Rattle.std.proofs.Common.{◌∙◌, ap, arith, subst, sym}
use Rattle.std.proofs.Math.Nat.{div-mul-le_self}
use Rattle.std.proofs.lemmas.Bool.{and_parts, false_from_ne_true, false≢true, lt-leb, ltb-true}
use Rattle.std.proofs.lemmas.Bool.Decides.{Decides-int_eq}
use Rattle.std.proofs.lemmas.Int.{rem_below}
use Rattle.std.proofs.lemmas.Nat.Gcd.{mod-eq-zero_of_dvd}
use Prim.Native.Nat.{◌∣◌}
use Rattle.dk_arith.proofs.GcdLaws.{gcd-left}
use Rattle.dk_arith.specs.Gcd.{gcd}
use Rattle.dk_base.specs.declared.kinds.VarId.{VarId}
use Rattle.dk_meanings.specs.Relations.{is_gcd, is_nonzero, is_quotient, is_remainder}
use Rattle.dk_template.specs.Admitted.{is_written}
use Rattle.dk_template.specs.Templates.{rows}
use Rattle.dk_ternary.specs.Rows.{operation_row}
use Rattle.dk_ternary.specs.declared.operation.Operation.{Operation}
use Rattle.dk_ternary.specs.declared.operation.Operation.TheVariants.{Sum, Difference, Product, Minimum, Maximum, Quotient, Remainder, And, Or, Xor, Gcd}

-- a greatest common divisor is a divisor of each number
pub no_divisor : (z x y : ℤ) → (unsigned_abs x % unsigned_abs z ≡ 0 → ⊥) → is_gcd z x y ≡ false
no_divisor z x y none =
    let divides : z ≡ pos (gcd (unsigned_abs x) (unsigned_abs y)) → unsigned_abs z ∣ unsigned_abs x = λ e. subst (λ n. n ∣ unsigned_abs x) (sym (ap unsigned_abs e)) (gcd-left (unsigned_abs x) (unsigned_abs y)) in
    false_from_ne_true (is_gcd z x y) (λ is. none (mod-eq-zero_of_dvd (unsigned_abs z) (divides ((Decides-int_eq z (pos (gcd (unsigned_abs x) (unsigned_abs y)))).0 is))))

-- where the arguments may be exchanged, they ascend
pub unordered : (o : Operation) → (o ≡ Difference → ⊥) → (o ≡ Quotient → ⊥) → (o ≡ Remainder → ⊥) → (v w x : VarId) → nat_lt x.0 w.0 ≡ true → is_written (operation_row o) (v ∷ w ∷ x ∷ []) ≡ false
unfolding rows
unordered Sum d q r v w x below = ap (λ b. b && true) (lt-leb w.0 x.0 (ltb-true x.0 w.0 below))
unordered Product d q r v w x below = ap (λ b. b && true) (lt-leb w.0 x.0 (ltb-true x.0 w.0 below))
unordered Minimum d q r v w x below = ap (λ b. b && true) (lt-leb w.0 x.0 (ltb-true x.0 w.0 below))
unordered Maximum d q r v w x below = ap (λ b. b && true) (lt-leb w.0 x.0 (ltb-true x.0 w.0 below))
unordered And d q r v w x below = ap (λ b. b && true) (lt-leb w.0 x.0 (ltb-true x.0 w.0 below))
unordered Or d q r v w x below = ap (λ b. b && true) (lt-leb w.0 x.0 (ltb-true x.0 w.0 below))
unordered Xor d q r v w x below = ap (λ b. b && true) (lt-leb w.0 x.0 (ltb-true x.0 w.0 below))
unordered Gcd d q r v w x below = ap (λ b. b && true) (lt-leb w.0 x.0 (ltb-true x.0 w.0 below))
unordered Difference d q r v w x below = absurd (d refl)
unordered Quotient d q r v w x below = absurd (q refl)
unordered Remainder d q r v w x below = absurd (r refl)

-- ---- quotients and remainders
abs_neg : (n : ℕ) → unsigned_abs (neg_ℤ (pos n)) ≡ n
abs_neg zero = refl
abs_neg (suc n) = refl

quotient_fits : (x y : ℤ) → unsigned_abs (int_div x y) * unsigned_abs y ≤ unsigned_abs x
quotient_fits (pos a) (pos b) = div-mul-le_self a b
quotient_fits (pos a) (negsuc b) = subst (λ n. n * suc b ≤ a) (sym (abs_neg (a / suc b))) (div-mul-le_self a (suc b))
quotient_fits (negsuc a) (pos b) = subst (λ n. n * b ≤ suc a) (sym (abs_neg (suc a / b))) (div-mul-le_self (suc a) b)
quotient_fits (negsuc a) (negsuc b) = div-mul-le_self (suc a) (suc b)

-- a quotient times y isn't beyond x
pub no_quotient : (z x y : ℤ) → unsigned_abs x < unsigned_abs z * unsigned_abs y → is_quotient z x y ≡ false
no_quotient z x y beyond = false_from_ne_true (is_quotient z x y) (λ is.
    let e : z ≡ int_div x y = (Decides-int_eq z (int_div x y)).0 (and_parts (is_nonzero y) (int_eq z (int_div x y)) is).1 in
    let fits : unsigned_abs z * unsigned_abs y ≤ unsigned_abs x = subst (λ w. unsigned_abs w * unsigned_abs y ≤ unsigned_abs x) (sym e) (quotient_fits x y) in
    absurd (omega (arith, beyond, fits)))

nonzero_abs : (y : ℤ) → is_nonzero y ≡ true → 0 < unsigned_abs y
nonzero_abs (pos zero) is = absurd (false≢true (sym (ap not ((Decides-int_eq (pos 0) (pos 0)).1 refl)) ∙ is))
nonzero_abs (pos (suc n)) is = let p : 0 < suc n = omega arith in p
nonzero_abs (negsuc n) is = let p : 0 < suc n = omega arith in p

-- a remainder is below y
pub no_remainder : (z x y : ℤ) → unsigned_abs y ≤ unsigned_abs z → is_remainder z x y ≡ false
no_remainder z x y above = false_from_ne_true (is_remainder z x y) (λ is.
    let parts = and_parts (is_nonzero y) (int_eq z (int_rem x y)) is in
    let e : z ≡ int_rem x y = (Decides-int_eq z (int_rem x y)).0 parts.1 in
    let below : unsigned_abs z < unsigned_abs y = subst (λ w. unsigned_abs w < unsigned_abs y) (sym e) (rem_below x y (nonzero_abs y parts.0)) in
    absurd (omega (arith, above, below)))
