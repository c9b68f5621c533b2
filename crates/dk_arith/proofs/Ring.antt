-- Identities of sums and products of signed numbers: each side is written as a difference of naturals, which `omega` compares.
use Rattle.std.specs.Prelude.{◌≡◌, ℕ, ◌+◌, ◌*◌, ℤ, ◌+ℤ◌, ◌-ℤ◌, ◌*ℤ◌, neg_ℤ}
use Rattle.std.proofs.Common.{ap, arith}
use borrow.Author.Differences.{up, down, same_in, sum_is_lem, neg_is, product_is}

-- z is p less n
pub record Rep (z : ℤ) (p n : ℕ) : Type 0 where
  pub is : up z + n ≡ down z + p

pub rep : (z : ℤ) → Rep z (up z) (down z)
rep z = record { is = omega arith }

pub rep-add : {a b : ℤ} {p n q m : ℕ} → Rep a p n → Rep b q m → Rep (a +ℤ b) (p + q) (n + m)
rep-add {a = a} {b = b} h k = record { is = omega (arith, sum_is_lem a b, h.is, k.is) }

pub rep-neg : {a : ℤ} {p n : ℕ} → Rep a p n → Rep (neg_ℤ a) n p
rep-neg {a = a} h = let e = neg_is a in record { is = omega (arith, e.0, e.1, h.is) }

pub rep-sub : {a b : ℤ} {p n q m : ℕ} → Rep a p n → Rep b q m → Rep (a -ℤ b) (p + m) (n + q)
rep-sub h k = rep-add h (rep-neg k)

pub rep-mul : {a b : ℤ} {p n q m : ℕ} → Rep a p n → Rep b q m → Rep (a *ℤ b) (p * q + n * m) (p * m + n * q)
rep-mul {a = a} {b = b} {p = p} {n = n} {q = q} {m = m} h k =
    let e = product_is a b in
    record { is = omega (arith, e.0, e.1, ap (λ t. t * up b) h.is, ap (λ t. t * down b) h.is, ap (λ t. p * t) k.is, ap (λ t. n * t) k.is) }

pub same_rep : {a b : ℤ} {p n q m : ℕ} → Rep a p n → Rep b q m → p + m ≡ q + n → a ≡ b
same_rep {a = a} {b = b} h k e = same_in a b (omega (arith, h.is, k.is, e))

-- the distributive and associative laws
pub mul_sub : (a b c : ℤ) → a *ℤ (b -ℤ c) ≡ a *ℤ b -ℤ a *ℤ c
mul_sub a b c = same_rep (rep-mul (rep a) (rep-sub (rep b) (rep c))) (rep-sub (rep-mul (rep a) (rep b)) (rep-mul (rep a) (rep c))) (omega arith)

pub mul_assoc : (a b c : ℤ) → a *ℤ (b *ℤ c) ≡ (a *ℤ b) *ℤ c
mul_assoc a b c = same_rep (rep-mul (rep a) (rep-mul (rep b) (rep c))) (rep-mul (rep-mul (rep a) (rep b)) (rep c)) (omega arith)

-- two lines through a direction: the cross product of their normals is 0 along it
pub cross_along : (a b c d x y : ℤ) → (a *ℤ d -ℤ c *ℤ b) *ℤ x ≡ d *ℤ (a *ℤ x +ℤ b *ℤ y) -ℤ b *ℤ (c *ℤ x +ℤ d *ℤ y)
cross_along a b c d x y =
    same_rep (rep-mul (rep-sub (rep-mul (rep a) (rep d)) (rep-mul (rep c) (rep b))) (rep x))
    (rep-sub (rep-mul (rep d) (rep-add (rep-mul (rep a) (rep x)) (rep-mul (rep b) (rep y)))) (rep-mul (rep b) (rep-add (rep-mul (rep c) (rep x)) (rep-mul (rep d) (rep y)))))
    (omega arith)
