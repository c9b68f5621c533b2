-- Tuples of one variable and others that are apart from it: in another order, and some of them.
use Rattle.std.specs.Prelude.{◌≡◌, ◌⊎◌, ◌<◌, ◌&&◌, ◌||◌, ◌==◌, ℕ, zero, suc, Bool, true, false, not, List, [], ◌∷◌, cond, length, map, nat_lt, refl}
use Rattle.std.specs.List.{list_all, list_any}
use Rattle.std.proofs.Common.{◌∙◌, ap, arith, inl, inr, sym}
use Rattle.std.proofs.lemmas.Bool.{and_parts, cases_Bool, eq-eqb, eqb-true, false≢true, ltb-true, not-true, or_left, or_parts, or_right, true≢false}
use Rattle.dk_base.specs.declared.kinds.VarId.{VarId}
use Rattle.dk_presence.specs.Patterns.{has}
use Rattle.dk_template.specs.Exchange.{arrange_tuple, descends, exchange, order_tuple}
use Rattle.dk_template.specs.Premises.{at_role}
use Rattle.dk_template.specs.declared.exchange.Exchange.{Exchange}
use Rattle.dk_template.specs.declared.exchange.Exchange.TheVariants.{First, Last}
use Rattle.dk_template.specs.declared.templates.Symmetry.{Symmetry}
use Rattle.dk_template.specs.declared.templates.Symmetry.TheVariants as symmetry

-- ---- the length of a tuple
exchange_long : (e : Exchange) (vars : List VarId) → length (exchange e vars) ≡ length vars
exchange_long First [] = refl
exchange_long First (x ∷ []) = refl
exchange_long First (x ∷ y ∷ rest) = refl
exchange_long Last [] = refl
exchange_long Last (x ∷ []) = refl
exchange_long Last (x ∷ y ∷ []) = refl
exchange_long Last (x ∷ y ∷ z ∷ rest) = refl

ordered_long : (e : Exchange) (vars : List VarId) → length (order_tuple e vars) ≡ length vars
ordered_long e vars = elim (descends e vars) as (λ b. length (cond b (exchange e vars) vars) ≡ length vars) [ true ↦ exchange_long e vars | false ↦ refl ]

pub arranged_long : (y : Symmetry) (vars : List VarId) → length (arrange_tuple y vars) ≡ length vars
arranged_long symmetry.Fixed vars = refl
arranged_long symmetry.All vars =
    let one = order_tuple Last vars in
    ordered_long Last (order_tuple First one) ∙ (ordered_long First one ∙ ordered_long Last vars)
arranged_long symmetry.Arguments vars = ordered_long Last vars

-- ---- roles
-- none stands twice
abbrev pub are_apart : List ℕ → Bool
are_apart [] = true
are_apart (r ∷ rest) = not (list_any (λ s. s == r) rest) && are_apart rest

-- at a role there is this variable, and at all others are some that are apart from it
pub record Place (a : VarId) (Apart : VarId → Type 0) (vars : List VarId) : Type 0 where
  pub role : ℕ
  pub within : role < length vars
  pub is : at_role role vars ≡ a
  pub apart : (k : ℕ) → k < length vars → (k ≡ role → ⊥) → Apart (at_role k vars)

module _ (a : VarId) (Apart : VarId → Type 0) where
  -- all are apart
  abbrev pub AllApart : List VarId → Type 0
  AllApart [] = Unit {0}
  AllApart (z ∷ rest) = Apart z × AllApart rest

  -- one is the variable, and the others are apart
  abbrev pub Lone : List VarId → Type 0
  Lone [] = ⊥
  Lone (z ∷ rest) = ((z ≡ a) × AllApart rest) ⊎ (Apart z × Lone rest)

  -- ---- in another order
  swap_lone : (x y : VarId) (rest : List VarId) → Lone (x ∷ y ∷ rest) → Lone (y ∷ x ∷ rest)
  swap_lone x y rest (inl h) = inr (h.1.0, inl (h.0, h.1.1))
  swap_lone x y rest (inr h) = elim h.1 as (λ _. Lone (y ∷ x ∷ rest)) [ inl i ↦ inl (i.0, (h.0, i.1)) | inr i ↦ inr (i.0, inr (h.0, i.1)) ]

  exchange_lone : (e : Exchange) (vars : List VarId) → Lone vars → Lone (exchange e vars)
  exchange_lone First [] h = h
  exchange_lone First (x ∷ []) h = h
  exchange_lone First (x ∷ y ∷ rest) h = swap_lone x y rest h
  exchange_lone Last [] h = h
  exchange_lone Last (x ∷ []) h = h
  exchange_lone Last (x ∷ y ∷ []) h = h
  exchange_lone Last (x ∷ y ∷ z ∷ rest) (inl h) = inl (h.0, (h.1.1.0, (h.1.0, h.1.1.1)))
  exchange_lone Last (x ∷ y ∷ z ∷ rest) (inr h) = inr (h.0, swap_lone y z rest h.1)

  ordered_lone : (e : Exchange) (vars : List VarId) → Lone vars → Lone (order_tuple e vars)
  ordered_lone e vars h = elim (descends e vars) as (λ b. Lone (cond b (exchange e vars) vars)) [ true ↦ exchange_lone e vars h | false ↦ h ]

  pub arranged_lone : (y : Symmetry) (vars : List VarId) → Lone vars → Lone (arrange_tuple y vars)
  arranged_lone symmetry.Fixed vars h = h
  arranged_lone symmetry.All vars h = ordered_lone Last (order_tuple First (order_tuple Last vars)) (ordered_lone First (order_tuple Last vars) (ordered_lone Last vars h))
  arranged_lone symmetry.Arguments vars h = ordered_lone Last vars h

  -- ---- where it stands
  apart_at : (vars : List VarId) → AllApart vars → (k : ℕ) → k < length vars → Apart (at_role k vars)
  apart_at [] h k l = absurd (omega (arith, l))
  apart_at (z ∷ rest) h zero l = h.0
  apart_at (z ∷ rest) h (suc k) l = apart_at rest h.1 k (omega (arith, l))

  behind_first : (z : VarId) (rest : List VarId) → AllApart rest → (k : ℕ) → k < length (z ∷ rest) → (k ≡ 0 → ⊥) → Apart (at_role k (z ∷ rest))
  behind_first z rest h zero l n = absurd (n refl)
  behind_first z rest h (suc k) l n = apart_at rest h k (omega (arith, l))

  pub first_place : (rest : List VarId) → AllApart rest → Place a Apart (a ∷ rest)
  first_place rest h = record { role = 0; within = omega arith; is = refl; apart = behind_first a rest h }

  pub first_role : (rest : List VarId) (h : AllApart rest) → (first_place rest h).role ≡ 0
  unfolding first_place
  first_role rest h = refl

  later_place : (z : VarId) (rest : List VarId) → Apart z → (p : Place a Apart rest) → (k : ℕ) → k < length (z ∷ rest) → (k ≡ suc p.role → ⊥) → Apart (at_role k (z ∷ rest))
  later_place z rest h p zero l n = h
  later_place z rest h p (suc k) l n = p.apart k (omega (arith, l)) (λ e. n (ap suc e))

  pub place_of : (vars : List VarId) → Lone vars → Place a Apart vars
  place_of [] h = absurd h
  place_of (z ∷ rest) (inl h) = record { role = 0; within = omega arith; is = h.0; apart = behind_first z rest h.1 }
  place_of (z ∷ rest) (inr h) =
      let p = place_of rest h.1 in
      record { role = suc p.role; within = (let l = p.within in omega (arith, l)); is = p.is; apart = later_place z rest h.0 p }

  -- ---- the variables at some roles, of which one is its
  module _ (vars : List VarId) (p : Place a Apart vars) where
    others_picked : (roles : List ℕ) → list_all (λ r. nat_lt r (length vars)) roles ≡ true → list_any (λ r. r == p.role) roles ≡ false → AllApart (map (λ r. at_role r vars) roles)
    others_picked [] within none = tt
    others_picked (r ∷ rest) within none =
        let w = and_parts (nat_lt r (length vars)) (list_all (λ s. nat_lt s (length vars)) rest) within in
        let n = or_parts (r == p.role) (list_any (λ s. s == p.role) rest) none in
        (p.apart r (ltb-true r (length vars) w.0) (λ e. true≢false (sym (eq-eqb r p.role e) ∙ n.0)), others_picked rest w.1 n.1)

    pub picked_lone : (roles : List ℕ) → list_all (λ r. nat_lt r (length vars)) roles ≡ true → are_apart roles ≡ true → list_any (λ r. r == p.role) roles ≡ true → Lone (map (λ r. at_role r vars) roles)
    picked_lone [] within apart reads = absurd (false≢true reads)
    picked_lone (r ∷ rest) within apart reads =
        let w = and_parts (nat_lt r (length vars)) (list_all (λ s. nat_lt s (length vars)) rest) within in
        let d = and_parts (not (list_any (λ s. s == r) rest)) (are_apart rest) apart in
        elim (cases_Bool (r == p.role)) as (λ _. Lone (at_role r vars ∷ map (λ s. at_role s vars) rest)) [
          | inl here ↦
              (let same = eqb-true r p.role here in
              inl (ap (λ k. at_role k vars) same ∙ p.is, others_picked rest w.1 (ap (λ k. list_any (λ s. s == k) rest) (sym same) ∙ not-true (list_any (λ s. s == r) rest) d.0)))
          | inr there ↦
              inr (p.apart r (ltb-true r (length vars) w.0) (λ e. true≢false (sym (eq-eqb r p.role e) ∙ there)), picked_lone rest w.1 d.1 (sym (ap (λ b. b || list_any (λ s. s == p.role) rest) there) ∙ reads))
        ]

  -- ---- a slot's leaders
  pub lone_has : (vars : List VarId) → Lone vars → has vars a ≡ true
  lone_has [] h = absurd h
  lone_has (z ∷ rest) (inl h) = or_left (z.0 == a.0) (has rest a) (eq-eqb z.0 a.0 (ap (λ (v : VarId). v.0) h.0))
  lone_has (z ∷ rest) (inr h) = or_right (z.0 == a.0) (has rest a) (lone_has rest h.1)

  -- it is alone, or another one is apart
  pub lone_cases : (vars : List VarId) → Lone vars → ((length vars == 1) ≡ true) ⊎ ((z : VarId) × Apart z × (has vars z ≡ true))
  lone_cases [] h = absurd h
  lone_cases (x ∷ []) (inl h) = inl refl
  lone_cases (x ∷ z ∷ rest) (inl h) = inr (z, h.1.0, or_right (x.0 == z.0) (has (z ∷ rest) z) (or_left (z.0 == z.0) (has rest z) (eq-eqb z.0 z.0 refl)))
  lone_cases (z ∷ rest) (inr h) = inr (z, h.0, or_left (z.0 == z.0) (has rest z) (eq-eqb z.0 z.0 refl))
