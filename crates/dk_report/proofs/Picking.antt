-- Variables of which none comes twice, in another order, and some of them.
use Rattle.std.specs.Prelude.{◌≡◌, ◌<◌, ◌&&◌, ◌==◌, ℕ, zero, suc, Bool, true, false, not, List, [], ◌∷◌, if◌then◌else◌, length, map, refl}
use Rattle.std.specs.List.{list_all}
use Rattle.std.proofs.Common.{◌∙◌, ap, arith, inl, inr, subst, sym}
use Rattle.std.proofs.lemmas.Bool.{and_parts, eq-eqb, not-true, true≢false}
use Rattle.std.proofs.lemmas.List.{get_or-map}
use Rattle.dk_base.specs.declared.kinds.VarId.{VarId}
use Rattle.dk_forms.specs.Laws.{IsIn}
use Rattle.dk_instances.proofs.Members.{of_map}
use Rattle.dk_instances.specs.Instances.{are_distinct}
use Rattle.dk_template.specs.Exchange.{arrange_tuple, descends, exchange, order_tuple, written_order}
use Rattle.dk_template.specs.Premises.{at_role}
use Rattle.dk_template.specs.Templates.{template_of}
use Rattle.dk_template.specs.declared.exchange.Exchange.{Exchange}
use Rattle.dk_template.specs.declared.exchange.Exchange.TheVariants.{First, Last}
use Rattle.dk_template.specs.declared.grammar.RowId.{RowId}
use Rattle.dk_template.specs.declared.templates.Symmetry.{Symmetry}
use Rattle.dk_template.specs.declared.templates.Symmetry.TheVariants as symmetry

-- ---- tests of lists
pub all-at : {X : Type 0} (q : X → Bool) (x : X) (xs : List X) → IsIn x xs → list_all q xs ≡ true → q x ≡ true
all-at q x [] i h = absurd i
all-at q x (y ∷ xs) (inl e) h = ap q e ∙ (and_parts (q y) (list_all q xs) h).0
all-at q x (y ∷ xs) (inr i) h = all-at q x xs i (and_parts (q y) (list_all q xs) h).1

-- ---- none comes twice
abbrev pub Apart : List VarId → Type 0
Apart [] = Unit {0}
Apart (v ∷ vars) = ((w : VarId) → IsIn w vars → v.0 ≡ w.0 → ⊥) × Apart vars

pub apart-from : (vars : List VarId) → are_distinct vars ≡ true → Apart vars
apart-from [] h = tt
apart-from (v ∷ vars) h =
    let hs = and_parts (list_all (λ (w : VarId). not (v.0 == w.0)) vars) (are_distinct vars) h in
    (λ w i e. true≢false (sym (eq-eqb v.0 w.0 e) ∙ not-true (v.0 == w.0) (all-at (λ (w : VarId). not (v.0 == w.0)) w vars i hs.0)), apart-from vars hs.1)

pub in-at : (vars : List VarId) (k : ℕ) → k < length vars → IsIn (at_role k vars) vars
in-at [] k l = absurd (omega (arith, l))
in-at (v ∷ vars) zero l = inl refl
in-at (v ∷ vars) (suc k) l = inr (in-at vars k (omega (arith, l)))

pub apart-at : (vars : List VarId) → Apart vars → (i j : ℕ) → i < length vars → j < length vars → (at_role i vars).0 ≡ (at_role j vars).0 → i ≡ j
apart-at [] a i j l m e = absurd (omega (arith, l))
apart-at (v ∷ vars) a zero zero l m e = refl
apart-at (v ∷ vars) a zero (suc j) l m e = absurd (a.0 (at_role j vars) (in-at vars j (omega (arith, m))) e)
apart-at (v ∷ vars) a (suc i) zero l m e = absurd (a.0 (at_role i vars) (in-at vars i (omega (arith, l))) (sym e))
apart-at (v ∷ vars) a (suc i) (suc j) l m e = ap suc (apart-at vars a.1 i j (omega (arith, l)) (omega (arith, m)) e)

-- where a variable stands
pub place-of : (v : VarId) (vars : List VarId) → IsIn v vars → (k : ℕ) × (k < length vars) × (at_role k vars ≡ v)
place-of v [] i = absurd i
place-of v (w ∷ vars) (inl e) = (0, omega arith, sym e)
place-of v (w ∷ vars) (inr i) = let rest = place-of v vars i in (suc rest.0, (let l = rest.1 in omega (arith, l)), rest.2)

-- ---- in another order
-- the same variables, none of them twice
pub record AreMoved (vars others : List VarId) : Type 0 where
  pub apart : Apart others
  pub long : length others ≡ length vars
  pub to : (w : VarId) → IsIn w vars → IsIn w others
  pub from : (w : VarId) → IsIn w others → IsIn w vars

swap-in : (v w u : VarId) (rest : List VarId) → IsIn u (v ∷ w ∷ rest) → IsIn u (w ∷ v ∷ rest)
swap-in v w u rest (inl e) = inr (inl e)
swap-in v w u rest (inr (inl e)) = inl e
swap-in v w u rest (inr (inr i)) = inr (inr i)

swap-apart : (v w : VarId) (rest : List VarId) → Apart (v ∷ w ∷ rest) → Apart (w ∷ v ∷ rest)
swap-apart v w rest a = (
  λ u i e. elim i as (λ _. ⊥) [
    | inl same ↦ a.0 w (inl refl) (sym (e ∙ ap (λ (x : VarId). x.0) same))
    | inr later ↦ a.1.0 u later e
  ],
  (λ u i e. a.0 u (inr i) e, a.1.1),
)

moved-self : (vars : List VarId) → Apart vars → AreMoved vars vars
moved-self vars a = record { apart = a; long = refl; to = λ w i. i; from = λ w i. i }

moved-two : (v w : VarId) (rest : List VarId) → Apart (v ∷ w ∷ rest) → AreMoved (v ∷ w ∷ rest) (w ∷ v ∷ rest)
moved-two v w rest a = record { apart = swap-apart v w rest a; long = refl; to = λ u i. swap-in v w u rest i; from = λ u i. swap-in w v u rest i }

moved-last : (u v w : VarId) (rest : List VarId) → Apart (u ∷ v ∷ w ∷ rest) → AreMoved (u ∷ v ∷ w ∷ rest) (u ∷ w ∷ v ∷ rest)
moved-last u v w rest a = record {
  apart = (λ x i e. a.0 x (swap-in w v x rest i) e, swap-apart v w rest a.1);
  long = refl;
  to = λ x i. elim i as (λ _. IsIn x (u ∷ w ∷ v ∷ rest)) [ inl e ↦ inl e | inr j ↦ inr (swap-in v w x rest j) ];
  from = λ x i. elim i as (λ _. IsIn x (u ∷ v ∷ w ∷ rest)) [ inl e ↦ inl e | inr j ↦ inr (swap-in w v x rest j) ];
}

moved-exchange : (e : Exchange) (vars : List VarId) → Apart vars → AreMoved vars (exchange e vars)
moved-exchange First [] a = moved-self [] a
moved-exchange First (v ∷ []) a = moved-self (v ∷ []) a
moved-exchange First (v ∷ w ∷ rest) a = moved-two v w rest a
moved-exchange Last [] a = moved-self [] a
moved-exchange Last (u ∷ []) a = moved-self (u ∷ []) a
moved-exchange Last (u ∷ v ∷ []) a = moved-self (u ∷ v ∷ []) a
moved-exchange Last (u ∷ v ∷ w ∷ rest) a = moved-last u v w rest a

moved-on : (a b c : List VarId) → AreMoved a b → AreMoved b c → AreMoved a c
moved-on a b c f g = record { apart = g.apart; long = g.long ∙ f.long; to = λ w i. g.to w (f.to w i); from = λ w i. f.from w (g.from w i) }

module _ (f : VarId → VarId) where
  map-exchange : (e : Exchange) (vars : List VarId) → exchange e (map f vars) ≡ map f (exchange e vars)
  map-exchange First [] = refl
  map-exchange First (v ∷ []) = refl
  map-exchange First (v ∷ w ∷ rest) = refl
  map-exchange Last [] = refl
  map-exchange Last (u ∷ []) = refl
  map-exchange Last (u ∷ v ∷ []) = refl
  map-exchange Last (u ∷ v ∷ w ∷ rest) = refl

  -- the images of variables in another order
  abbrev pub IsMovedTo : List VarId → List VarId → Type 0
  IsMovedTo vars leaders = (others : List VarId) × (leaders ≡ map f others) × AreMoved vars others

  moved-by : (e : Exchange) (vars : List VarId) → Apart vars → (b : Bool) → IsMovedTo vars (if b then exchange e (map f vars) else map f vars)
  moved-by e vars a true = (exchange e vars, map-exchange e vars, moved-exchange e vars a)
  moved-by e vars a false = (vars, refl, moved-self vars a)

  moved-ordered : (e : Exchange) (vars leaders : List VarId) → IsMovedTo vars leaders → IsMovedTo vars (order_tuple e leaders)
  moved-ordered e vars leaders m =
      let next = moved-by e m.0 m.2.apart (descends e (map f m.0)) in
      (next.0, ap (λ ls. order_tuple e ls) m.1 ∙ next.1, moved-on vars m.0 next.0 m.2 next.2)

  moved-arranged : (s : Symmetry) (vars : List VarId) → Apart vars → IsMovedTo vars (arrange_tuple s (map f vars))
  moved-arranged symmetry.Fixed vars a = (vars, refl, moved-self vars a)
  moved-arranged symmetry.All vars a =
      let all = map f vars in
      moved-ordered Last vars (order_tuple First (order_tuple Last all)) (moved-ordered First vars (order_tuple Last all) (moved-ordered Last vars all (vars, refl, moved-self vars a)))
  moved-arranged symmetry.Arguments vars a = moved-ordered Last vars (map f vars) (vars, refl, moved-self vars a)

  -- leaders in a row's written order are those of the variables in some order
  pub moved-written : (row : RowId) (vars : List VarId) → Apart vars → IsMovedTo vars (written_order row (map f vars))
  moved-written row vars a = moved-arranged (template_of row).symmetry vars a

  -- the leader at a role is that of the variable there
  pub at-map : (vars : List VarId) (k : ℕ) → k < length vars → at_role k (map f vars) ≡ f (at_role k vars)
  at-map vars k l = get_or-map f vars k (record { 0 = 0 }) (record { 0 = 0 }) l

-- ---- some of them
-- no role comes twice
abbrev pub are_apart : List ℕ → Bool
are_apart [] = true
are_apart (r ∷ roles) = list_all (λ s. not (r == s)) roles && are_apart roles

abbrev pub picked : List VarId → List ℕ → List VarId
picked vars roles = map (λ role. at_role role vars) roles

pub picked-apart : (vars : List VarId) → Apart vars → (roles : List ℕ) → are_apart roles ≡ true → ((r : ℕ) → IsIn r roles → r < length vars) → Apart (picked vars roles)
picked-apart vars a [] h within = tt
picked-apart vars a (r ∷ roles) h within =
    let hs = and_parts (list_all (λ s. not (r == s)) roles) (are_apart roles) h in (
      λ w i e.
          let m = of_map {X = ℕ} {Y = VarId} (λ role. at_role role vars) w roles i in
          let same : r ≡ m.0 = apart-at vars a r m.0 (within r (inl refl)) (within m.0 (inr m.1)) (e ∙ ap (λ (x : VarId). x.0) m.2) in
          true≢false (sym (eq-eqb r m.0 same) ∙ not-true (r == m.0) (all-at (λ s. not (r == s)) m.0 roles m.1 hs.0)),
      picked-apart vars a roles hs.1 (λ s i. within s (inr i)),
    )

pub picked-in : (vars : List VarId) (roles : List ℕ) → ((r : ℕ) → IsIn r roles → r < length vars) → (w : VarId) → IsIn w (picked vars roles) → IsIn w vars
picked-in vars [] within w i = absurd i
picked-in vars (r ∷ roles) within w (inl e) = subst (λ x. IsIn x vars) (sym e) (in-at vars r (within r (inl refl)))
picked-in vars (r ∷ roles) within w (inr i) = picked-in vars roles (λ s j. within s (inr j)) w i

pub picked-map : (f : VarId → VarId) (vars : List VarId) (roles : List ℕ) → ((r : ℕ) → IsIn r roles → r < length vars) → picked (map f vars) roles ≡ map f (picked vars roles)
picked-map f vars [] within = refl
picked-map f vars (r ∷ roles) within =
    ap (λ rest. at_role r (map f vars) ∷ rest) (picked-map f vars roles (λ s i. within s (inr i)))
    ∙ ap (λ x. x ∷ map f (picked vars roles)) (at-map f vars r (within r (inl refl)))
