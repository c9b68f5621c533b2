-- A state in another order of roles: where the facts can be moved and moved back, the state of moved values is the moved state.
use Rattle.std.specs.Prelude.{[], ◌≡◌, List, ◌∷◌, map, refl}
use Rattle.std.proofs.Common.{sym, ap, ◌∙◌, inl, inr, subst}
use Rattle.dk_forms.proofs.Order.{Below, IsHull, IsHullOf, below-antisymmetric}
use Rattle.dk_forms.specs.Known.{IfFact, Known, broken, fact, nothing}
use Rattle.dk_forms.specs.Laws.{IsIn}

abbrev pub lift : {F : Type 0} → (F → F) → Known F → Known F
lift f nothing = nothing
lift f broken = broken
lift f (fact x) = fact (f x)

-- a renaming of the facts that keeps the order, and one back
pub record IsMove {F V : Type 0} (Fit : F → Type 0) (Le : F → F → Type 0) (one : V → Known F) (move back : F → F) (moved : V → V) : Type 0 where
  pub fit : (x : F) → Fit x → Fit (move x)
  pub back_fit : (x : F) → Fit x → Fit (back x)
  pub keeps : (x y : F) → Fit x → Fit y → Le x y → Le (move x) (move y)
  pub back_keeps : (x y : F) → Fit x → Fit y → Le x y → Le (back x) (back y)
  pub again : (x : F) → Fit x → move (back x) ≡ x
  pub back_again : (x : F) → Fit x → back (move x) ≡ x
  pub ones : (v : V) → one (moved v) ≡ lift move (one v)

module _ {F : Type 0} {Fit : F → Type 0} where
  lift_fit : (f : F → F) → ((x : F) → Fit x → Fit (f x)) → (k : Known F) → IfFact Fit k → IfFact Fit (lift f k)
  lift_fit f g nothing p = tt
  lift_fit f g broken p = tt
  lift_fit f g (fact x) p = g x p

  lift_again : (f g : F → F) → ((x : F) → Fit x → f (g x) ≡ x) → (k : Known F) → IfFact Fit k → lift f (lift g k) ≡ k
  lift_again f g e nothing p = refl
  lift_again f g e broken p = refl
  lift_again f g e (fact x) p = ap fact (e x p)

module _ {F : Type 0} {Fit : F → Type 0} {Le : F → F → Type 0} where
  lift_keeps : (f : F → F) → ((x y : F) → Fit x → Fit y → Le x y → Le (f x) (f y)) → (a b : Known F) → IfFact Fit a → IfFact Fit b → Below Le a b → Below Le (lift f a) (lift f b)
  lift_keeps f g nothing b p q h = tt
  lift_keeps f g broken nothing p q h = absurd h
  lift_keeps f g broken broken p q h = tt
  lift_keeps f g broken (fact y) p q h = absurd h
  lift_keeps f g (fact x) nothing p q h = absurd h
  lift_keeps f g (fact x) broken p q h = tt
  lift_keeps f g (fact x) (fact y) p q h = g x y p q h

in_map : {V : Type 0} (g : V → V) (w : V) (vs : List V) → IsIn w (map g vs) → (v : V) × IsIn v vs × (w ≡ g v)
in_map g w [] i = absurd i
in_map {V = V} g w (u ∷ us) i =
    elim i as (λ _. (v : V) × IsIn v (u ∷ us) × (w ≡ g v)) [ inl e ↦ (u, inl refl, e) | inr j ↦ let r = in_map g w us j in (r.0, inr r.1, r.2) ]

map_in : {V : Type 0} (g : V → V) (v : V) (vs : List V) → IsIn v vs → IsIn (g v) (map g vs)
map_in g v [] i = absurd i
map_in g v (u ∷ us) i = elim i as (λ _. IsIn (g v) (map g (u ∷ us))) [ inl e ↦ inl (ap g e) | inr j ↦ inr (map_in g v us j) ]

pub moved_state : {F V : Type 0} {Fit : F → Type 0} {Le : F → F → Type 0} {meet : F → F → Known F} {one : V → Known F} {of : List V → Known F} {move back : F → F} {moved : V → V}
    → IsHull Fit Le meet → IsHullOf Fit Le one of → IsMove Fit Le one move back moved → (vs : List V) → of (map moved vs) ≡ lift move (of vs)
moved_state {F = F} {V = V} {Fit = Fit} {Le = Le} {one = one} {of = of} {move = move} {back = back} {moved = moved} h k m vs =
    let a = of (map moved vs) in
    let b = of vs in
    let fa = k.fit (map moved vs) in
    let fb = k.fit vs in
    let fm = lift_fit move m.fit b fb in
    let fk = lift_fit back m.back_fit a fa in
    below-antisymmetric h a (lift move b) fa fm
    (k.least (map moved vs) (lift move b) fm (λ w i.
    let r = in_map moved w vs i in
    let e : lift move (one r.0) ≡ one w = sym (m.ones r.0) ∙ ap one (sym r.2) in
    subst (λ j. Below Le j (lift move b)) e (lift_keeps move m.keeps (one r.0) b (k.one_fit r.0) fb (k.holds r.0 vs r.1))))
    (subst (Below Le (lift move b)) (lift_again move back m.again a fa)
    (lift_keeps move m.keeps b (lift back a) fb fk (k.least vs (lift back a) fk (λ v i.
    let e : lift back (one (moved v)) ≡ one v = ap (lift back) (m.ones v) ∙ lift_again back move m.back_again (one v) (k.one_fit v) in
    subst (λ j. Below Le j (lift back a)) e (lift_keeps back m.back_keeps (one (moved v)) a (k.one_fit (moved v)) fa (k.holds (moved v) (map moved vs) (map_in moved v vs i)))))))
