-- A join that is the least upper bound of an order keeps the laws, and so does the state of a list that is the least upper bound of its values.
use Rattle.std.specs.Prelude.{[], ◌≡◌, List, ◌∷◌, refl}
use Rattle.std.proofs.Common.{ap, subst, inl, inr}
use Rattle.dk_forms.specs.Known.{IfFact, Known, both, broken, fact, nothing}
use Rattle.dk_forms.specs.Laws.{IsIn}
use Rattle.dk_forms.proofs.Knowns.{MeetLaws}

-- the first says at least as much as the second, of fewer values
abbrev pub Below : {F : Type 0} → (F → F → Type 0) → Known F → Known F → Type 0
Below Le nothing b = Unit {0}
Below Le a broken = Unit {0}
Below Le broken b = ⊥
Below Le (fact x) nothing = ⊥
Below Le (fact x) (fact y) = Le x y

-- what is known of both, and no more
pub record IsJoinOf {F : Type 0} (Fit : F → Type 0) (Le : F → F → Type 0) (x y : F) (k : Known F) : Type 0 where
  pub fit : IfFact Fit k
  pub first : Below Le (fact x) k
  pub second : Below Le (fact y) k
  pub least : (z : F) → Fit z → Le x z → Le y z → Below Le k (fact z)

pub turned : {F : Type 0} {Fit : F → Type 0} {Le : F → F → Type 0} {x y : F} {k : Known F} → IsJoinOf Fit Le x y k → IsJoinOf Fit Le y x k
turned h = record { fit = h.fit; first = h.second; second = h.first; least = λ z f p q. h.least z f q p }

-- an order of the facts that are fit, and `meet` its least upper bound
pub record IsHull {F : Type 0} (Fit : F → Type 0) (Le : F → F → Type 0) (meet : F → F → Known F) : Type 0 where
  pub same : (x : F) → Fit x → Le x x
  pub antisymmetric : (x y : F) → Fit x → Fit y → Le x y → Le y x → x ≡ y
  pub transitive : (x y z : F) → Fit x → Fit y → Fit z → Le x y → Le y z → Le x z
  pub joins : (x y : F) → Fit x → Fit y → IsJoinOf Fit Le x y (meet x y)

-- the state of a list is the least upper bound of its values' states
pub record IsHullOf {F V : Type 0} (Fit : F → Type 0) (Le : F → F → Type 0) (one : V → Known F) (of : List V → Known F) : Type 0 where
  pub one_fit : (v : V) → IfFact Fit (one v)
  pub fit : (vs : List V) → IfFact Fit (of vs)
  pub holds : (v : V) (vs : List V) → IsIn v vs → Below Le (one v) (of vs)
  pub least : (vs : List V) (k : Known F) → IfFact Fit k → ((v : V) → IsIn v vs → Below Le (one v) k) → Below Le (of vs) k

module _ {F : Type 0} {Fit : F → Type 0} {Le : F → F → Type 0} {meet : F → F → Known F} (h : IsHull Fit Le meet) where
  below-same : (a : Known F) → IfFact Fit a → Below Le a a
  below-same nothing p = tt
  below-same broken p = tt
  below-same (fact x) p = h.same x p

  pub below-antisymmetric : (a b : Known F) → IfFact Fit a → IfFact Fit b → Below Le a b → Below Le b a → a ≡ b
  below-antisymmetric nothing nothing p q r s = refl
  below-antisymmetric nothing broken p q r s = absurd s
  below-antisymmetric nothing (fact y) p q r s = absurd s
  below-antisymmetric broken nothing p q r s = absurd r
  below-antisymmetric broken broken p q r s = refl
  below-antisymmetric broken (fact y) p q r s = absurd r
  below-antisymmetric (fact x) nothing p q r s = absurd r
  below-antisymmetric (fact x) broken p q r s = absurd s
  below-antisymmetric (fact x) (fact y) p q r s = ap fact (h.antisymmetric x y p q r s)

  below-any : (b : Known F) → Below Le nothing b
  below-any b = tt

  pub below-broken : (a : Known F) → Below Le a broken
  below-broken nothing = tt
  below-broken broken = tt
  below-broken (fact x) = tt

  pub below-transitive : (a b c : Known F) → IfFact Fit a → IfFact Fit b → IfFact Fit c → Below Le a b → Below Le b c → Below Le a c
  below-transitive nothing b c p q r s t = tt
  below-transitive broken nothing c p q r s t = absurd s
  below-transitive broken broken c p q r s t = t
  below-transitive broken (fact y) c p q r s t = absurd s
  below-transitive (fact x) nothing c p q r s t = absurd s
  below-transitive (fact x) broken nothing p q r s t = absurd t
  below-transitive (fact x) broken broken p q r s t = tt
  below-transitive (fact x) broken (fact z) p q r s t = absurd t
  below-transitive (fact x) (fact y) nothing p q r s t = absurd t
  below-transitive (fact x) (fact y) broken p q r s t = tt
  below-transitive (fact x) (fact y) (fact z) p q r s t = h.transitive x y z p q r s t

  both-fit : (a b : Known F) → IfFact Fit a → IfFact Fit b → IfFact Fit (both meet a b)
  both-fit nothing b p q = q
  both-fit broken b p q = tt
  both-fit (fact x) nothing p q = p
  both-fit (fact x) broken p q = tt
  both-fit (fact x) (fact y) p q = (h.joins x y p q).fit

  both-first : (a b : Known F) → IfFact Fit a → IfFact Fit b → Below Le a (both meet a b)
  both-first nothing b p q = tt
  both-first broken b p q = tt
  both-first (fact x) nothing p q = h.same x p
  both-first (fact x) broken p q = tt
  both-first (fact x) (fact y) p q = (h.joins x y p q).first

  both-second : (a b : Known F) → IfFact Fit a → IfFact Fit b → Below Le b (both meet a b)
  both-second nothing b p q = below-same b q
  both-second broken b p q = below-broken b
  both-second (fact x) nothing p q = tt
  both-second (fact x) broken p q = tt
  both-second (fact x) (fact y) p q = (h.joins x y p q).second

  both-least : (a b c : Known F) → IfFact Fit a → IfFact Fit b → IfFact Fit c → Below Le a c → Below Le b c → Below Le (both meet a b) c
  both-least nothing b c p q r s t = t
  both-least broken b c p q r s t = s
  both-least (fact x) nothing c p q r s t = s
  both-least (fact x) broken c p q r s t = t
  both-least (fact x) (fact y) nothing p q r s t = absurd s
  both-least (fact x) (fact y) broken p q r s t = below-broken (meet x y)
  both-least (fact x) (fact y) (fact z) p q r s t = (h.joins x y p q).least z r s t

  both-assoc : (a b c : Known F) → IfFact Fit a → IfFact Fit b → IfFact Fit c → both meet (both meet a b) c ≡ both meet a (both meet b c)
  both-assoc a b c p q r =
      let ab = both meet a b in
      let bc = both meet b c in
      let pq = both-fit a b p q in
      let qr = both-fit b c q r in
      let left = both meet ab c in
      let right = both meet a bc in
      let pl = both-fit ab c pq r in
      let pr = both-fit a bc p qr in
      let ab_left = both-first ab c pq r in
      let bc_right = both-second a bc p qr in
      below-antisymmetric left right pl pr
      (both-least ab c right pq r pr
      (both-least a b right p q pr (both-first a bc p qr) (below-transitive b bc right q qr pr (both-first b c q r) bc_right))
      (below-transitive c bc right r qr pr (both-second b c q r) bc_right))
      (both-least a bc left p qr pl
      (below-transitive a ab left p pq pl (both-first a b p q) ab_left)
      (both-least b c left q r pl (below-transitive b ab left q pq pl (both-second a b p q) ab_left) (both-second ab c pq r)))

  both-comm : (a b : Known F) → IfFact Fit a → IfFact Fit b → both meet a b ≡ both meet b a
  both-comm a b p q =
      below-antisymmetric (both meet a b) (both meet b a) (both-fit a b p q) (both-fit b a q p)
      (both-least a b (both meet b a) p q (both-fit b a q p) (both-second b a q p) (both-first b a q p))
      (both-least b a (both meet a b) q p (both-fit a b p q) (both-second a b p q) (both-first a b p q))

  both-idem : (a : Known F) → IfFact Fit a → both meet a a ≡ a
  both-idem a p =
      below-antisymmetric (both meet a a) a (both-fit a a p p) p
      (both-least a a a p p p (below-same a p) (below-same a p)) (both-first a a p p)

  -- the four laws
  pub laws_of_hull : MeetLaws Fit meet
  laws_of_hull = record {
    closed = λ x y p q. (h.joins x y p q).fit;
    assoc = λ x y z p q r. both-assoc (fact x) (fact y) (fact z) p q r;
    comm = λ x y p q. both-comm (fact x) (fact y) p q;
    idem = λ x p. both-idem (fact x) p;
  }

  -- one value more
  pub more_of_hull : {V : Type 0} {one : V → Known F} {of : List V → Known F} → IsHullOf Fit Le one of → (v : V) (vs : List V) → of (v ∷ vs) ≡ both meet (of (v ∷ [])) (of vs)
  more_of_hull {one = one} {of = of} k v vs =
      let a = of (v ∷ []) in
      let b = of vs in
      let all = of (v ∷ vs) in
      let p = k.fit (v ∷ []) in
      let q = k.fit vs in
      let r = k.fit (v ∷ vs) in
      let j = both-fit a b p q in
      below-antisymmetric all (both meet a b) r j
      (k.least (v ∷ vs) (both meet a b) j (λ w i. elim i as (λ _. Below Le (one w) (both meet a b)) [
        | inl e ↦ below-transitive (one w) a (both meet a b) (k.one_fit w) p j (k.holds w (v ∷ []) (inl e)) (both-first a b p q)
        | inr i' ↦ below-transitive (one w) b (both meet a b) (k.one_fit w) q j (k.holds w vs i') (both-second a b p q)
      ]))
      (both-least a b all p q r
      (k.least (v ∷ []) all r (λ w i. elim i as (λ _. Below Le (one w) all) [
        | inl e ↦ k.holds w (v ∷ vs) (inl e)
        | inr z ↦ absurd z
      ]))
      (k.least vs all r (λ w i. k.holds w (v ∷ vs) (inr i))))

  -- what changes nothing is what says no more
  pub meet_stays : (x y : F) → Fit x → Fit y → Le y x → meet x y ≡ fact x
  meet_stays x y p q le =
      let j = h.joins x y p q in
      below-antisymmetric (meet x y) (fact x) j.fit p (j.least x p (h.same x p) le) j.first

  pub meet_says_no_more : (x y : F) → Fit x → Fit y → meet x y ≡ fact x → Le y x
  meet_says_no_more x y p q e = subst (Below Le (fact y)) e (h.joins x y p q).second
