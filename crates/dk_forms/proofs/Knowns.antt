-- The laws of facts are laws of what is known, and of states.
use Rattle.std.specs.Prelude.{◌≡◌, refl}
use Rattle.std.proofs.Common.{sym, ap, ◌∙◌}
use Rattle.dk_forms.specs.Known.{IfFact, Known, both, broken, fact, nothing}
use Rattle.dk_forms.specs.Laws.{JoinLaws}

-- the laws of a meet of facts that are fit
pub record MeetLaws {F : Type 0} (Fit : F → Type 0) (meet : F → F → Known F) : Type 0 where
  pub closed : (x y : F) → Fit x → Fit y → IfFact Fit (meet x y)
  pub assoc : (x y z : F) → Fit x → Fit y → Fit z → both meet (meet x y) (fact z) ≡ both meet (fact x) (meet y z)
  pub comm : (x y : F) → Fit x → Fit y → meet x y ≡ meet y x
  pub idem : (x : F) → Fit x → meet x x ≡ fact x

module _ {F : Type 0} {Fit : F → Type 0} {meet : F → F → Known F} (laws : MeetLaws Fit meet) where
  both-nothing : (a : Known F) → both meet a nothing ≡ a
  both-nothing nothing = refl
  both-nothing broken = refl
  both-nothing (fact x) = refl

  both-broken : (a : Known F) → both meet a broken ≡ broken
  both-broken nothing = refl
  both-broken broken = refl
  both-broken (fact x) = refl

  assoc : (a b c : Known F) → IfFact Fit a → IfFact Fit b → IfFact Fit c → both meet (both meet a b) c ≡ both meet a (both meet b c)
  assoc nothing b c p q r = refl
  assoc broken b c p q r = refl
  assoc (fact x) nothing c p q r = refl
  assoc (fact x) broken c p q r = refl
  assoc (fact x) (fact y) nothing p q r = both-nothing (meet x y)
  assoc (fact x) (fact y) broken p q r = both-broken (meet x y)
  assoc (fact x) (fact y) (fact z) p q r = laws.assoc x y z p q r

  comm : (a b : Known F) → IfFact Fit a → IfFact Fit b → both meet a b ≡ both meet b a
  comm nothing b p q = sym (both-nothing b)
  comm broken b p q = sym (both-broken b)
  comm (fact x) nothing p q = refl
  comm (fact x) broken p q = refl
  comm (fact x) (fact y) p q = laws.comm x y p q

  closed : (a b : Known F) → IfFact Fit a → IfFact Fit b → IfFact Fit (both meet a b)
  closed nothing b p q = q
  closed broken b p q = tt
  closed (fact x) nothing p q = p
  closed (fact x) broken p q = tt
  closed (fact x) (fact y) p q = laws.closed x y p q

  idem : (a : Known F) → IfFact Fit a → both meet a a ≡ a
  idem nothing p = refl
  idem broken p = refl
  idem (fact x) p = laws.idem x p

  pub known_laws : JoinLaws (IfFact Fit) nothing broken (both meet)
  known_laws = record {
    empty_proper = tt;
    broken_proper = tt;
    closed = closed;
    assoc = assoc;
    comm = comm;
    idem = idem;
    neutral = λ a p. refl;
    absorbs = λ a p. refl;
  }

-- the laws of facts are laws of states
module _ {S F : Type 0} (Proper : S → Type 0) (Fit : F → Type 0) (known : S → Known F) (state : Known F → S) {meet : F → F → Known F}
    (fits : (s : S) → Proper s → IfFact Fit (known s)) (back : (s : S) → Proper s → state (known s) ≡ s)
    (proper : (k : Known F) → IfFact Fit k → Proper (state k)) (again : (k : Known F) → IfFact Fit k → known (state k) ≡ k)
    (of_nothing : known (state nothing) ≡ nothing) (of_broken : known (state broken) ≡ broken) (laws : MeetLaws Fit meet) where
  join : S → S → S
  join a b = state (both meet (known a) (known b))

  abbrev k-laws : JoinLaws (IfFact Fit) nothing broken (both meet)
  k-laws = known_laws laws

  pub laws_of_states : JoinLaws Proper (state nothing) (state broken) (λ a b. state (both meet (known a) (known b)))
  laws_of_states = record {
    empty_proper = proper nothing tt;
    broken_proper = proper broken tt;
    closed = λ a b p q. proper _ (k-laws.closed _ _ (fits a p) (fits b q));
    assoc = λ a b c p q r.
        ap (λ k. state (both meet k (known c))) (again _ (k-laws.closed _ _ (fits a p) (fits b q)))
        ∙ ap state (k-laws.assoc _ _ _ (fits a p) (fits b q) (fits c r))
        ∙ ap (λ k. state (both meet (known a) k)) (sym (again _ (k-laws.closed _ _ (fits b q) (fits c r))));
    comm = λ a b p q. ap state (k-laws.comm _ _ (fits a p) (fits b q));
    idem = λ a p. ap state (k-laws.idem _ (fits a p)) ∙ back a p;
    neutral = λ a p. ap (λ k. state (both meet k (known a))) of_nothing ∙ back a p;
    absorbs = λ a p. ap (λ k. state (both meet k (known a))) of_broken;
  }
