-- A state of lists that grows by one value at a time keeps the laws.
use Rattle.std.specs.Prelude.{[], ◌≡◌, List, ◌∷◌, ◌++◌, ◌⊎◌, flat_map, map, refl}
use Rattle.std.proofs.Common.{sym, ap, ◌∙◌, inl, inr, subst}
use Rattle.std.proofs.lemmas.List.Concat.{flat_map-append, flat_map_single}
use Rattle.dk_forms.specs.Laws.{IsIn, JoinLaws, SummaryLaws}

-- a summary, by its value at no value and at one value more
pub record Grows {S V : Type 0} (Proper : S → Type 0) (empty : S) (join : S → S → S) (of : List V → S) : Type 0 where
  pub none : of [] ≡ empty
  pub one : (v : V) → Proper (of (v ∷ []))
  pub more : (v : V) (vs : List V) → of (v ∷ vs) ≡ join (of (v ∷ [])) (of vs)

pub IsIn-append_left : {X : Type 0} (x : X) (xs ys : List X) → IsIn x xs → IsIn x (xs ++ ys)
IsIn-append_left x [] ys h = absurd h
IsIn-append_left x (y ∷ xs) ys h = elim h as (λ _. (x ≡ y) ⊎ IsIn x (xs ++ ys)) [ inl e ↦ inl e | inr r ↦ inr (IsIn-append_left x xs ys r) ]

pub IsIn-append_right : {X : Type 0} (x : X) (xs ys : List X) → IsIn x ys → IsIn x (xs ++ ys)
IsIn-append_right x [] ys h = h
IsIn-append_right x (y ∷ xs) ys h = inr (IsIn-append_right x xs ys h)

module _ {S V : Type 0} {Proper : S → Type 0} {empty broken : S} {join : S → S → S} {of : List V → S} (laws : JoinLaws Proper empty broken join) (grows : Grows Proper empty join of) where
  of_proper : (xs : List V) → Proper (of xs)
  of_proper [] = subst Proper (sym grows.none) laws.empty_proper
  of_proper (x ∷ xs) = subst Proper (sym (grows.more x xs)) (laws.closed _ _ (grows.one x) (of_proper xs))

  of_both : (xs ys : List V) → of (xs ++ ys) ≡ join (of xs) (of ys)
  of_both [] ys = sym (ap (λ s. join s (of ys)) grows.none ∙ laws.neutral _ (of_proper ys))
  of_both (x ∷ xs) ys =
      grows.more x (xs ++ ys) ∙ ap (join (of (x ∷ []))) (of_both xs ys)
      ∙ sym (laws.assoc _ _ _ (grows.one x) (of_proper xs) (of_proper ys))
      ∙ ap (λ s. join s (of ys)) (sym (grows.more x xs))

  -- a value that is there adds nothing
  adds_nothing : (x : V) (ys : List V) → IsIn x ys → join (of (x ∷ [])) (of ys) ≡ of ys
  adds_nothing x [] h = absurd h
  adds_nothing x (y ∷ ys) h =
      elim h as (λ _. join (of (x ∷ [])) (of (y ∷ ys)) ≡ of (y ∷ ys)) [
        | inl e ↦ ap (join (of (x ∷ []))) (grows.more y ys ∙ ap (λ z. join (of (z ∷ [])) (of ys)) (sym e))
            ∙ sym (laws.assoc _ _ _ (grows.one x) (grows.one x) (of_proper ys))
            ∙ ap (λ s. join s (of ys)) (laws.idem _ (grows.one x))
            ∙ ap (λ z. join (of (z ∷ [])) (of ys)) e ∙ sym (grows.more y ys)
        | inr r ↦ ap (join (of (x ∷ []))) (grows.more y ys)
            ∙ sym (laws.assoc _ _ _ (grows.one x) (grows.one y) (of_proper ys))
            ∙ ap (λ s. join s (of ys)) (laws.comm _ _ (grows.one x) (grows.one y))
            ∙ laws.assoc _ _ _ (grows.one y) (grows.one x) (of_proper ys)
            ∙ ap (join (of (y ∷ []))) (adds_nothing x ys r) ∙ sym (grows.more y ys)
      ]

  subset_adds_nothing : (xs ys : List V) → ((x : V) → IsIn x xs → IsIn x ys) → join (of xs) (of ys) ≡ of ys
  subset_adds_nothing [] ys h = ap (λ s. join s (of ys)) grows.none ∙ laws.neutral _ (of_proper ys)
  subset_adds_nothing (x ∷ xs) ys h =
      ap (λ s. join s (of ys)) (grows.more x xs)
      ∙ laws.assoc _ _ _ (grows.one x) (of_proper xs) (of_proper ys)
      ∙ ap (join (of (x ∷ []))) (subset_adds_nothing xs ys (λ z i. h z (inr i)))
      ∙ adds_nothing x ys (h x (inl refl))

  pub summary_from : SummaryLaws Proper empty join of
  summary_from = record {
    none = grows.none;
    proper = of_proper;
    both = of_both;
    same = λ xs ys s. sym (subset_adds_nothing ys xs s.from) ∙ laws.comm _ _ (of_proper ys) (of_proper xs) ∙ subset_adds_nothing xs ys s.to;
  }

-- where each tuple gives some values, the tuples that give the same set of values
module _ {T V : Type 0} (values : T → List V) where
  IsIn-flat_map : (v : V) (t : T) (ts : List T) → IsIn v (values t) → IsIn t ts → IsIn v (flat_map values ts)
  IsIn-flat_map v t [] h i = absurd i
  IsIn-flat_map v t (u ∷ ts) h i =
      elim i as (λ _. IsIn v (values u ++ flat_map values ts)) [
        | inl e ↦ IsIn-append_left v (values u) _ (subst (λ w. IsIn v (values w)) e h)
        | inr r ↦ IsIn-append_right v (values u) _ (IsIn-flat_map v t ts h r)
      ]

  IsIn-append_cases : (v : V) (xs ys : List V) → IsIn v (xs ++ ys) → IsIn v xs ⊎ IsIn v ys
  IsIn-append_cases v [] ys h = inr h
  IsIn-append_cases v (x ∷ xs) ys h =
      elim h as (λ _. ((v ≡ x) ⊎ IsIn v xs) ⊎ IsIn v ys) [
        | inl e ↦ inl (inl e)
        | inr r ↦ elim (IsIn-append_cases v xs ys r) as (λ _. ((v ≡ x) ⊎ IsIn v xs) ⊎ IsIn v ys) [ inl a ↦ inl (inr a) | inr b ↦ inr b ]
      ]

  within : (v : V) (ts us : List T) → ((t : T) → IsIn t ts → IsIn t us) → IsIn v (flat_map values ts) → IsIn v (flat_map values us)
  within v [] us h i = absurd i
  within v (t ∷ ts) us h i =
      elim (IsIn-append_cases v (values t) (flat_map values ts) i) as (λ _. IsIn v (flat_map values us)) [
        | inl a ↦ IsIn-flat_map v t us a (h t (inl refl))
        | inr b ↦ within v ts us (λ u j. h u (inr j)) b
      ]

  -- a summary of the values is one of the tuples
  pub along : {S : Type 0} {Proper : S → Type 0} {empty : S} {join : S → S → S} {of : List V → S} → SummaryLaws Proper empty join of → SummaryLaws Proper empty join (λ ts. of (flat_map values ts))
  along {join = join} {of = of} laws = record {
    none = laws.none;
    proper = λ ts. laws.proper (flat_map values ts);
    both = λ ts us. ap of (flat_map-append values ts us) ∙ laws.both _ _;
    same = λ ts us s. laws.same _ _ (record { to = λ v i. within v ts us s.to i; from = λ v i. within v us ts s.from i });
  }

-- the same, where each tuple gives one value
module _ {T V : Type 0} (value : T → V) where
  pub along_map : {S : Type 0} {Proper : S → Type 0} {empty : S} {join : S → S → S} {of : List V → S} → SummaryLaws Proper empty join of → SummaryLaws Proper empty join (λ ts. of (map value ts))
  along_map {Proper = Proper} {empty = empty} {join = join} {of = of} laws =
      let same : (ts : List T) → of (flat_map (λ t. value t ∷ []) ts) ≡ of (map value ts) = λ ts. ap of (flat_map_single value ts) in
      let l = along (λ t. value t ∷ []) laws in
      record {
        none = laws.none;
        proper = λ ts. laws.proper (map value ts);
        both = λ ts us. sym (same (ts ++ us)) ∙ l.both ts us ∙ ap (λ s. join s (of (flat_map (λ t. value t ∷ []) us))) (same ts) ∙ ap (join (of (map value ts))) (same us);
        same = λ ts us s. sym (same ts) ∙ l.same ts us s ∙ same us;
      }
