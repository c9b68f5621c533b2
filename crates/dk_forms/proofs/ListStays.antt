-- Values leave a state as it is where each of them does.
use Rattle.std.specs.Prelude.{[], ◌≡◌, ◌↔◌, ◌≤◌, length, Bool, IsTrue, true, false, List, ◌∷◌, refl}
use Rattle.std.proofs.Common.{sym, ap, ◌∙◌, subst, arith, drop, take, get_or, ◌-◌}
use Rattle.std.proofs.lemmas.Bool.{false≢true}
use Rattle.dk_forms.specs.Laws.{JoinLaws, SummaryLaws}

module _ {S V : Type 0} {Proper : S → Type 0} {empty broken : S} {join : S → S → S} {of : List V → S} (laws : JoinLaws Proper empty broken join) (summary : SummaryLaws Proper empty join of) (s : S) (p : Proper s) where
  nothing_stays : join s (of []) ≡ s
  nothing_stays = ap (join s) summary.none ∙ laws.comm s empty p laws.empty_proper ∙ laws.neutral s p

  both_stay : (a b : S) → Proper a → Proper b → join s a ≡ s → join s b ≡ s → join s (join a b) ≡ s
  both_stay a b pa pb ea eb = sym (laws.assoc s a b p pa pb) ∙ ap (λ t. join t b) ea ∙ eb

  first_stays : (a b : S) → Proper a → Proper b → join s (join a b) ≡ s → join s a ≡ s
  first_stays a b pa pb e =
      let pab = laws.closed a b pa pb in
      ap (λ t. join t a) (sym e) ∙ laws.assoc s (join a b) a p pab pa
      ∙ ap (join s) (laws.comm (join a b) a pab pa ∙ sym (laws.assoc a a b pa pa pb) ∙ ap (λ t. join t b) (laws.idem a pa)) ∙ e

  one_more : (v : V) (vs : List V) → of (v ∷ vs) ≡ join (of (v ∷ [])) (of vs)
  one_more v vs = summary.both (v ∷ []) vs

  -- of no values
  pub none_stay : IsTrue true ↔ (join s (of []) ≡ s)
  none_stay = ((λ h. nothing_stays), (λ h. refl))

  -- the first stays, and so it is of the others
  pub more_stay : (v : V) (vs : List V) {first result : Bool} → IsTrue first ↔ (join s (of (v ∷ [])) ≡ s) → first ≡ true → IsTrue result ↔ (join s (of vs) ≡ s) → IsTrue result ↔ (join s (of (v ∷ vs)) ≡ s)
  more_stay v vs d e h =
      let a = of (v ∷ []) in
      let b = of vs in
      let pa = summary.proper (v ∷ []) in
      let pb = summary.proper vs in (
        (λ r. ap (join s) (one_more v vs) ∙ both_stay a b pa pb (d.0 e) (h.0 r)),
        (λ k. h.1 (first_stays b a pb pa (ap (join s) (laws.comm b a pb pa) ∙ ap (join s) (sym (one_more v vs)) ∙ k))),
      )

  -- the first doesn't stay
  pub first_moves : (v : V) (vs : List V) {first : Bool} → IsTrue first ↔ (join s (of (v ∷ [])) ≡ s) → first ≡ false → IsTrue false ↔ (join s (of (v ∷ vs)) ≡ s)
  first_moves v vs d e = (
    (λ h. absurd (false≢true h)),
    (λ k. sym e ∙ d.1 (first_stays (of (v ∷ [])) (of vs) (summary.proper (v ∷ [])) (summary.proper vs) (ap (join s) (sym (one_more v vs)) ∙ k))),
  )

  -- the same of a list that is known by its first value and the others
  pub more_stay_of : {whole : List V} (v : V) (vs : List V) → whole ≡ v ∷ vs → {first result : Bool} → IsTrue first ↔ (join s (of (v ∷ [])) ≡ s) → first ≡ true → IsTrue result ↔ (join s (of vs) ≡ s) → IsTrue result ↔ (join s (of whole) ≡ s)
  more_stay_of v vs w {result = result} d e h = subst (λ l. IsTrue result ↔ (join s (of l) ≡ s)) (sym w) (more_stay v vs d e h)

  pub first_moves_of : {whole : List V} (v : V) (vs : List V) → whole ≡ v ∷ vs → {first : Bool} → IsTrue first ↔ (join s (of (v ∷ [])) ≡ s) → first ≡ false → IsTrue false ↔ (join s (of whole) ≡ s)
  first_moves_of v vs w d e = subst (λ l. IsTrue false ↔ (join s (of l) ≡ s)) (sym w) (first_moves v vs d e)

-- a list by its first value and the others, as a pattern gives them
abbrev pub others : {V : Type 0} → List V → List V
others xs = take (length xs - 1) (drop 1 xs)

take_whole : {V : Type 0} (xs : List V) → take (length xs) xs ≡ xs
take_whole [] = refl
take_whole (x ∷ xs) = ap (λ t. x ∷ t) (take_whole xs)

pub split : {V : Type 0} (d : V) (xs : List V) → 1 ≤ length xs → xs ≡ get_or xs 0 d ∷ others xs
split d [] h = absurd (omega (arith, h))
split d (x ∷ xs) h = let e : length (x ∷ xs) - 1 ≡ length xs = omega arith in sym (ap (λ n. x ∷ take n xs) e ∙ ap (λ t. x ∷ t) (take_whole xs))
