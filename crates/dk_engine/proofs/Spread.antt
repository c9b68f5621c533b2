-- A row's slots, tuple by tuple.
use Rattle.std.specs.Prelude.{◌≡◌, ◌<◌, ◌≤◌, ◌+◌, ℕ, zero, suc, List, [], ◌∷◌, ◌++◌, filter, flat_map, length, map, refl, take}
use Rattle.std.specs.List.{range_with_len}
use Rattle.std.proofs.Common.{ap, ◌∙◌, arith, sym}
use Rattle.std.proofs.lemmas.List.{append-nil, get_or-map, length-map, map-append, take_all, take_more}
use Rattle.std.proofs.lemmas.List.Elements.{filter-append}
use Rattle.std.proofs.lemmas.Grind.{flat_map-append}
use Rattle.std.proofs.lemmas.List.FromFn.{get_or-range_with_len, length-range_with_len}
use Rattle.dk_base.specs.declared.kinds.VarId.{VarId}
use Rattle.dk_base.specs.declared.kinds.VarInfo.{VarInfo}
use Rattle.dk_constants.specs.Known.{Entries}
use Rattle.dk_forms.specs.declared.states.State.{State}
use Rattle.dk_instances.specs.Instances.{rows_of, tuples_over}
use Rattle.dk_template.specs.Templates.{arity_of, rows_in}
use Rattle.dk_template.specs.declared.grammar.Grammar.{Grammar}
use Rattle.dk_template.specs.declared.grammar.RowId.{RowId}
use Rattle.dk_engine.specs.Feeding.{has_slot, slots_of_row}
use Rattle.dk_engine.specs.Sweeps.{considered, firsts, seconds, thirds}
use Rattle.dk_engine.specs.declared.slots.slot.Slot.{Slot}

module _ (infos : List VarInfo) (known : Entries) (answered : RowId → List VarId → State) (row : RowId) (leaders : List VarId) where
  abbrev slot_with : List VarId → Slot
  slot_with vs = record { row = row; leaders = vs; state = answered row vs }

  abbrev kept_of : List (List VarId) → List Slot
  kept_of tuples = map slot_with (filter (has_slot infos known answered row) tuples)

  -- the slots of the tuples that are so begun and go on with n leaders
  abbrev spread : (List VarId → List VarId) → ℕ → List Slot
  spread begun zero = considered infos known answered row (begun [])
  spread begun (suc n) = flat_map (λ v. spread (λ rest. begun (v ∷ rest)) n) leaders

  kept_both : (xs ys : List (List VarId)) → kept_of (xs ++ ys) ≡ kept_of xs ++ kept_of ys
  kept_both xs ys = ap (map slot_with) (filter-append (has_slot infos known answered row) xs ys) ∙ map-append slot_with (filter (has_slot infos known answered row) xs) (filter (has_slot infos known answered row) ys)

  map_twice : (f g : List VarId → List VarId) (xs : List (List VarId)) → map f (map g xs) ≡ map (λ x. f (g x)) xs
  map_twice f g [] = refl
  map_twice f g (x ∷ xs) = ap (λ ys. f (g x) ∷ ys) (map_twice f g xs)

  kept_spread : (n : ℕ) (begun : List VarId → List VarId) → kept_of (map begun (tuples_over n leaders)) ≡ spread begun n
  kept_spread zero begun = refl
  kept_spread (suc n) begun = go (λ b. kept_spread n b) leaders
    where
      go : ((b : List VarId → List VarId) → kept_of (map b (tuples_over n leaders)) ≡ spread b n) → (vs : List VarId) → kept_of (map begun (flat_map (λ v. map (λ rest. v ∷ rest) (tuples_over n leaders)) vs)) ≡ flat_map (λ v. spread (λ rest. begun (v ∷ rest)) n) vs
      go same [] = refl
      go same (v ∷ vs) =
          let here = map (λ rest. v ∷ rest) (tuples_over n leaders) in
          let later = flat_map (λ w. map (λ rest. w ∷ rest) (tuples_over n leaders)) vs in
          ap kept_of (map-append begun here later)
          ∙ (kept_both (map begun here) (map begun later)
          ∙ (ap (λ ss. ss ++ kept_of (map begun later)) (ap kept_of (map_twice begun (λ rest. v ∷ rest) (tuples_over n leaders)) ∙ same (λ rest. begun (v ∷ rest)))
          ∙ ap (λ ss. spread (λ rest. begun (v ∷ rest)) n ++ ss) (go same vs)))

  map_same : (xs : List (List VarId)) → map (λ x. x) xs ≡ xs
  map_same [] = refl
  map_same (x ∷ xs) = ap (λ ys. x ∷ ys) (map_same xs)

  of_arity : (n : ℕ) → arity_of row ≡ n → spread (λ rest. rest) n ≡ slots_of_row infos leaders known answered row
  of_arity n e =
      sym (ap kept_of (sym (map_same (tuples_over (arity_of row) leaders))) ∙ (ap (λ m. kept_of (map (λ x. x) (tuples_over m leaders))) e ∙ kept_spread n (λ rest. rest)))

  pub of_one : arity_of row ≡ 1 → firsts infos known answered row leaders ≡ slots_of_row infos leaders known answered row
  of_one e = of_arity 1 e

  pub of_two : arity_of row ≡ 2 → flat_map (λ v. seconds infos known answered row v leaders) leaders ≡ slots_of_row infos leaders known answered row
  of_two e = of_arity 2 e

  pub of_three : arity_of row ≡ 3 → flat_map (λ v. flat_map (λ w. thirds infos known answered row v w leaders) leaders) leaders ≡ slots_of_row infos leaders known answered row
  of_three e = of_arity 3 e

-- ---- rows
pub rows_more : (g : Grammar) (n : ℕ) → n < rows_in g → take (n + 1) (rows_of g) ≡ take n (rows_of g) ++ record { 0 = n + 1 } ∷ []
rows_more g n l =
    let f : ℕ → RowId = λ m. record { 0 = m } in
    let numbers = range_with_len 1 (rows_in g) in
    let long : length (rows_of g) ≡ rows_in g = length-map numbers f ∙ length-range_with_len 1 (rows_in g) in
    let within : n < length (rows_of g) = omega (arith, long, l) in
    let there : n < length numbers = (let m = length-range_with_len 1 (rows_in g) in omega (arith, m, l)) in
    take_more (rows_of g) n (f 0) within
    ∙ ap (λ (r : RowId). take n (rows_of g) ++ r ∷ []) (get_or-map f numbers n 0 (f 0) there ∙ ap f (get_or-range_with_len 1 (rows_in g) n 0 l ∙ omega arith))

pub rows_all : (g : Grammar) (n : ℕ) → rows_in g ≤ n → take n (rows_of g) ≡ rows_of g
rows_all g n l =
    let f : ℕ → RowId = λ m. record { 0 = m } in
    let long : length (rows_of g) ≡ rows_in g = length-map (range_with_len 1 (rows_in g)) f ∙ length-range_with_len 1 (rows_in g) in
    take_all n (rows_of g) (omega (arith, long, l))

-- what the rows so far and one more give
pub row_more : {Y : Type 0} (F : RowId → List Y) (g : Grammar) (n : ℕ) → n < rows_in g → flat_map F (take n (rows_of g)) ++ F (record { 0 = n + 1 }) ≡ flat_map F (take (n + 1) (rows_of g))
row_more F g n l =
    let r : RowId = record { 0 = n + 1 } in
    sym (ap (flat_map F) (rows_more g n l) ∙ (flat_map-append F (take n (rows_of g)) (r ∷ []) ∙ ap (λ ss. flat_map F (take n (rows_of g)) ++ ss) (append-nil (F r))))
