-- Lists that grow by pieces, and what is read of a list.
use Rattle.std.proofs.Common.{◌≡◌, ◌==◌, ◌<◌, ◌≤◌, ◌+◌, ◌∙◌, ◌++◌, ◌∷◌, [], ℕ, List, length, map, take, get_or, refl, sym, ap, arith, subst, suc}
use Rattle.std.proofs.lemmas.Bool.{ne_eqb}
use Rattle.std.proofs.lemmas.List.{flat_map_more, get_or-map, get_or_past, length-map, map_more, take_more}
use Rattle.std.proofs.lemmas.List.Folds.{flat_map-map}
use Rattle.std.proofs.lemmas.List.Sums.{fold_more}
use Rattle.std.specs.List.{flat_map, fold, join_by}
use Rattle.dk_base.specs.Pieces.{is_empty}

-- ---- one step of a loop
module _ {X Y : Type 0} (items : List X) (i : ℕ) (item : X) (within : i < length items) (here : item ≡ get_or items i item) where
  -- one piece more
  pub one_more : (piece : X → List Y) (start found next : List Y) → found ≡ start ++ flat_map piece (take i items) → next ≡ found ++ piece item
      → next ≡ start ++ flat_map piece (take (i + 1) items)
  one_more piece start found next so_far step =
      step
      ∙ ap (λ (t : List Y). t ++ piece item) so_far
      ∙ flat_map_more piece start (take i items) item
      ∙ ap (λ l. start ++ flat_map piece l) (ap (λ x. take i items ++ x ∷ []) here ∙ sym (take_more items i item within))

  -- one item more
  pub one_more_item : (f : X → Y) (found next : List Y) → found ≡ map f (take i items) → next ≡ found ++ f item ∷ [] → next ≡ map f (take (i + 1) items)
  one_more_item f found next so_far step =
      step
      ∙ ap (λ (t : List Y). t ++ f item ∷ []) so_far
      ∙ ap (λ x. map f (take i items) ++ f x ∷ []) here
      ∙ sym (map_more f items i item within)

module _ {X Z : Type 0} (items : List X) (i : ℕ) (item : X) (within : i < length items) (here : item ≡ get_or items i item) where
  -- one step more of a fold
  pub one_more_folded : (f : Z → X → Z) (start found next : Z) → found ≡ fold f start (take i items) → next ≡ f found item
      → next ≡ fold f start (take (i + 1) items)
  one_more_folded f start found next so_far step =
      step
      ∙ ap (λ (t : Z). f t item) so_far
      ∙ ap (λ x. f (fold f start (take i items)) x) here
      ∙ sym (fold_more f start items i item within)

-- ---- what a list shows at a place, and past its end
module _ {X Y : Type 0} (show : X → Y) (items : List X) (n : ℕ) (none : Y) where
  pub shown_there : (x : X) → n < length items → x ≡ get_or items n x → show x ≡ get_or (map show items) n none
  shown_there x within is = ap show is ∙ sym (get_or-map show items n x none within)

  pub shown_past : length items ≤ n → none ≡ get_or (map show items) n none
  shown_past past = sym (get_or_past (map show items) n none (subst (λ k. k ≤ n) (sym (length-map items show)) past))

-- ---- nothing at all
pub is_empty_by_length : {X : Type 0} (xs : List X) → is_empty xs ≡ (length xs == 0)
is_empty_by_length [] = refl
is_empty_by_length (x ∷ xs) = sym (ne_eqb (suc (length xs)) 0 (λ e. omega arith))

-- ---- pieces with something between them
pub join_by-map : {X Y A : Type 0} (f : Y → List A) (g : X → Y) (between : List A) (xs : List X) → join_by f between (map g xs) ≡ join_by (λ x. f (g x)) between xs
join_by-map f g between [] = refl
join_by-map f g between (x ∷ xs) = ap (λ ys. f (g x) ++ ys) (flat_map-map (λ y. between ++ f y) g xs)
