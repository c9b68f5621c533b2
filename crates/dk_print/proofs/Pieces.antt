-- A text that grows by pieces.
use Rattle.std.proofs.Common.{◌≡◌, ◌<◌, ◌+◌, ◌∙◌, ◌++◌, ◌∷◌, [], ℕ, List, length, take, get_or, sym, ap}
use Rattle.std.proofs.lemmas.List.{flat_map_more, take_more}
use Rattle.std.specs.List.{flat_map}

-- one piece more
pub one_more : {X : Type 0} (piece : X → List ℕ) (items : List X) (i : ℕ) (item : X) (start text next : List ℕ)
    → i < length items → item ≡ get_or items i item
    → text ≡ start ++ flat_map piece (take i items) → next ≡ text ++ piece item
    → next ≡ start ++ flat_map piece (take (i + 1) items)
one_more piece items i item start text next lt here so_far step =
    step
    ∙ ap (λ (t : List ℕ). t ++ piece item) so_far
    ∙ flat_map_more piece start (take i items) item
    ∙ ap (λ l. start ++ flat_map piece l) (ap (λ x. take i items ++ x ∷ []) here ∙ sym (take_more items i item lt))
