use Rattle.std.specs.Prelude.{ℕ, List, [], ◌∷◌, ◌++◌}
use Rattle.std.proofs.Common.{◌∙◌, ap, sym}
use Rattle.dk_hierarchy.proofs.Marks.{range-more}
use Rattle.dk_hierarchy.proofs.having.places.Goals as goal

pub loop-place-preserved : goal.loop-place-preserved
loop-place-preserved c =
    c.in_ok-push.ensures.items
    ∙ (ap (λ (xs : List ℕ). xs ++ c.loop-place.place ∷ []) c.loop-place.invariant ∙ sym (range-more c.loop-place.place))
