use Rattle.std.proofs.Common.{◌≡◌, ◌∙◌, ◌∷◌, ℕ, List, ap, nat_eq, reverse, subst}
use Rattle.indexmap.specs.IndexMap.{get}
use Rattle.dk_calls.specs.Links.{IsLinked, last_place}
use Rattle.dk_calls.specs.declared.stack.Placed.{Placed}
use Rattle.dk_calls.proofs.Stacking.{latest_below, linked_below, on_top}
use Rattle.dk_calls.proofs.stack.Stack.pop.Goals as goal

pub invariant_of-self-in-Some : goal.invariant_of-self-in-Some
invariant_of-self-in-Some c =
    let left : List Placed = c.pop.new.self.items in
    let top : Placed = c.in-Some.top in
    let stack : reverse c.self.inside.entries.items ≡ top ∷ reverse left = ap reverse c.in-Some.ensures.items ∙ on_top left top in
    let linked : IsLinked (top ∷ reverse left) = subst IsLinked stack c.self.invariant.linked in
    record {
      linked = linked_below top (reverse left) linked;
      latest_are = latest_below top (reverse left) (get nat_eq c.self.inside.latest) (get nat_eq c.set_latest.new.latest) linked
          (λ (q : ℕ). c.self.invariant.latest_are q ∙ ap (last_place q) stack) c.set_latest.ensures;
    }
