use Rattle.std.specs.Prelude.{◌≡◌}
use Rattle.std.specs.List.{dedup}
use Rattle.std.specs.List.Sorted.{IsNonDecreasingBy}
use Rattle.std.proofs.Common.{rules, subst, sym, ◌∙◌}
use Rattle.std.proofs.lemmas.Fn.{dedup_same}
use Rattle.std.proofs.lemmas.List.Sorted.{IsNonDecreasingBy-from_sort_by_key}
use Rattle.dk_engine.proofs.Numbering.{deduped_together, same_number}
use Rattle.dk_engine.specs.Feeding.Merged.{AreTogether, slot_number}
use Rattle.dk_engine.proofs.feed.merging.in_order.Goals as goal

pub returns : goal.returns
returns c =
    let all = c.args.all.items in
    let sorted = c.sort_by_key.new.self.items in
    let made = c.dedup_by_key.new.self.items in
    let up : IsNonDecreasingBy slot_number sorted = IsNonDecreasingBy-from_sort_by_key slot_number sorted c.in_ok-sort_by_key.ensures.sorted (λ a r f k. search rules) in
    let left : made ≡ dedup same_number sorted = dedup_same _ same_number _ (λ x y b f x' y' k. search rules) sorted made c.dedup_by_key.ensures.filtered in
    subst (AreTogether all) (sym (c.of.ensures ∙ left)) (deduped_together all sorted c.requires c.sort_by_key.ensures.permutation up)
