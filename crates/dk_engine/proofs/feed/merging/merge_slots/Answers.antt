use Rattle.std.specs.Prelude.{◌≡◌, ◌++◌, All, List, [], ◌∷◌, length, refl}
use Rattle.std.proofs.Common.{ap, ◌∙◌, arith, subst, sym}
use Rattle.std.proofs.lemmas.Bool.{eqb-true}
use Rattle.std.proofs.lemmas.List.Elements.{All-append}
use Rattle.dk_engine.proofs.Numbering.{alone_together}
use Rattle.dk_engine.specs.Feeding.Merged.{AreTogether, HasNumber}
use Rattle.dk_engine.specs.declared.slots.slot.Slot.{Slot}
use Rattle.dk_engine.proofs.feed.merging.merge_slots.Goals as goal

none : (slots : List Slot) → length slots ≡ 0 → slots ≡ []
none [] e = refl
none (s ∷ slots) e = absurd (omega (arith, e))

pub returns-then-is_empty : goal.returns-then-is_empty
returns-then-is_empty c =
    let found = c.as_slice.result.now in
    let empty : c.args.opened ≡ [] = sym c.as_slice.ensures ∙ none found (eqb-true (length found) 0 (sym c.is_empty.ensures ∙ c.if-is_empty.true)) in
    subst (λ ss. AreTogether (c.args.left ++ ss) c.args.left) (sym empty) (alone_together c.args.left c.requires.ascend)

pub in_order-requires : goal.in_order-requires
in_order-requires c =
    let left = c.args.left in
    let opened = c.args.opened in
    let behind = c.into_vec-2.result.items in
    let both : c.in_ok-concatenate.field-0.items ≡ left ++ opened =
    c.in_ok-concatenate.ensures ∙ (ap (λ ss. ss ++ behind) c.into_vec.ensures ∙ ap (λ ss. left ++ ss) c.into_vec-2.ensures) in
    subst (All HasNumber) (sym both) (All-append HasNumber left opened c.requires.left c.requires.opened)
