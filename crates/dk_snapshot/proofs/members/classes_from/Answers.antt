use Rattle.std.specs.Prelude.{◌≡◌, None, length}
use Rattle.std.proofs.Common.{◌∙◌, ap, arith, refl, subst, sym}
use Rattle.std.proofs.lemmas.Bool.{false≢true}
use Rattle.dk_classes.specs.Leaders.{AreClasses}
use Rattle.dk_snapshot.specs.Classes.{classes_of}
use Rattle.dk_snapshot.proofs.Leading.{long_heads, no_members, some_members}
use Rattle.dk_snapshot.proofs.members.classes_from.Goals as goal
use Rattle.dk_snapshot.proofs.members.classes_from.Goals.{else-are_same, then-are_same}

pub are_classes-requires : goal.are_classes-requires
are_classes-requires c =
    let same = ap length (c.as_slice.ensures.value ∙ c.in_ok-heads.ensures) in
    omega (arith, same, long_heads c.args.count c.args.classes.now, c.requires)

pub returns-then-not-are_classes : goal.returns-then-not-are_classes
returns-then-not-are_classes c =
    no_members c.args.count c.args.classes.now c.in_ok-heads.heads.items c.in_ok-heads.ensures
    (λ lawful saved. false≢true (sym c.if-not-are_classes.true ∙ c.are_classes.ensures.1 (subst AreClasses (sym c.as_slice.ensures.value) lawful))) None refl

pub classes_in_order-requires : goal.classes_in_order-requires
classes_in_order-requires c =
    let same = ap length (c.in_ok-found.ensures ∙ (c.from_vec.ensures ∙ c.in_ok-heads.ensures)) in
    sym (same ∙ long_heads c.args.count c.args.classes.now)

pub returns : goal.returns
returns c =
    let found = c.in_ok-found.found in
    let items : found ≡ c.in_ok-heads.heads.items = c.in_ok-found.ensures ∙ c.from_vec.ensures in
    let is = items ∙ c.in_ok-heads.ensures in
    let lawful : AreClasses found = subst AreClasses (c.as_slice.ensures.value ∙ sym items) (c.are_classes.ensures.0 c.if-not-are_classes.false) in
    let saved : c.as_slice-2.result.now ≡ classes_of found = c.as_slice-2.ensures ∙ c.in_ok-saved.ensures in
    elim c.if-are_same.branch [
      | then-are_same w ↦ some_members c.args.count c.args.classes.now found is lawful (sym saved ∙ c.are_same.ensures.0 w.if-are_same.true) c.if-are_same.result w.result-is
      | else-are_same w ↦ no_members c.args.count c.args.classes.now found is (λ _ e. false≢true (sym w.if-are_same.false ∙ c.are_same.ensures.1 (saved ∙ e))) c.if-are_same.result w.result-is
    ]
