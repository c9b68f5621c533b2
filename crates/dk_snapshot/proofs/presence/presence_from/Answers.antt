use Rattle.std.specs.List.Sorted.{IsPermutation}
use Rattle.std.proofs.Common.{◌∙◌, subst, sym}
use Rattle.std.proofs.lemmas.Bool.{false≢true}
use Rattle.std.proofs.lemmas.Option.{none-some}
use Rattle.dk_presence.specs.Patterns.{AreHeld}
use Rattle.dk_snapshot.proofs.Restoring.{have_these}
use Rattle.dk_snapshot.proofs.Rising.{are_in_order, have_patterns, held_in_order}
use Rattle.dk_snapshot.specs.Restored.{AreInOrder, HavePatterns}
use Rattle.dk_snapshot.proofs.presence.presence_from.Goals as goal

pub returns-then-not-are_in_order-clause-any : goal.returns-then-not-are_in_order-clause-any
returns-then-not-are_in_order-clause-any c = λ held have.
    let are = are_in_order c.args.leaders.now c.requires c.args.patterns held have in
    absurd (false≢true (sym c.if-not-are_in_order.true ∙ c.are_in_order.ensures.1 (subst (AreInOrder _) (sym c.as_slice.ensures) are)))

pub from_held-requires : goal.from_held-requires
from_held-requires c =
    let are = c.are_in_order.ensures.0 c.if-not-are_in_order.false in
    subst AreHeld (sym c.in_ok-held.ensures) (held_in_order c.args.leaders.now c.requires c.args.patterns (subst (AreInOrder _) c.as_slice.ensures are))

pub returns-clause-saved : goal.returns-clause-saved
returns-clause-saved c =
    let are = c.are_in_order.ensures.0 c.if-not-are_in_order.false in
    subst (HavePatterns c.args.leaders.now c.args.patterns) (sym (c.in_ok-from_held.ensures ∙ c.in_ok-held.ensures))
    (have_patterns c.args.leaders.now c.requires c.args.patterns (subst (AreInOrder _) c.as_slice.ensures are))

pub returns-clause-any : goal.returns-clause-any
returns-clause-any c = λ held have.
    let found = c.in_ok-from_held.field-0 in
    let these = have_these c.args.leaders.now c.requires c.args.patterns held have in (
      λ e. none-some found (sym e),
      subst (IsPermutation held) (sym (c.in_ok-from_held.ensures ∙ c.in_ok-held.ensures)) these.0,
    )
