use Rattle.std.proofs.Common.{ap, ◌∙◌, subst}
use Rattle.dk_base.specs.Values.{values_of}
use Rattle.dk_classes.specs.Leaders.{AreClasses, own_leaders}
use Rattle.dk_classes.specs.Classes.{AreNew, IsSplit}
use Rattle.dk_classes.proofs.Agreement.{classes_of_split}
use Rattle.dk_classes.proofs.Determined.{split_same}
use Rattle.dk_classes.proofs.class.Classes.split_with.Goals as goal

pub invariant_of-classes : goal.invariant_of-classes
invariant_of-classes c =
    let sample = values_of c.args.sample.now in
    let leaders = c.in_ok-leaders.leaders.items in
    let split = subst (λ ls. IsSplit ls sample leaders) c.as_slice.ensures.value c.in_ok-leaders.ensures.split in
    (classes_of_split c.self.inside.leaders.items sample leaders c.self.invariant.0 split, c.in_ok-own.ensures ∙ ap own_leaders c.as_slice-2.ensures.value)

pub returns-clause-same : goal.returns-clause-same
returns-clause-same c none =
    let sample = values_of c.args.sample.now in
    let leaders = c.in_ok-leaders.leaders.items in
    let whole = c.as_slice.ensures.value ∙ c.self.view_is in
    let split = subst (λ ls. IsSplit ls sample leaders) whole c.in_ok-leaders.ensures.split in
    let new = subst (λ ls. AreNew ls leaders c.in_ok-leaders.new) whole c.in_ok-leaders.ensures.new in
    split_same c.args.self.now sample leaders (subst AreClasses c.self.view_is c.self.invariant.0) split (subst (AreNew c.args.self.now leaders) none new)
