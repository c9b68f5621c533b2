use Rattle.std.proofs.Common.{◌≡◌, ◌<◌, ℕ, ◌∙◌, subst, sym, length}
use Rattle.dk_base.specs.Values.{values_of}
use Rattle.dk_samples.specs.Samples.{value_in}
use Rattle.dk_classes.specs.Leaders.{AreClasses, leader_at, var}
use Rattle.dk_classes.proofs.Firsts.{new_quiet, split_quiet}
use Rattle.dk_classes.proofs.class.Classes.stays_with.Goals as goal

pub returns-clause-new : goal.returns-clause-new
returns-clause-new c one = new_quiet c.args.self.now (values_of c.args.sample.now)

pub returns-clause-split : goal.returns-clause-split
returns-clause-split c =
    let sample = values_of c.args.sample.now in
    let whole = c.as_slice.ensures.value ∙ c.self.view_is in
    let classes = subst AreClasses c.self.view_is c.self.invariant.0 in (
      λ one. split_quiet c.args.self.now sample classes (subst (λ ls. (v : ℕ) → v < length ls → value_in sample (var (leader_at ls v)) ≡ value_in sample (var v)) whole (c.are_one.ensures.0 one)),
      λ split. c.are_one.ensures.1 (subst (λ ls. (v : ℕ) → v < length ls → value_in sample (var (leader_at ls v)) ≡ value_in sample (var v)) (sym whole) (λ v l. (split.each v l).holds.value)),
    )
