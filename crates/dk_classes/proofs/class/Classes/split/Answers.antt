use Rattle.std.proofs.Common.{refl, subst, sym}
use Rattle.std.proofs.lemmas.Result.{IfOk-weaker}
use Rattle.dk_base.specs.Values.{values_of}
use Rattle.dk_classes.specs.Classes.{AreNew}
use Rattle.dk_classes.specs.Leaders.{AreClasses}
use Rattle.dk_classes.proofs.Agreement.{lead_now, leaders_split, ok_both}
use Rattle.dk_classes.proofs.class.Classes.split.Goals as goal

pub returns-then-stays_with-clause-new : goal.returns-then-stays_with-clause-new
returns-then-stays_with-clause-new c = subst (AreNew c.args.self c.args.self) (sym c.new-none.ensures) (c.if-stays_with.ensures.new refl)

pub returns-then-stays_with-clause-stands : goal.returns-then-stays_with-clause-stands
returns-then-stays_with-clause-stands c = λ kinds samples are. leaders_split kinds samples c.args.self are (values_of c.args.sample.now) c.args.self (c.if-stays_with.ensures.split.0 refl)

pub returns-then-stays_with-clause-lead : goal.returns-then-stays_with-clause-lead
returns-then-stays_with-clause-lead c =
    let sample = values_of c.args.sample.now in
    lead_now c.args.self sample c.args.self c.new-none.result (subst AreClasses c.self.view_is c.self.invariant.0) (c.if-stays_with.ensures.split.0 refl) (subst (AreNew c.args.self c.args.self) (sym c.new-none.ensures) (c.if-stays_with.ensures.new refl))

pub returns-clause-stands : goal.returns-clause-stands
returns-clause-stands c = IfOk-weaker c.split_with.result _ _ (λ r is kinds samples are. leaders_split kinds samples c.args.self are (values_of c.args.sample.now) r.0 is) c.split_with.ensures.exact

pub returns-clause-lead : goal.returns-clause-lead
returns-clause-lead c =
    let classes = subst AreClasses c.self.view_is c.self.invariant.0 in
    IfOk-weaker c.split_with.result _ _ (λ r both. lead_now c.args.self (values_of c.args.sample.now) r.0 r.1 classes both.0 both.1) (ok_both c.split_with.result _ _ c.split_with.ensures.exact c.split_with.ensures.new)
