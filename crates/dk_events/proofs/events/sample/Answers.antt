use Rattle.std.proofs.Common.{◌∙◌, ap, List}
use Rattle.dk_base.specs.Values.{values_of}
use Rattle.dk_base.specs.declared.kinds.VarInfo.{VarInfo}
use Rattle.dk_derive.specs.Values.{values_by_form}
use Rattle.dk_blocks.proofs.Derived.{all_fit}
use Rattle.dk_events.proofs.events.sample.Goals as goal

pub returns-clause-fits : goal.returns-clause-fits
returns-clause-fits c ps within own fits = (
  within,
  all_fit ps c.args.point.0 (values_of c.args.base.now) (values_of c.in_ok-values.values.now) fits
      (c.in_ok-values.ensures.values ∙ ap (λ (vars : List VarInfo). values_by_form vars (values_of c.args.base.now)) own)
      (c.in_ok-values.ensures.written fits.1),
)
