use Rattle.dk_base.specs.declared.values.View.TheVariants.{Missing}
use Rattle.dk_replay.proofs.Drawing.{one_value}
use Rattle.dk_replay.proofs.sampling.view_at.Goals as goal

pub returns-then-place-views : goal.returns-then-place-views
returns-then-place-views c = one_value c.args.views.now c.args.place Missing c.if-place-views.true c.requires
