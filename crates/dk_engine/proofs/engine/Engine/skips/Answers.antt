use Rattle.std.proofs.Common.{subst}
use Rattle.dk_base.specs.Values.{values_of}
use Rattle.dk_engine.specs.Idle.{PassesStill}
use Rattle.dk_engine.specs.Reading.Levels.{Whole}
use Rattle.dk_engine.proofs.engine.Engine.skips.Goals as goal

pub returns : goal.returns
returns c = subst (λ (w : Whole). PassesStill (values_of c.args.sample.now) w.kept.slots c.skips.result.now) c.self.view_is c.skips.ensures
