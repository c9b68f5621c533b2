use Rattle.std.proofs.lemmas.Bool.Decides.{same_from_decides}
use Rattle.dk_base.specs.Values.SameValues.{same_value}
use Rattle.dk_base.proofs.ValueTests.{same_value-decides}
use Rattle.dk_points.proofs.sameness.same_value.Goals as goal

pub returns : goal.returns
returns c = same_from_decides c.same_kept.result (same_value c.args.a.now c.args.b.now) c.same_kept.ensures (same_value-decides c.args.a.now c.args.b.now)
