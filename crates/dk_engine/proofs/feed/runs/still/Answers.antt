use Rattle.dk_engine.proofs.feed.runs.still.Goals as goal
use Rattle.dk_engine.proofs.Running.{first_still}
use Rattle.dk_base.specs.Values.{values_of}

pub returns-in-Some-clause-still : goal.returns-in-Some-clause-still
returns-in-Some-clause-still c k l = first_still c.args.row (values_of c.args.sample.now) c.args.run.now c.in-Some.place c.in-Some.ensures.0 c.in-Some.ensures.1 k l
