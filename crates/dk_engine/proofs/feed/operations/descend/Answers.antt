use Rattle.dk_engine.proofs.SeenSooner.{unordered}
use Rattle.dk_engine.proofs.feed.operations.descend.Goals as goal

pub returns-in_default : goal.returns-in_default
returns-in_default c below v =
    unordered c.args.operation c.in_default.not-Difference c.in_default.not-Quotient c.in_default.not-Remainder v c.args.w c.args.x below
