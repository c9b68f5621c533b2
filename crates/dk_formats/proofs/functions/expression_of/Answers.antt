use Rattle.dk_formats.proofs.Expressions.{expressed}
use Rattle.dk_formats.proofs.functions.expression_of.Goals as goal

pub returns-in-Some : goal.returns-in-Some
returns-in-Some c =
    expressed c.args.language c.args.vars.now c.args.told.now c.in-Some.assertion c.as_slice.result.now c.args.says.now c.telling.result c.requires
    c.as_slice.ensures.items c.in-Some.is c.telling.ensures
