use Rattle.std.proofs.Common.{arith}
use Rattle.dk_classes.proofs.OwnLeaders.{leads_from_own}
use Rattle.dk_engine.proofs.saved.conditions.is_constant.Goals as goal

pub kind_of-requires : goal.kind_of-requires
kind_of-requires c =
    let within = (leads_from_own c.args.kept.now.leaders c.args.entry.now.0 (c.leads.ensures.0 c.if-leads.true)).0 in
    let long = c.requires.shaped.long in
    omega (arith, within, long)
