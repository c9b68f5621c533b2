use Rattle.dk_report.proofs.Reported.{if_ok}
use Rattle.dk_report.proofs.Rules.{if-some, told-is}
use Rattle.dk_report.proofs.asking.Asking.view_table.Goals as goal

pub returns-in-Some : goal.returns-in-Some
returns-in-Some c =
    let asking = c.args.self.now in
    if_ok c.told_through.result _ _
    (λ o h. if-some o _ _ (λ table is. told-is asking.here.now c.args.standing.now.several c.as_slice-vars.result.now c.args.engines.now c.ways.result.now asking.grammar c.in-Some.view.way.now c.in-Some.view.engine.now table.items
    c.requires.engines c.ways.ensures.ways c.as_slice-vars.ensures c.requires.asked.grammar c.in-Some.ensures is) h)
    c.told_through.ensures
