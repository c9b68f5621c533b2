use Rattle.dk_filters.proofs.Sharper.{asked-sharper, same-takes}
use Rattle.dk_filters.proofs.implied.has_sharper.Goals as goal

pub answer-requires-clause-row : goal.answer-requires-clause-row
answer-requires-clause-row g c = (asked-sharper (g.A.Answers.grammar c.args.here.now) c.args.row c.in-Some.sharper c.in-Some.ensures).0

pub answer-requires-clause-vars : goal.answer-requires-clause-vars
answer-requires-clause-vars g c =
    let asked = asked-sharper (g.A.Answers.grammar c.args.here.now) c.args.row c.in-Some.sharper c.in-Some.ensures in
    same-takes (g.A.Answers.infos c.args.here.now) c.args.row c.in-Some.sharper c.args.tuple.now asked.1.takes c.requires.vars
