use Rattle.dk_print.specs.Texts.{parts_of_row}
use Rattle.std.proofs.Common.{subst, sym}
use Rattle.dk_expr.specs.Following.{start}
use Rattle.dk_expr.specs.Searches.{FindsParts}
use Rattle.dk_expr.proofs.FirstRead.{least_found, start_there}
use Rattle.dk_expr.proofs.reading.first_of.Goals as goal

pub returns-clause-least : goal.returns-clause-least
returns-clause-least c =
    least_found c.args.infos.now c.args.text.now c.args.row c.args.names.now c.requires.names c.as_slice.result.now
    (subst (λ ends. FindsParts c.args.names.now c.args.text.now (parts_of_row c.args.row) start ends) (sym c.as_slice.ensures)
    (subst (λ parts. FindsParts c.args.names.now c.args.text.now parts start c.in_ok-ends.ends) c.parts_of.ensures
    (c.in_ok-ends.ensures start (start_there c.new-start.result c.push.new.self c.start.result c.new-start.ensures c.start.ensures c.in_ok-push.ensures.ok))))
    c.least_among.result c.least_among.ensures.least
