use Rattle.std.proofs.Common.{◌++◌, ◌∙◌, ap, codes}
use Rattle.std.specs.Fmt.{decimal}
use Rattle.dk_base.specs.Names.{escaped}
use Rattle.dk_write.proofs.Loops.{number_line, on_ok}
use Rattle.dk_write.proofs.declarations.push_edge.Goals as goal

pub returns : goal.returns
returns c =
    let e = c.args.edge.now in
    on_ok c.append-3.result
    (λ last. number_line c.args.text.now c.append.new.self c.push_escaped.new.text c.append-2.new.self c.append_number.new.self c.append-3.new.self
    (codes "parent parent ") (escaped e.parent) (decimal e.id)
    c.in_ok-append.ensures.ok (c.in_ok-push_escaped.ensures ∙ ap (λ name. c.append.new.self ++ escaped name) c.as_slice.ensures)
    c.in_ok-append-2.ensures.ok c.in_ok-append_number.ensures.ok last)
    c.append-3.ensures.ok
