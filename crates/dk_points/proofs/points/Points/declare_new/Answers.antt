use Rattle.std.proofs.Common.{◌∙◌, ◌++◌, ◌-◌, sym, ap, arith}
use Rattle.std.proofs.lemmas.Result.{err_from_is_err_and}
use Rattle.dk_graph.specs.Graphs.{has_cycle}
use Rattle.dk_points.proofs.Declarations.{judged-told, new-added, new-cyclic, one-added}
use Rattle.dk_points.specs.Declaring.{at_line}
use Rattle.dk_points.specs.Links.{nodes}
use Rattle.dk_points.specs.Table.{added_points}
use Rattle.dk_points.proofs.points.Points.declare_new.Goals as goal

pub returns-in_err-own : goal.returns-in_err-own
returns-in_err-own c =
    let p = err_from_is_err_and c.from_residual-in_err-own.result c.from_residual-in_err-own.ensures.1 in
    rw (p.1, p.2) (judged-told c.in_err-own.field-0.0 c.args.line c.args.self c.args.decl c.in_err-own.ensures)

pub overflow_sub-last : goal.overflow_sub-last
overflow_sub-last c =
    let told = rw (c.in-Some.is) at c.in_ok-with_added.ensures in
    omega (arith, c.len-last.ensures.len, one-added c.args.self c.in_ok-own.own.decl c.in-Some.points told.0)

pub returns-in-None : goal.returns-in-None
returns-in-None c =
    let told = rw (c.in-None.is) at c.in_ok-with_added.ensures in
    let own = c.in_ok-own.ensures in
    rw (c.refuse.ensures) (ap (at_line c.args.line)
    (new-cyclic c.args.self c.args.decl own.2 own.3 (ap (λ d. has_cycle (nodes (c.args.self ++ added_points c.args.self d))) (sym own.0) ∙ told)))

pub returns-in-Some : goal.returns-in-Some
returns-in-Some c =
    let told = rw (c.in-Some.is) at c.in_ok-with_added.ensures in
    let own = c.in_ok-own.ensures in
    ap (at_line c.args.line)
    (new-added c.args.self c.args.decl own.2 own.3 (ap (λ d. has_cycle (nodes (c.args.self ++ added_points c.args.self d))) (sym own.0) ∙ told.1) c.in-Some.points (c.len-last.result - 1)
    (told.0 ∙ ap (λ d. c.args.self ++ added_points c.args.self d) own.0) (ap (λ n. n - 1) c.len-last.ensures.len))
