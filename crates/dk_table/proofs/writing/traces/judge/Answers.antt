use Rattle.std.proofs.Common.{◌≡◌, ◌∙◌, arith, rules, sym, true}
use Rattle.std.specs.Prelude.{is_none}
use Rattle.dk_table.proofs.Taking.{all_told, none_asked}
use Rattle.dk_table.specs.Tables.{bodies_in}
use Rattle.dk_table.proofs.writing.traces.judge.Goals as goal

pub returns-then-is_none : goal.returns-then-is_none
returns-then-is_none c =
    let plan = c.args.plan.now in
    let none : is_none c.args.command.now.types ≡ true = first_of (search rules, grind arith) in
    all_told plan.decl plan.kinds (bodies_in c.args.command.now 0 c.args.files.now) (sym c.in_ok-are_named.ensures ∙ c.if-not-branch.false)
    (c.requires (none_asked c.args.command.now.types none))
