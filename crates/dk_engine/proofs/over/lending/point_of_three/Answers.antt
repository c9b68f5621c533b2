use Rattle.std.specs.Prelude.{[], ◌∷◌}
use Rattle.std.proofs.Common.{arith}
use Rattle.dk_engine.proofs.Memories.{on_err, other_row, strings_in_tuple}
use Rattle.dk_engine.proofs.over.lending.point_of_three.Goals as goal

pub returns-in_err-first-clause-err : goal.returns-in_err-first-clause-err
returns-in_err-first-clause-err c =
    let tuple = c.args.a.now ∷ c.args.b.now ∷ c.args.c.now ∷ [] in
    on_err c.from_residual.result (strings_in_tuple c.args.row c.requires.row tuple c.requires.tuple (other_row c.args.row tuple c.requires.tuple (λ e. omega (arith, e))) 0 c.in_err-first.ensures.err)

pub returns-in_err-second-clause-err : goal.returns-in_err-second-clause-err
returns-in_err-second-clause-err c =
    let tuple = c.args.a.now ∷ c.args.b.now ∷ c.args.c.now ∷ [] in
    on_err c.from_residual-in_err-second.result (strings_in_tuple c.args.row c.requires.row tuple c.requires.tuple (other_row c.args.row tuple c.requires.tuple (λ e. omega (arith, e))) 1 c.in_err-second.ensures.err)

pub returns-in_err-third-clause-err : goal.returns-in_err-third-clause-err
returns-in_err-third-clause-err c =
    let tuple = c.args.a.now ∷ c.args.b.now ∷ c.args.c.now ∷ [] in
    on_err c.from_residual-in_err-third.result (strings_in_tuple c.args.row c.requires.row tuple c.requires.tuple (other_row c.args.row tuple c.requires.tuple (λ e. omega (arith, e))) 2 c.in_err-third.ensures.err)
