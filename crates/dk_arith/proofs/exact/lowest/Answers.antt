use Rattle.std.proofs.Common.{sym, subst, ◌≤◌, SFits}
use Rattle.std.specs.Prelude.{unsigned_abs, int_div}
use Rattle.std.specs.Int.{w128}
use Rattle.dk_arith.specs.Directions.{divisor}
use Rattle.dk_arith.proofs.LowestTerms.{lowest_is, smaller}
use Rattle.dk_arith.proofs.Registers.{some_divisor, quotient_is}
use Rattle.dk_arith.proofs.exact.lowest.Goals as goal

pub quotient-requires-clause-d : goal.quotient-requires-clause-d
quotient-requires-clause-d c z = let fd : SFits w128 c.divisor_of-d.result = record { sfits = c.divisor_of-d.type_inv } in some_divisor c.args.p c.args.q c.args.r c.divisor_of-d.result c.ranges.p c.ranges.q c.ranges.r fd c.divisor_of-d.ensures c.requires.some z

pub quotient-requires-2-clause-d : goal.quotient-requires-2-clause-d
quotient-requires-2-clause-d c z = let fd : SFits w128 c.divisor_of-d.result = record { sfits = c.divisor_of-d.type_inv } in some_divisor c.args.p c.args.q c.args.r c.divisor_of-d.result c.ranges.p c.ranges.q c.ranges.r fd c.divisor_of-d.ensures c.requires.some z

pub quotient-requires-3-clause-d : goal.quotient-requires-3-clause-d
quotient-requires-3-clause-d c z = let fd : SFits w128 c.divisor_of-d.result = record { sfits = c.divisor_of-d.type_inv } in some_divisor c.args.p c.args.q c.args.r c.divisor_of-d.result c.ranges.p c.ranges.q c.ranges.r fd c.divisor_of-d.ensures c.requires.some z

pub returns-clause-small_a : goal.returns-clause-small_a
returns-clause-small_a c =
    let fd : SFits w128 c.divisor_of-d.result = record { sfits = c.divisor_of-d.type_inv } in
    let fr : SFits w128 c.quotient.result = record { sfits = c.quotient.type_inv } in
    let is = quotient_is c.args.p c.args.p c.args.q c.args.r c.divisor_of-d.result c.quotient.result c.ranges.p c.ranges.p c.ranges.q c.ranges.r fd fr c.divisor_of-d.ensures c.quotient.ensures in
    let low = lowest_is c.args.p c.args.q c.args.r c.requires.some in
    subst (λ t. unsigned_abs t ≤ unsigned_abs c.args.p) (sym is) (smaller (int_div c.args.p (divisor c.args.p c.args.q c.args.r)) (divisor c.args.p c.args.q c.args.r) c.args.p low.some low.first)

pub returns-clause-small_b : goal.returns-clause-small_b
returns-clause-small_b c =
    let fd : SFits w128 c.divisor_of-d.result = record { sfits = c.divisor_of-d.type_inv } in
    let fr : SFits w128 c.quotient-2.result = record { sfits = c.quotient-2.type_inv } in
    let is = quotient_is c.args.q c.args.p c.args.q c.args.r c.divisor_of-d.result c.quotient-2.result c.ranges.q c.ranges.p c.ranges.q c.ranges.r fd fr c.divisor_of-d.ensures c.quotient-2.ensures in
    let low = lowest_is c.args.p c.args.q c.args.r c.requires.some in
    subst (λ t. unsigned_abs t ≤ unsigned_abs c.args.q) (sym is) (smaller (int_div c.args.q (divisor c.args.p c.args.q c.args.r)) (divisor c.args.p c.args.q c.args.r) c.args.q low.some low.second)

pub returns-clause-small_c : goal.returns-clause-small_c
returns-clause-small_c c =
    let fd : SFits w128 c.divisor_of-d.result = record { sfits = c.divisor_of-d.type_inv } in
    let fr : SFits w128 c.quotient-3.result = record { sfits = c.quotient-3.type_inv } in
    let is = quotient_is c.args.r c.args.p c.args.q c.args.r c.divisor_of-d.result c.quotient-3.result c.ranges.r c.ranges.p c.ranges.q c.ranges.r fd fr c.divisor_of-d.ensures c.quotient-3.ensures in
    let low = lowest_is c.args.p c.args.q c.args.r c.requires.some in
    subst (λ t. unsigned_abs t ≤ unsigned_abs c.args.r) (sym is) (smaller (int_div c.args.r (divisor c.args.p c.args.q c.args.r)) (divisor c.args.p c.args.q c.args.r) c.args.r low.some low.third)
