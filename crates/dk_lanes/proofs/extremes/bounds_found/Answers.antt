use Rattle.std.proofs.Common.{rules, ℤ, pos, get_or, SFits, w64, arith}
use Rattle.std.proofs.lemmas.Int.{to_z-of_z}
use Rattle.dk_lanes.proofs.ExtremeLemmas.{bounds_are}
use Rattle.dk_lanes.proofs.extremes.bounds_found.Goals as goal

pub returns-in-len1-up : goal.returns-in-len1-up
returns-in-len1-up c =
    let x : ℤ = get_or c.args.s.now 0 (pos 0) in
    let fits : SFits w64 x = search rules in
    let least = rw (to_z-of_z w64 x fits) at c.least_and_greatest.ensures.least in
    let greatest = rw (to_z-of_z w64 x fits) at c.least_and_greatest.ensures.greatest in
    bounds_are c.args.s.now (omega arith) c.least_and_greatest.result.0 c.least_and_greatest.result.1 least greatest
