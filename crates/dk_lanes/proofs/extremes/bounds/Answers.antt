use Rattle.std.proofs.Common.{◌≤ℤ◌, ℤ, Option, Contains, All, IfSome, sym, subst}
use Rattle.dk_lanes.proofs.ExtremeLemmas.{least_is, greatest_is}
use Rattle.dk_lanes.proofs.extremes.bounds.Goals as goal

pub returns-clause-least : goal.returns-clause-least
returns-clause-least c =
    let Holds : Option (ℤ × ℤ) → Type 0 = λ r. IfSome r (λ b. Contains c.args.s.now b.0 × All (λ x. b.0 ≤ℤ x) c.args.s.now) in
    subst Holds (sym c.bounds_found.ensures) (least_is c.args.s.now)

pub returns-clause-greatest : goal.returns-clause-greatest
returns-clause-greatest c =
    let Holds : Option (ℤ × ℤ) → Type 0 = λ r. IfSome r (λ b. Contains c.args.s.now b.1 × All (λ x. x ≤ℤ b.1) c.args.s.now) in
    subst Holds (sym c.bounds_found.ensures) (greatest_is c.args.s.now)
