use Rattle.std.proofs.Common.{sym, ap, ◌∙◌, SFits}
use Rattle.std.specs.Prelude.{pos}
use Rattle.std.specs.Int.{w128}
use Rattle.std.proofs.lemmas.Int.{to_z-of_z}
use Rattle.dk_arith.specs.Directions.{leading, signed_as, gcd_of_three}
use Rattle.dk_arith.proofs.LowestTerms.{divisor_is}
use Rattle.dk_arith.proofs.Registers.{kept}
use Rattle.dk_arith.proofs.exact.divisor_of.Goals as goal

pub returns : goal.returns
returns c =
    let p = c.args.p in let q = c.args.q in let r = c.args.r in
    let kp = to_z-of_z w128 p c.ranges.p in let kq = to_z-of_z w128 q c.ranges.q in let kr = to_z-of_z w128 r c.ranges.r in
    let fits : SFits w128 c.with_sign_of.result = record { sfits = c.with_sign_of.type_inv } in
    let fl : SFits w128 c.leading_of.result = record { sfits = c.leading_of.type_inv } in
    let fs : SFits w128 c.size_of.result = record { sfits = c.size_of.type_inv } in
    let lead = to_z-of_z w128 c.leading_of.result fl ∙ c.leading_of.ensures ∙ ap (λ t. leading t (kept q) (kept r)) kp ∙ ap (λ t. leading p t (kept r)) kq ∙ ap (leading p q) kr in
    let size = to_z-of_z w128 c.size_of.result fs ∙ c.size_of.ensures
    ∙ ap (λ t. pos (gcd_of_three t (kept q) (kept r))) kp ∙ ap (λ t. pos (gcd_of_three p t (kept r))) kq ∙ ap (λ t. pos (gcd_of_three p q t)) kr in
    to_z-of_z w128 c.with_sign_of.result fits ∙ c.with_sign_of.ensures ∙ ap (λ t. signed_as t (kept c.size_of.result)) lead ∙ ap (signed_as (leading p q r)) size ∙ sym (divisor_is p q r)
