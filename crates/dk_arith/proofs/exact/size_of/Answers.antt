use Rattle.std.proofs.Common.{◌≡◌, arith, sym, ap, ◌∙◌, subst, ◌<◌, ◌^◌, ◌+◌, pos}
use Rattle.std.specs.Prelude.{unsigned_abs}
use Rattle.std.specs.Int.{w128}
use Rattle.std.proofs.lemmas.Int.{to_z-of_z, to_z_pos}
use Rattle.dk_arith.specs.Gcd.{gcd}
use Rattle.dk_arith.proofs.GcdLaws.{gcd_small}
use Rattle.dk_arith.specs.Directions.{gcd_of_three}
use Rattle.dk_arith.proofs.exact.size_of.Goals as goal

size_is : (c : goal.After-gcd_wide-2) → c.gcd_wide-2.result ≡ gcd_of_three c.args.p c.args.q c.args.r
size_is c =
    let p = c.unsigned_abs.ensures.value ∙ ap unsigned_abs (to_z-of_z w128 c.args.p c.ranges.p) in
    let q = c.unsigned_abs-2.ensures.value ∙ ap unsigned_abs (to_z-of_z w128 c.args.q c.ranges.q) in
    let r = c.unsigned_abs-3.ensures.value ∙ ap unsigned_abs (to_z-of_z w128 c.args.r c.ranges.r) in
    let two = c.gcd_wide.ensures ∙ ap (λ t. gcd t c.unsigned_abs-2.result) p ∙ ap (gcd (unsigned_abs c.args.p)) q in
    c.gcd_wide-2.ensures ∙ ap (λ t. gcd t c.unsigned_abs-3.result) two ∙ ap (gcd (gcd (unsigned_abs c.args.p) (unsigned_abs c.args.q))) r

size_small : (c : goal.After-gcd_wide-2) → c.gcd_wide-2.result < 2 ^ 64 + 1
size_small c =
    let p = c.requires.p in let q = c.requires.q in let r = c.requires.r in
    let two = gcd_small (unsigned_abs c.args.p) (unsigned_abs c.args.q) (2 ^ 64 + 1) (omega arith) (omega arith) (λ e. omega arith) in
    subst (λ t. t < 2 ^ 64 + 1) (sym (size_is c)) (gcd_small (gcd (unsigned_abs c.args.p) (unsigned_abs c.args.q)) (unsigned_abs c.args.r) (2 ^ 64 + 1) (omega arith) two (λ e. omega arith))

pub overflow_cast-result : goal.overflow_cast-result
overflow_cast-result c = let s = size_small c in record { sfits = omega arith }

pub returns : goal.returns
returns c = let s = size_small c in to_z_pos w128 c.gcd_wide-2.result (omega arith) ∙ ap pos (size_is c)
