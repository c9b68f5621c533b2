use Rattle.std.specs.Prelude.{◌≡◌, ◌<◌, ◌*◌, ◌%◌, unsigned_abs}
use Rattle.std.proofs.Common.{◌∙◌, ap, subst, sym, w64}
use Rattle.std.proofs.lemmas.Bool.{false≢true, ltb-true, not-true}
use Rattle.std.proofs.lemmas.Int.{to_z-of_z}
use Rattle.dk_ternary.specs.Rows.{is_result}
use Rattle.dk_engine.proofs.SeenSooner.{no_divisor, no_quotient}
use Rattle.dk_engine.proofs.feed.operations.is_out_of_reach.Goals as goal

pub returns-in-Quotient : goal.returns-in-Quotient
returns-in-Quotient c t =
    let z = c.args.z in
    let x = c.args.x in
    let y = c.args.y in
    let at_z : c.unsigned_abs-z.result ≡ unsigned_abs z = c.unsigned_abs-z.ensures.value ∙ ap unsigned_abs (to_z-of_z w64 z c.ranges.z) in
    let at_x : c.unsigned_abs-x.result ≡ unsigned_abs x = c.unsigned_abs-x.ensures.value ∙ ap unsigned_abs (to_z-of_z w64 x c.ranges.x) in
    let at_y : c.unsigned_abs-y.result ≡ unsigned_abs y = c.unsigned_abs-y.ensures.value ∙ ap unsigned_abs (to_z-of_z w64 y c.ranges.y) in
    let found : c.unsigned_abs-x.result < c.unsigned_abs-z.result * c.unsigned_abs-y.result = ltb-true c.unsigned_abs-x.result (c.unsigned_abs-z.result * c.unsigned_abs-y.result) t in
    let beyond : unsigned_abs x < unsigned_abs z * unsigned_abs y =
    subst (λ n. n < unsigned_abs z * unsigned_abs y) at_x (subst (λ n. c.unsigned_abs-x.result < n * unsigned_abs y) at_z (subst (λ n. c.unsigned_abs-x.result < c.unsigned_abs-z.result * n) at_y found)) in
    ap (λ o. is_result o z x y) c.in-Quotient.is ∙ no_quotient z x y beyond

pub returns-in-Gcd : goal.returns-in-Gcd
returns-in-Gcd c t =
    let z = c.args.z in
    let x = c.args.x in
    let at_z : c.unsigned_abs-z.result ≡ unsigned_abs z = c.unsigned_abs-z.ensures.value ∙ ap unsigned_abs (to_z-of_z w64 z c.ranges.z) in
    let at_x : c.unsigned_abs-x.result ≡ unsigned_abs x = c.unsigned_abs-x.ensures.value ∙ ap unsigned_abs (to_z-of_z w64 x c.ranges.x) in
    let none : unsigned_abs x % unsigned_abs z ≡ 0 → ⊥ = λ e.
    let divides : c.unsigned_abs-x.result % c.unsigned_abs-z.result ≡ 0 = subst (λ n. n % c.unsigned_abs-z.result ≡ 0) (sym at_x) (subst (λ n. unsigned_abs x % n ≡ 0) (sym at_z) e) in
    false≢true (sym (not-true c.has_divisor.result t) ∙ c.has_divisor.ensures.1 divides) in
    ap (λ o. is_result o z x c.args.y) c.in-Gcd.is ∙ no_divisor z x c.args.y none
