use Rattle.std.proofs.Common.{◌≡◌, ◌∙◌, ap, sym, get_or, length, true, arith, ◌&&◌}
use Rattle.std.specs.Prelude.{nat_lt}
use Rattle.std.proofs.lemmas.Bool.Decides.{nat_tests}
use Rattle.std.proofs.lemmas.List.{get_or_default}
use Rattle.dk_presence.specs.Patterns.{same_vars}
use Rattle.dk_presence.specs.declared.held.Held.{Held}
use Rattle.dk_presence.proofs.Placing.{pointwise_same}
use Rattle.dk_presence.proofs.places.is_at.Goals as goal

pub returns-then-place-held : goal.returns-then-place-held
returns-then-place-held c d =
    let held = c.args.held.now in
    let place = c.args.place in
    let present = c.args.present.now in
    let here = c.if-place-held.true in
    let within : nat_lt place (length held) ≡ true = grind (arith, nat_tests, here) in
    let found : (get_or held place c.index-held-place.result).leaders ≡ (get_or held place d).leaders = ap (λ (h : Held). h.leaders) (get_or_default held place c.index-held-place.result d here) in
    c.eq.ensures ∙ (pointwise_same present c.as_slice.result.now ∙ (ap (same_vars present) (c.as_slice.ensures ∙ found) ∙ sym (ap (λ b. b && same_vars present (get_or held place d).leaders) within)))
