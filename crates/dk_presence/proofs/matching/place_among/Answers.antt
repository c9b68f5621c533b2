use Rattle.std.specs.Prelude.{◌≡◌, ◌<◌, ℕ, List, [], false, true, length}
use Rattle.std.proofs.Common.{ap, ◌∙◌, arith, below_more, get_or, sym}
use Rattle.std.proofs.lemmas.List.{get_or-map, length-map}
use Rattle.dk_base.specs.Values.{values_of}
use Rattle.dk_presence.proofs.Placing.{position_at}
use Rattle.dk_presence.specs.Patterns.{held_patterns, present_in, same_vars}
use Rattle.dk_presence.specs.declared.held.Held.{Held}
use Rattle.dk_presence.proofs.matching.place_among.Goals as goal

module _ (held : List Held) (place : ℕ) (item : Held) (within : place < length held) where
  -- the pattern at a place
  pattern_at : get_or (held_patterns held) place [] ≡ (get_or held place item).leaders
  pattern_at = get_or-map (λ (h : Held). h.leaders) held place item [] within

pub returns-then-are_present : goal.returns-then-are_present
returns-then-are_present c =
    let held = c.args.held.now in
    let present = present_in c.args.leaders.now (values_of c.args.sample.now) in
    let place = c.loop-place.place in
    let within = c.loop-place-test.true in
    let long = length-map held (λ (h : Held). h.leaders) in
    let at = pattern_at held place c.index-held-place.result within in
    let here : same_vars present (get_or (held_patterns held) place []) ≡ true =
    ap (same_vars present) (at ∙ sym c.as_slice.ensures) ∙ (sym c.are_present.ensures ∙ c.if-are_present.true) in
    position_at (same_vars present) (held_patterns held) place (omega (arith, within, long)) here c.loop-place.invariant

pub loop-place-preserved : goal.loop-place-preserved
loop-place-preserved c =
    let held = c.args.held.now in
    let present = present_in c.args.leaders.now (values_of c.args.sample.now) in
    let place = c.loop-place.place in
    let within = c.loop-place-test.true in
    let at = pattern_at held place c.index-held-place.result within in
    below_more (λ k. same_vars present (get_or (held_patterns held) k []) ≡ false) place c.loop-place.invariant
    (ap (same_vars present) (at ∙ sym c.as_slice.ensures) ∙ (sym c.are_present.ensures ∙ c.if-are_present.false))
