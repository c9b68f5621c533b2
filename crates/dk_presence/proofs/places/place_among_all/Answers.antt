use Rattle.std.proofs.Common.{◌≡◌, ◌<◌, ◌∙◌, ℕ, List, [], ap, sym, get_or, length, true, false, arith, ◌&&◌, below_more}
use Rattle.std.specs.Prelude.{nat_lt}
use Rattle.std.proofs.lemmas.Bool.Decides.{nat_tests}
use Rattle.std.proofs.lemmas.List.{get_or-map, length-map}
use Rattle.dk_base.specs.declared.kinds.VarId.{VarId}
use Rattle.dk_presence.specs.Patterns.{held_patterns, same_vars}
use Rattle.dk_presence.specs.declared.held.Held.{Held}
use Rattle.dk_presence.proofs.Placing.{nowhere, position_at}
use Rattle.dk_presence.proofs.Refining.{no_held}
use Rattle.dk_presence.proofs.places.place_among_all.Goals as goal

module _ (present : List VarId) (held : List Held) (place : ℕ) (within : place < length held) where
  -- whether the pattern at a place is the one
  told : (nat_lt place (length held) && same_vars present (get_or held place no_held).leaders) ≡ same_vars present (get_or (held_patterns held) place [])
  told =
      let below : nat_lt place (length held) ≡ true = grind (arith, nat_tests, within) in
      ap (λ b. b && same_vars present (get_or held place no_held).leaders) below ∙ ap (same_vars present) (sym (get_or-map (λ (h : Held). h.leaders) held place no_held [] within))

pub returns-then-is_at : goal.returns-then-is_at
returns-then-is_at c =
    let held = c.args.held.now in
    let present = c.args.present.now in
    let place = c.loop-place.place in
    let within = c.loop-place-test.true in
    let long = length-map held (λ (h : Held). h.leaders) in
    sym (position_at (same_vars present) (held_patterns held) place (omega (arith, within, long)) (sym (c.is_at.ensures no_held ∙ told present held place within) ∙ c.if-is_at.true) c.loop-place.invariant)

pub loop-place-preserved : goal.loop-place-preserved
loop-place-preserved c =
    let held = c.args.held.now in
    let present = c.args.present.now in
    let place = c.loop-place.place in
    below_more (λ k. same_vars present (get_or (held_patterns held) k []) ≡ false) place c.loop-place.invariant
    (sym (c.is_at.ensures no_held ∙ told present held place c.loop-place-test.true) ∙ c.if-is_at.false)

pub returns : goal.returns
returns c =
    let held = c.args.held.now in
    let present = c.args.present.now in
    let over = c.loop-place-test.false in
    let long = length-map held (λ (h : Held). h.leaders) in
    sym (nowhere (same_vars present) (held_patterns held) (λ k l. c.loop-place.invariant k (omega (arith, over, long, l))))
