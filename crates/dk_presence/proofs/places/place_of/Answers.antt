use Rattle.std.proofs.Common.{◌≡◌, ◌∙◌, ap, sym, None, nat_eq, Bool, true, false, ◌&&◌, refl, get_or, length}
use Rattle.std.specs.Prelude.{nat_lt}
use Rattle.std.proofs.lemmas.Bool.{false≢true, ltb-true}
use Rattle.indexmap.specs.IndexMap.{get}
use Rattle.dk_presence.specs.Hashes.{hash_of}
use Rattle.dk_presence.specs.Patterns.{held_patterns, same_vars}
use Rattle.dk_presence.proofs.Keying.{position_unkeyed}
use Rattle.dk_presence.proofs.Placing.{position_here}
use Rattle.dk_presence.proofs.Refining.{no_held}
use Rattle.dk_presence.proofs.places.place_of.Goals as goal

parts : (a b : Bool) → (a && b) ≡ true → (a ≡ true) × (b ≡ true)
parts true b both = (refl, both)
parts false b both = absurd (false≢true both)

pub returns-in_err-place : goal.returns-in_err-place
returns-in_err-place c =
    let places = c.args.places.now in
    let present = c.args.present.now in
    let none : get nat_eq places (hash_of present) ≡ None = ap (get nat_eq places) (sym c.hash_of.ensures) ∙ sym c.in_err-place.ensures.value in
    c.from_residual.ensures ∙ sym (position_unkeyed places (held_patterns c.args.held.now) present c.requires.keyed none)

pub returns-then-is_at : goal.returns-then-is_at
returns-then-is_at c =
    let held = c.args.held.now in
    let present = c.args.present.now in
    let place = c.in_ok-place.field-0.now in
    let told = parts (nat_lt place (length held)) (same_vars present (get_or held place no_held).leaders) (sym (c.is_at.ensures no_held) ∙ c.if-is_at.true) in
    sym (position_here present held place no_held c.requires.once (ltb-true place (length held) told.0) told.1)
