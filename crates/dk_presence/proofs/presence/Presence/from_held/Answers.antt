use Rattle.std.proofs.Common.{sym, subst, ◌∙◌, List}
use Rattle.dk_presence.specs.Hashes.{AreKeyed}
use Rattle.dk_presence.specs.Patterns.{AreHeld, held_patterns}
use Rattle.dk_presence.specs.declared.held.Held.{Held}
use Rattle.dk_presence.proofs.presence.Presence.from_held.Goals as goal

pub invariant_of-result : goal.invariant_of-result
invariant_of-result c = (
  subst AreHeld (sym c.into_vec.ensures) c.requires,
  subst (λ (hs : List Held). AreKeyed c.in_ok-places.places (held_patterns hs)) (c.as_slice.ensures ∙ sym c.into_vec.ensures) c.in_ok-places.ensures,
)
