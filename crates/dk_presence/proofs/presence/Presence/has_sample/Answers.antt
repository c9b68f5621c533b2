use Rattle.std.specs.Prelude.{◌≡◌, ◌<◌, List, None, Some, is_some, refl, true, IfSome, position}
use Rattle.std.proofs.Common.{ap, ◌∙◌, sym, subst}
use Rattle.std.proofs.lemmas.Bool.{false≢true}
use Rattle.dk_base.specs.Values.{values_of}
use Rattle.dk_presence.proofs.Placing.{held_found}
use Rattle.dk_presence.specs.Patterns.{held_patterns, pattern_count, present_in, same_vars}
use Rattle.dk_presence.specs.declared.held.Held.{Held}
use Rattle.dk_presence.proofs.presence.Presence.has_sample.Goals as goal

pub returns-then-is_some : goal.returns-then-is_some
returns-then-is_some c =
    let held = c.self.inside.held.items in
    let present = present_in c.args.leaders.now (values_of c.args.sample.now) in
    let some : is_some c.place_among.result ≡ true = sym c.is_some.ensures ∙ c.if-is_some.true in
    let there : 0 < pattern_count held present = elim c.place_among.result as (λ o. is_some o ≡ true → IfSome o (λ i. position (same_vars present) (held_patterns c.as_slice.result.now) ≡ Some i) → 0 < pattern_count held present) [
      | None ↦ λ h e. absurd (false≢true h)
      | Some i ↦ λ h e. held_found present held c.self.invariant.0 i (ap (λ (hs : List Held). position (same_vars present) (held_patterns hs)) (sym c.as_slice.ensures.value) ∙ e)
    ] some c.place_among.ensures in
    (λ _. subst (λ hs. 0 < pattern_count hs present) c.self.view_is there, λ _. refl)
