use Rattle.std.specs.List.{IsDistinct}
use Rattle.std.proofs.Common.{◌≡◌, ap, sym, subst, ◌∙◌, List, [], ◌∷◌, ◌++◌, position, Some, None}
use Rattle.dk_presence.specs.Hashes.{AreKeyed}
use Rattle.dk_presence.specs.Patterns.{AreCounted, AreHeld, held_patterns, same_vars}
use Rattle.dk_presence.specs.Steps.{with_sample_of}
use Rattle.dk_presence.specs.declared.held.Held.{Held}
use Rattle.dk_presence.proofs.Adding.{counted_added}
use Rattle.dk_presence.proofs.Keying.{keyed_more}
use Rattle.dk_presence.proofs.Placing.{added_found, added_new, held_added, patterns_new}
use Rattle.dk_presence.proofs.Refining.{no_held}
use Rattle.dk_presence.proofs.presence.Presence.add.Goals as goal

pub place_of-requires-clause-once : goal.place_of-requires-clause-once
place_of-requires-clause-once c = subst (λ (hs : List Held). IsDistinct same_vars (held_patterns hs)) (sym c.as_slice.ensures.value) c.self.invariant.0.once

pub place_of-requires-clause-keyed : goal.place_of-requires-clause-keyed
place_of-requires-clause-keyed c = subst (λ (hs : List Held). AreKeyed c.self.inside.places (held_patterns hs)) (sym c.as_slice.ensures.value) c.self.invariant.1

pub invariant_of-result : goal.invariant_of-result
invariant_of-result c =
    let held = c.self.inside.held.items in
    let present = c.args.present.now in
    let at : position (same_vars present) (held_patterns held) ≡ Some c.in-Some.place = ap (λ (hs : List Held). position (same_vars present) (held_patterns hs)) (sym c.as_slice.ensures.value) ∙ (sym c.place_of.ensures ∙ c.in-Some.is) in
    let found = added_found present held c.in-Some.place at in
    let is : c.with_one_more.result.items ≡ with_sample_of present held = c.with_one_more.ensures no_held ∙ sym (found.1 no_held) in
    (subst AreHeld (sym is) (held_added present held c.requires c.self.invariant.0), subst (AreKeyed c.self.inside.places) (sym (ap held_patterns is ∙ found.2)) c.self.invariant.1)

pub returns-in-Some-clause-exact : goal.returns-in-Some-clause-exact
returns-in-Some-clause-exact c =
    let held = c.self.inside.held.items in
    let present = c.args.present.now in
    let at : position (same_vars present) (held_patterns held) ≡ Some c.in-Some.place = ap (λ (hs : List Held). position (same_vars present) (held_patterns hs)) (sym c.as_slice.ensures.value) ∙ (sym c.place_of.ensures ∙ c.in-Some.is) in
    let found = added_found present held c.in-Some.place at in
    c.with_one_more.ensures no_held ∙ (sym (found.1 no_held) ∙ ap (with_sample_of present) c.self.view_is)

pub returns-in-Some-clause-stands : goal.returns-in-Some-clause-stands
returns-in-Some-clause-stands c =
    let held = c.self.inside.held.items in
    let present = c.args.present.now in
    let at : position (same_vars present) (held_patterns held) ≡ Some c.in-Some.place = ap (λ (hs : List Held). position (same_vars present) (held_patterns hs)) (sym c.as_slice.ensures.value) ∙ (sym c.place_of.ensures ∙ c.in-Some.is) in
    let found = added_found present held c.in-Some.place at in
    let is = c.with_one_more.ensures no_held ∙ (sym (found.1 no_held) ∙ ap (with_sample_of present) c.self.view_is) in
    λ patterns are. subst (AreCounted (patterns ++ present ∷ [])) (sym is) (counted_added patterns c.args.self present are)

pub invariant_of-result-in-None : goal.invariant_of-result-in-None
invariant_of-result-in-None c =
    let held = c.self.inside.held.items in
    let present = c.args.present.now in
    let none : position (same_vars present) (held_patterns held) ≡ None = ap (λ (hs : List Held). position (same_vars present) (held_patterns hs)) (sym c.as_slice.ensures.value) ∙ (sym c.place_of.ensures ∙ c.in-None.is) in
    let is = c.in_ok-with_pattern-in-None.ensures ∙ sym (added_new present held none) in (
      subst AreHeld (sym is) (held_added present held c.requires c.self.invariant.0),
      subst (AreKeyed c.insert.new.self) (sym (ap held_patterns is ∙ patterns_new present held none))
          (keyed_more c.self.inside.places c.insert.new.self c.hash_of.result _ c.in_ok-insert-in-None.ensures.updates.0 (held_patterns held) present (sym c.hash_of.ensures) c.self.invariant.1),
    )

pub returns-in_ok-with_pattern-in-None-clause-exact : goal.returns-in_ok-with_pattern-in-None-clause-exact
returns-in_ok-with_pattern-in-None-clause-exact c =
    let held = c.self.inside.held.items in
    let present = c.args.present.now in
    let none : position (same_vars present) (held_patterns held) ≡ None = ap (λ (hs : List Held). position (same_vars present) (held_patterns hs)) (sym c.as_slice.ensures.value) ∙ (sym c.place_of.ensures ∙ c.in-None.is) in
    c.in_ok-with_pattern-in-None.ensures ∙ (sym (added_new present held none) ∙ ap (with_sample_of present) c.self.view_is)

pub returns-in_ok-with_pattern-in-None-clause-stands : goal.returns-in_ok-with_pattern-in-None-clause-stands
returns-in_ok-with_pattern-in-None-clause-stands c =
    let held = c.self.inside.held.items in
    let present = c.args.present.now in
    let none : position (same_vars present) (held_patterns held) ≡ None = ap (λ (hs : List Held). position (same_vars present) (held_patterns hs)) (sym c.as_slice.ensures.value) ∙ (sym c.place_of.ensures ∙ c.in-None.is) in
    let is = c.in_ok-with_pattern-in-None.ensures ∙ (sym (added_new present held none) ∙ ap (with_sample_of present) c.self.view_is) in
    λ patterns are. subst (AreCounted (patterns ++ present ∷ [])) (sym is) (counted_added patterns c.args.self present are)
