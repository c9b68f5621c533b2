use Rattle.std.proofs.Common.{◌≡◌, ap, sym, subst, ◌∙◌, List, [], map, arith}
use Rattle.std.proofs.lemmas.Grind.{common_steps}
use Rattle.dk_presence.specs.Hashes.{AreKeyed}
use Rattle.dk_presence.specs.Patterns.{AreCounted, AreHeld, held_patterns, patterns_of}
use Rattle.dk_presence.specs.Steps.{AreUnheld, refined}
use Rattle.dk_presence.specs.declared.held.Held.{Held}
use Rattle.dk_presence.proofs.Refining.{are_refined, counted_now, led_has, refined_none}
use Rattle.dk_presence.proofs.presence.Presence.refine.Goals as goal

pub returns-then-is_empty-clause-exact : goal.returns-then-is_empty-clause-exact
returns-then-is_empty-clause-exact c =
    let none : c.args.new.now ≡ [] = grind (arith, common_steps) in
    c.self.view_is ∙ sym (ap (λ n. map (refined n) c.args.self) none ∙ refined_none c.args.self)

pub returns-then-is_empty-clause-stands : goal.returns-then-is_empty-clause-stands
returns-then-is_empty-clause-stands c =
    let none : c.args.new.now ≡ [] = grind (arith, common_steps) in
    let is : c.self.inside.held.items ≡ map (refined c.args.new.now) c.args.self = c.self.view_is ∙ sym (ap (λ n. map (refined n) c.args.self) none ∙ refined_none c.args.self) in
    λ leaders now samples up on lead are. subst (AreCounted (patterns_of now samples)) (sym is)
    (counted_now leaders c.args.new.now now c.requires.differ up on (led_has leaders c.args.new.now samples now lead) samples lead c.args.self (subst AreHeld c.self.view_is c.self.invariant.0) c.requires.unheld are)

pub invariant_of-result-2 : goal.invariant_of-result-2
invariant_of-result-2 c =
    let held = c.self.inside.held.items in
    let off = subst (AreUnheld c.args.new.now) (sym c.self.view_is) c.requires.unheld in
    (subst AreHeld (sym c.in_ok-held.ensures) (are_refined c.args.new.now c.requires.differ held c.self.invariant.0 off), subst (λ (hs : List Held). AreKeyed c.in_ok-places.places (held_patterns hs)) c.as_slice.ensures.value c.in_ok-places.ensures)

pub returns-clause-stands : goal.returns-clause-stands
returns-clause-stands c =
    let is = c.in_ok-held.ensures ∙ ap (map (refined c.args.new.now)) c.self.view_is in
    λ leaders now samples up on lead are. subst (AreCounted (patterns_of now samples)) (sym is)
    (counted_now leaders c.args.new.now now c.requires.differ up on (led_has leaders c.args.new.now samples now lead) samples lead c.args.self (subst AreHeld c.self.view_is c.self.invariant.0) c.requires.unheld are)
