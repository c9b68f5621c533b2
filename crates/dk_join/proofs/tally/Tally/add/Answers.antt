use Rattle.std.proofs.Common.{◌≡◌, ap, arith, sym, subst, ◌∙◌, [], ◌∷◌, ◌++◌, List, Vec, Global, map, position, Some, None}
use Rattle.dk_base.specs.declared.kinds.VarId.{VarId}
use Rattle.dk_presence.specs.Patterns.{AreHeld, held_patterns, same_vars}
use Rattle.dk_presence.specs.declared.held.Held.{Held}
use Rattle.dk_presence.proofs.Placing.{pointwise_same}
use Rattle.dk_join.proofs.Keys.{keys_new}
use Rattle.dk_presence.proofs.Refining.{no_held}
use Rattle.dk_join.proofs.Tallying.{first_is, held_tallied, patterns_tallied, tallied_found, tallied_new}
use Rattle.dk_join.specs.Tallies.{with_samples_of}
use Rattle.dk_join.proofs.tally.Tally.add.Goals as goal

pub invariant_of-result : goal.invariant_of-result
invariant_of-result c =
    let held = c.self.inside.held.items in
    let present = c.args.present in
    let count = c.args.count in
    let at : position (same_vars present) (held_patterns held) ≡ Some c.in-Some.place =
    ap (position (same_vars present)) (sym c.self.invariant.1) ∙ (ap (λ (ps : List VarId). position (same_vars ps) (map (λ (k : Vec VarId Global). k.items) c.self.inside.places.keys)) (sym c.as_slice.ensures) ∙ (sym c.place_of.ensures ∙ c.in-Some.is)) in
    let found = tallied_found count present held c.in-Some.place at in
    let is : c.with_more.result.items ≡ with_samples_of count present held = c.with_more.ensures no_held ∙ sym (found.0 no_held) in
    (subst AreHeld (sym is) (held_tallied count present c.requires.some held c.requires.ascend c.self.invariant.0), c.self.invariant.1 ∙ sym (ap held_patterns is ∙ found.1))

pub returns-in-Some : goal.returns-in-Some
returns-in-Some c =
    let held = c.self.inside.held.items in
    let present = c.args.present in
    let count = c.args.count in
    let at : position (same_vars present) (held_patterns held) ≡ Some c.in-Some.place =
    ap (position (same_vars present)) (sym c.self.invariant.1) ∙ (ap (λ (ps : List VarId). position (same_vars ps) (map (λ (k : Vec VarId Global). k.items) c.self.inside.places.keys)) (sym c.as_slice.ensures) ∙ (sym c.place_of.ensures ∙ c.in-Some.is)) in
    let found = tallied_found count present held c.in-Some.place at in
    c.with_more.ensures no_held ∙ (sym (found.0 no_held) ∙ ap (with_samples_of count present) c.self.view_is)

pub invariant_of-result-in-None : goal.invariant_of-result-in-None
invariant_of-result-in-None c =
    let held = c.self.inside.held.items in
    let present = c.args.present in
    let count = c.args.count in
    let none : position (same_vars present) (held_patterns held) ≡ None =
    ap (position (same_vars present)) (sym c.self.invariant.1) ∙ (ap (λ (ps : List VarId). position (same_vars ps) (map (λ (k : Vec VarId Global). k.items) c.self.inside.places.keys)) (sym c.as_slice.ensures) ∙ (sym c.place_of.ensures ∙ c.in-None.is)) in
    let is = c.in_ok-with_pattern-in-None.ensures ∙ (ap (λ (h : Held). held ++ h ∷ []) (sym (first_is count present (omega (arith, c.ranges.count)))) ∙ sym (tallied_new count present held none)) in (
      subst AreHeld (sym is) (held_tallied count present c.requires.some held c.requires.ascend c.self.invariant.0),
      keys_new (λ (k : Vec VarId Global). k.items) _ (λ a b. pointwise_same a.items b.items) present held none c.self.inside.places.keys c.insert.new.self.keys c.in_ok-from_slice-in-None.field-0
          c.self.invariant.1 (c.in_ok-from_slice-in-None.ensures.items ∙ c.as_slice-in-None.ensures) c.in_ok-insert-in-None.ensures.keys ∙ (sym (patterns_tallied count present held) ∙ sym (ap held_patterns is)),
    )

pub returns-in_ok-with_pattern-in-None : goal.returns-in_ok-with_pattern-in-None
returns-in_ok-with_pattern-in-None c =
    let held = c.self.inside.held.items in
    let present = c.args.present in
    let count = c.args.count in
    let none : position (same_vars present) (held_patterns held) ≡ None =
    ap (position (same_vars present)) (sym c.self.invariant.1) ∙ (ap (λ (ps : List VarId). position (same_vars ps) (map (λ (k : Vec VarId Global). k.items) c.self.inside.places.keys)) (sym c.as_slice.ensures) ∙ (sym c.place_of.ensures ∙ c.in-None.is)) in
    c.in_ok-with_pattern-in-None.ensures ∙ (ap (λ (h : Held). held ++ h ∷ []) (sym (first_is count present (omega (arith, c.ranges.count)))) ∙ (sym (tallied_new count present held none) ∙ ap (with_samples_of count present) c.self.view_is))
