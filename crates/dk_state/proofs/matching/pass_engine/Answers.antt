use Rattle.std.specs.Prelude.{◌<◌, ◌++◌, List, ℕ, flat_map}
use Rattle.std.proofs.Common.{◌∙◌, ap, arith, sym}
use Rattle.dk_engine.specs.Saved.{parts_of}
use Rattle.dk_state.specs.Kept.{known_line, opening_lines, slot_line}
use Rattle.dk_state.specs.Matching.{left_behind}
use Rattle.dk_state.proofs.PassedEngines.{kept_passed, none_passed}
use Rattle.dk_state.proofs.matching.pass_engine.Goals as goal

pub returns-then-counts-eq0 : goal.returns-then-counts-eq0
returns-then-counts-eq0 c = none_passed c.args.point c.args.engine.now.kept c.args.rest.now (sym c.counts.ensures.samples ∙ c.if-counts-eq0.true)

pub returns : goal.returns
returns c =
    let kept = c.args.engine.now.kept in
    let parts = parts_of kept in
    let some : 0 < kept.samples = omega (arith, c.counts.ensures.samples, c.if-counts-eq0.false) in
    kept_passed c.args.point kept c.args.rest.now c.pass.new.self c.pass_own_patterns.new.rest c.pass-2.new.self c.pass_slots.new.rest c.pass-3.new.self some
    (c.pass.ensures ∙ ap (λ (t : List ℕ). left_behind t c.args.rest.now) (c.as_slice.ensures ∙ c.in_ok-push_opening.ensures ∙ ap (λ (t : List ℕ). t ++ opening_lines c.args.point parts) c.new-opening.ensures))
    c.in_ok-pass_own_patterns.ensures
    (c.pass-2.ensures ∙ ap (λ (t : List ℕ). left_behind t c.pass_own_patterns.new.rest) (c.as_slice-2.ensures ∙ c.in_ok-push_constants.ensures ∙ ap (λ (t : List ℕ). t ++ flat_map known_line parts.known) c.new-constants.ensures))
    (c.in_ok-pass_slots.ensures ∙ ap (λ slots. left_behind (flat_map slot_line slots) c.pass-2.new.self) c.slots.ensures)
    c.pass-3.ensures
