use Rattle.std.specs.Prelude.{flat_map}
use Rattle.std.proofs.Common.{◌∙◌, ap, arith}
use Rattle.std.proofs.lemmas.List.{take_all}
use Rattle.dk_snapshot.specs.Patterns.{pattern_of}
use Rattle.dk_state.specs.Kept.{pattern_line}
use Rattle.dk_state.specs.Matching.{left_behind}
use Rattle.dk_state.proofs.Passing.{mapped_pieces, one_more_passed}
use Rattle.dk_state.proofs.matching.pass_held.Goals as goal

pub loop-pattern-preserved : goal.loop-pattern-preserved
loop-pattern-preserved c =
    one_more_passed (λ h. pattern_line (pattern_of c.args.leaders.now h)) c.args.held.now c.loop-pattern.pattern-index c.pattern-item.result c.args.rest.now c.loop-pattern.rest c.pass_pattern.new.rest
    c.loop-pattern-test.true c.pattern-item.is c.loop-pattern.invariant
    (c.in_ok-pass_pattern.ensures ∙ ap (λ p. left_behind (pattern_line p) c.loop-pattern.rest) c.in_ok-pattern_of.ensures)

pub returns : goal.returns
returns c =
    let held = c.args.held.now in
    let over = c.loop-pattern-test.false in
    c.loop-pattern.invariant
    ∙ ap (λ t. left_behind t c.args.rest.now)
    (ap (flat_map (λ h. pattern_line (pattern_of c.args.leaders.now h))) (take_all c.loop-pattern.pattern-index held (omega (arith, over)))
    ∙ mapped_pieces (pattern_of c.args.leaders.now) pattern_line held)
