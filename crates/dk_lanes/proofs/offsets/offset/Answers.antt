use Rattle.std.proofs.Common.{rules, ◌≤◌, cond, length, get_or, pos, ◌-ℤ◌, sym, ap, ◌∙◌, SFits, w64, arith}
use Rattle.std.proofs.lemmas.Int.{to_z-of_z}
use Rattle.dk_lanes.specs.declared.offsets.Shift.TheVariants.{Unequal, Const}
use Rattle.dk_lanes.proofs.OffsetLemmas.{shift_is, without_first}
use Rattle.dk_lanes.proofs.offsets.offset.Goals as goal

pub returns-then-s-lt-BLOCK-clause-value : goal.returns-then-s-lt-BLOCK-clause-value
returns-then-s-lt-BLOCK-clause-value c =
    let x = get_or c.args.s.now 0 (pos 0) in
    let y = get_or c.args.t.now 0 (pos 0) in
    let f : SFits w64 x = search rules in
    let g : SFits w64 y = search rules in
    let some : 1 ≤ length c.args.s.now = grind arith in
    let found = rw (to_z-of_z w64 y g, to_z-of_z w64 x f) at c.rest_is_above.ensures in
    let shift = rw (to_z-of_z w64 y g, to_z-of_z w64 x f) at c.shift_where.ensures in
    shift ∙ ap (λ b. cond b (Const (y -ℤ x)) Unequal) (found ∙ without_first c.args.s.now c.args.t.now c.if-s-t.false some)
    ∙ sym (shift_is c.args.s.now c.args.t.now c.if-s-t.false some)

pub returns-else-s-lt-BLOCK-clause-value : goal.returns-else-s-lt-BLOCK-clause-value
returns-else-s-lt-BLOCK-clause-value c =
    let x = get_or c.args.s.now 0 (pos 0) in
    let y = get_or c.args.t.now 0 (pos 0) in
    let f : SFits w64 x = search rules in
    let g : SFits w64 y = search rules in
    let some : 1 ≤ length c.args.s.now = grind arith in
    let found = rw (to_z-of_z w64 y g, to_z-of_z w64 x f) at c.is_above.ensures in
    let shift = rw (to_z-of_z w64 y g, to_z-of_z w64 x f) at c.shift_where-else-s-lt-BLOCK.ensures in
    shift ∙ ap (λ b. cond b (Const (y -ℤ x)) Unequal) found ∙ sym (shift_is c.args.s.now c.args.t.now c.if-s-t.false some)
