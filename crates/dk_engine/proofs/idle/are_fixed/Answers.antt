use Rattle.std.specs.Prelude.{◌≡◌, ◌||◌, true}
use Rattle.std.proofs.Common.{rules}
use Rattle.std.proofs.lemmas.Bool.{or_left, or_right}
use Rattle.dk_engine.specs.Idle.{is_fixed}
use Rattle.dk_engine.proofs.idle.are_fixed.Goals as goal

pub returns-then-is_fixed-2 : goal.returns-then-is_fixed-2
returns-then-is_fixed-2 c h =
    let x = c.args in
    let ranges = x.ranges.now in
    let second : is_fixed ranges x.v x.b x.c x.a x.d ≡ true = search rules in
    or_right (is_fixed ranges x.u x.a x.b x.c x.d) (is_fixed ranges x.v x.b x.c x.a x.d || is_fixed ranges x.w x.c x.a x.b x.d)
    (or_left (is_fixed ranges x.v x.b x.c x.a x.d) (is_fixed ranges x.w x.c x.a x.b x.d) second)

pub returns-else-is_fixed-2 : goal.returns-else-is_fixed-2
returns-else-is_fixed-2 c h =
    let x = c.args in
    let ranges = x.ranges.now in
    let third : is_fixed ranges x.w x.c x.a x.b x.d ≡ true = search rules in
    or_right (is_fixed ranges x.u x.a x.b x.c x.d) (is_fixed ranges x.v x.b x.c x.a x.d || is_fixed ranges x.w x.c x.a x.b x.d)
    (or_right (is_fixed ranges x.v x.b x.c x.a x.d) (is_fixed ranges x.w x.c x.a x.b x.d) third)
