use Rattle.std.specs.Prelude.{◌≡◌, true}
use Rattle.std.proofs.Common.{rules}
use Rattle.std.proofs.lemmas.Bool.{or_right}
use Rattle.dk_engine.specs.Idle.{are_fixed, are_same}
use Rattle.dk_engine.proofs.idle.is_idle_plane.Goals as goal

pub returns-else-are_same : goal.returns-else-are_same
returns-else-are_same c h =
    let x = c.args in
    let fixed : are_fixed x.ranges.now x.u x.v x.w x.a x.b x.c x.d ≡ true = search rules in
    or_right (are_same x.u x.v x.w x.a x.b x.c x.d) (are_fixed x.ranges.now x.u x.v x.w x.a x.b x.c x.d) fixed
