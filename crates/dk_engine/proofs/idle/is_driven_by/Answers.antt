use Rattle.std.specs.Prelude.{◌≡◌, ◌&&◌, ◌==◌, true}
use Rattle.std.specs.Ordering.{int_eq}
use Rattle.std.proofs.Common.{rules}
use Rattle.std.proofs.lemmas.Bool.{or_right}
use Rattle.dk_engine.specs.Idle.{is_above, is_below}
use Rattle.dk_engine.proofs.idle.is_driven_by.Goals as goal

pub returns-else-is_driver : goal.returns-else-is_driver
returns-else-is_driver c h =
    let x = c.args in
    let still : (int_eq x.a x.b && (is_above x.ranges.now x.v x.a && is_below x.ranges.now x.v x.a)) ≡ true = search rules in
    or_right (x.v.0 == x.driver.var.0 && (int_eq x.a x.driver.first && int_eq x.b x.driver.last)) (int_eq x.a x.b && (is_above x.ranges.now x.v x.a && is_below x.ranges.now x.v x.a)) still
