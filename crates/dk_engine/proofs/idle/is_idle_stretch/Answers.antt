use Rattle.std.specs.Prelude.{◌≡◌, true}
use Rattle.std.proofs.Common.{rules}
use Rattle.dk_engine.proofs.Driven.{idle_stretch}
use Rattle.dk_engine.specs.Idle.{is_driven_stretch}
use Rattle.dk_engine.proofs.idle.is_idle_stretch.Goals as goal

pub returns-in-Some : goal.returns-in-Some
returns-in-Some c h =
    let x = c.args in
    let d = c.in-Some.driver in
    let driven : is_driven_stretch x.watch.now.ranges.items d.var d.first d.last x.u x.v x.w x.slot.now.state ≡ true = search rules in
    idle_stretch x.watch.now x.slot.now c.requires.row d.var d.first d.last x.u x.v x.w c.requires.leaders driven
