use Rattle.std.specs.Prelude.{◌<◌, ◌^◌, length}
use Rattle.std.proofs.Common.{arith, subst, sym}
use Rattle.dk_derive.proofs.Deriving.{length_with_derived}
use Rattle.dk_derive.specs.Vars.{with_derived_vars}
use Rattle.dk_engine.specs.Exact.{AreOfPoint}
use Rattle.dk_hierarchy.proofs.OfPoint.{of_point}
use Rattle.dk_hierarchy.proofs.engines.engine_of.Goals as goal

pub new-requires : goal.new-requires
new-requires c =
    let base = c.vars.result.now in
    let same = length_with_derived base in
    let fit = c.vars.ensures.few in
    let few : length (with_derived_vars base) < 2 ^ 32 = omega (arith, same, fit) in
    subst AreOfPoint (sym c.in_ok-vars.ensures.vars) (of_point base c.vars.ensures.base few)
