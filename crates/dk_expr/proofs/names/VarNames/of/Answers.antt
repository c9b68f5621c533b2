use Rattle.std.specs.Prelude.{refl}
use Rattle.dk_expr.proofs.Listing.{more_listed}
use Rattle.dk_expr.proofs.names.VarNames.of.Goals as goal

pub loop-place-preserved : goal.loop-place-preserved
loop-place-preserved c =
    more_listed c.args.vars.now c.loop-place.names c.in_ok-names.names c.loop-place.place c.index-vars-place.result c.as_slice.result.now (record { 0 = c.loop-place.place })
    c.loop-place-test.true c.index-vars-place.is c.as_slice.ensures refl c.in_ok-names.ensures c.loop-place.invariant
