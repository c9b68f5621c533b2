use Rattle.std.specs.Prelude.{refl}
use Rattle.std.proofs.Common.{subst}
use Rattle.dk_expr.specs.Finds.{IsNoLater}
use Rattle.dk_expr.proofs.FirstRead.{more_below}
use Rattle.dk_expr.proofs.reading.read_by.Goals as goal

pub loop-row-preserved : goal.loop-row-preserved
loop-row-preserved c =
    more_below c.args.vars.now c.args.text.now (record { 0 = c.loop-row.row }) c.loop-row.row refl c.loop-row.invariant
    (λ vars s has. subst (λ read. IsNoLater read vars) c.in_default.is (c.in_ok-first.ensures.least vars s has))
