use Rattle.std.specs.Prelude.{IfSome, Some}
use Rattle.std.proofs.Common.{subst, sym}
use Rattle.dk_expr.specs.Finds.{IsNoLater}
use Rattle.dk_expr.proofs.FirstRead.{ahead, no_later_itself, not_ahead, not_itself, precede_on}
use Rattle.dk_expr.proofs.reading.lesser.Goals as goal

pub returns-in-None-clause-second : goal.returns-in-None-clause-second
returns-in-None-clause-second c = no_later_itself c.args.b

pub returns-then-precedes-clause-first : goal.returns-then-precedes-clause-first
returns-then-precedes-clause-first c =
    λ vars no_later before.
    precede_on vars c.in-Some-b.b.vars c.in-Some.a.vars (subst (λ a. IsNoLater a vars) c.in-Some.is no_later)
    (ahead c.in-Some.a c.in-Some-b.b _ _ _ c.as_slice.ensures.items c.as_slice-in-Some-b.ensures.items c.precedes.ensures c.if-precedes.true) before

pub returns-then-precedes-clause-second : goal.returns-then-precedes-clause-second
returns-then-precedes-clause-second c = subst (λ b. IfSome b (λ x. IsNoLater (Some c.in-Some-b.b) x.vars)) (sym c.in-Some-b.is) (not_itself c.in-Some-b.b.vars)

pub returns-else-precedes-clause-second : goal.returns-else-precedes-clause-second
returns-else-precedes-clause-second c =
    subst (λ b. IfSome b (λ x. IsNoLater (Some c.in-Some.a) x.vars)) (sym c.in-Some-b.is)
    (not_ahead c.in-Some.a c.in-Some-b.b _ _ _ c.as_slice.ensures.items c.as_slice-in-Some-b.ensures.items c.precedes.ensures c.if-precedes.false)
