use Rattle.std.proofs.Common.{sym, subst}
use Rattle.std.proofs.lemmas.Result.{err_from_is_err_and}
use Rattle.dk_blocks.specs.Standing.{ReaderStandsFor}
use Rattle.dk_core.specs.Keeping.{Keeping}
use Rattle.dk_core.specs.Standing.{Stands}
use Rattle.dk_core.specs.Taking.{EnginesWere}
use Rattle.dk_core.proofs.kept.SessionParts.declare.Goals as goal

pub returns-clause-gives : goal.returns-clause-gives
returns-clause-gives c h now stands =
    let taken = c.in_ok-kept.ensures.gives h now (subst (λ (k : Keeping). ReaderStandsFor k.reader now) (sym c.replace.ensures.value) stands) in (
      taken.0,
      subst (λ (k : Keeping). ReaderStandsFor k.reader taken.0) (sym c.drop-2.view_is) taken.1,
      (
        taken.2.0,
        taken.2.1,
        λ were adds grammar. subst (λ (k : Keeping). Stands k taken.0) (sym c.drop-2.view_is)
            (taken.2.2 (subst (λ (k : Keeping). EnginesWere k h) (sym c.replace.ensures.value) were) adds grammar),
      ),
    )

pub returns-in_err-kept-clause-gives : goal.returns-in_err-kept-clause-gives
returns-in_err-kept-clause-gives c h now stands =
    let p = err_from_is_err_and c.from_residual.result c.from_residual.ensures.1 in
    rw (p.1, p.2) (c.in_err-kept.ensures.gives h now (subst (λ (k : Keeping). ReaderStandsFor k.reader now) (sym c.replace.ensures.value) stands))
