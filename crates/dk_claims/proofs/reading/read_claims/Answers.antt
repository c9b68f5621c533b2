use Rattle.std.proofs.Common.{◌∙◌, ap}
use Rattle.std.proofs.lemmas.Result.{err_from_is_err_and}
use Rattle.std.specs.List.{flat_map}
use Rattle.dk_claims.specs.Sections.{section_claims}
use Rattle.dk_claims.proofs.Lining.{claims_given, claims_refused}
use Rattle.dk_claims.proofs.reading.read_claims.Goals as goal

pub returns-in-Ok-clause-gives : goal.returns-in-Ok-clause-gives
returns-in-Ok-clause-gives g c =
    claims_given c.args.lines.now _ c.in_ok-sections.sections _ _ _ c.in_ok-sections.ensures.gives
    (c.in-Ok.ensures ∙ ap (flat_map section_claims) c.as_slice.ensures)

pub returns-in_err-sections-clause-gives : goal.returns-in_err-sections-clause-gives
returns-in_err-sections-clause-gives g c =
    let p = err_from_is_err_and c.from_residual.result c.from_residual.ensures.1 in
    rw (p.1, p.2) (claims_refused c.args.lines.now _ c.in_err-sections.field-0.0 _ _ c.in_err-sections.ensures.gives)
