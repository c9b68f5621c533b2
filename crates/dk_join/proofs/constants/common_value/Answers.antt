use Rattle.std.specs.Prelude.{option_copied}
use Rattle.std.proofs.Common.{◌∙◌, ap, sym}
use Rattle.std.proofs.lemmas.Bool.{false≢true}
use Rattle.dk_join.proofs.KnownSteps.{common_else, common_then}
use Rattle.dk_join.proofs.constants.common_value.Goals as goal

pub returns-then-same_kept : goal.returns-then-same_kept
returns-then-same_kept c =
    common_then _ _ c.in-Some.x.now c.in-Some-second.y.now (ap option_copied c.in-Some.is) (ap option_copied c.in-Some-second.is) (c.same_kept.ensures.0 c.if-same_kept.true)

pub returns-else-same_kept : goal.returns-else-same_kept
returns-else-same_kept c =
    common_else _ _ c.in-Some.x.now c.in-Some-second.y.now (ap option_copied c.in-Some.is) (ap option_copied c.in-Some-second.is)
    (λ e. false≢true (sym c.if-same_kept.false ∙ c.same_kept.ensures.1 e))
