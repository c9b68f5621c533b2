use Rattle.std.specs.Result.{result_ok}
use Rattle.std.specs.Str.{IsUtf8}
use Rattle.std.proofs.Common.{◌∙◌, ap, subst, sym}
use Rattle.dk_base.proofs.WideNumerals.{number_back, number_is_text}
use Rattle.dk_base.proofs.numbers.wide.parsed.Goals as goal

pub returns-in-Ok : goal.returns-in-Ok
returns-in-Ok c z small is =
    c.ok.ensures.value ∙ ap result_ok (number_back z c.in-Ok.text.now c.parse.result small (c.in-Ok.ensures.cases.0 ∙ is) c.parse.ensures.value.0)

pub returns-in-Err : goal.returns-in-Err
returns-in-Err c z small is = absurd (c.in-Err.ensures.cases.0 (subst IsUtf8 (sym is) (number_is_text z small)))
