use Rattle.std.specs.Prelude.{nat_eq}
use Rattle.std.specs.List.{starts_with}
use Rattle.std.proofs.Common.{◌∙◌, ap, sym}
use Rattle.std.proofs.lemmas.Bool.{false≢true}
use Rattle.dk_expr.proofs.Ends.{starts_itself}
use Rattle.dk_expr.proofs.steps.with_word.Goals as goal

pub returns-else-starts_with : goal.returns-else-starts_with
returns-else-starts_with c more is =
    absurd (false≢true (sym c.if-starts_with.false ∙ c.starts_with.ensures.value ∙ ap (λ l. starts_with nat_eq l c.args.word.now) (c.rest.ensures ∙ is) ∙ starts_itself c.args.word.now more))
