use Rattle.std.proofs.Common.{ap, ◌∙◌}
use Rattle.std.proofs.lemmas.Result.{on_err_weaker}
use Rattle.dk_template.specs.Templates.{form_of}
use Rattle.dk_unary.proofs.Takes.{one_of_strings}
use Rattle.dk_unary.specs.Rows.{one_of_row}
use Rattle.dk_unary.proofs.one_of.OneOfRow.point.Goals as goal

-- only the row of strings wants memory
pub returns-clause-err : goal.returns-clause-err
returns-clause-err c = on_err_weaker c.state_of_one.result (λ e. ap (λ r. form_of (one_of_row r)) e ∙ one_of_strings) c.state_of_one.ensures.err
