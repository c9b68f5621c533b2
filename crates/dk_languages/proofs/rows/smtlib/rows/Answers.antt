use Rattle.std.proofs.Common.{refl}
use Rattle.dk_languages.specs.Rows.SmtlibRows.{smtlib_rows}
use Rattle.dk_languages.proofs.rows.smtlib.rows.Goals as goal

pub returns : goal.returns
unfolding smtlib_rows
returns c = refl
