use Rattle.std.proofs.Common.{refl}
use Rattle.dk_languages.specs.Rows.PythonRows.{python_rows}
use Rattle.dk_languages.proofs.rows.python.rows.Goals as goal

pub returns : goal.returns
unfolding python_rows
returns c = refl
