use Rattle.std.proofs.Common.{refl}
use Rattle.dk_languages.specs.Rows.CRows.{c_rows}
use Rattle.dk_languages.proofs.rows.c.rows.Goals as goal

pub returns : goal.returns
unfolding c_rows
returns c = refl
