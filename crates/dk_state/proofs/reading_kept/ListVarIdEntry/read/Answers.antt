use Rattle.std.specs.Prelude.{◌++◌, ◌∷◌, refl}
use Rattle.std.proofs.Common.{◌∙◌}
use Rattle.dk_state.proofs.KeptLines.{class_onto, lf_no_number, vars_text}
use Rattle.dk_state.proofs.reading_kept.ListVarIdEntry.read.Goals as goal

pub returns-clause-read : goal.returns-clause-read
returns-clause-read c members rest fits last is =
    let passed = c.pass.ensures.read (vars_text members ++ 10 ∷ rest) (is ∙ class_onto members rest) in
    let own = c.in_ok-members.ensures.read members (10 ∷ rest) fits (lf_no_number rest) refl passed in
    (own.0, c.pass-2.ensures.read rest own.1)
