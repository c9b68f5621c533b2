-- What reading and testing come to.
use Rattle.std.specs.Prelude.{◌≡◌, ℕ, List}
use Rattle.dk_base.specs.declared.kinds.VarId.{VarId}
use Rattle.dk_base.specs.declared.kinds.VarInfo.{VarInfo}
use Rattle.dk_forms.specs.declared.states.State.{State}
use Rattle.dk_print.specs.Texts.{instance_text}
use Rattle.dk_template.specs.Proper.{IsProper}
use Rattle.dk_template.specs.Templates.{IsRow, form_of}
use Rattle.dk_template.specs.declared.grammar.RowId.{RowId}
use Rattle.dk_expr.specs.Reads.{HasText, IsFirst, IsRead, told_state}
use Rattle.dk_expr.specs.declared.assertions.Assertion.{Assertion}

-- The text of an instance is read as the instance with its state, where no earlier instance has the text. Only where the state is a
-- hash code that isn't null, the text doesn't tell it.
abbrev pub TextsReadBack : Type 0
TextsReadBack =
    (infos : List VarInfo) (row : RowId) (vars : List VarId) (s : State) (read : Assertion)
    → HasText infos (instance_text infos row vars s) row vars s → IsFirst infos (instance_text infos row vars s) row vars
    → IsRead infos (instance_text infos row vars s) read
    → read ≡ record { row = row; vars = vars; state = told_state s }

-- What is read can be tested: its state is proper for its row.
abbrev pub ReadStatesAreProper : Type 0
ReadStatesAreProper =
    (infos : List VarInfo) (text : List ℕ) (read : Assertion) → IsRead infos text read
    → IsRow read.row × IsProper (form_of read.row) read.state
