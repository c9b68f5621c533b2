-- What the tables of all rows come to.
use Rattle.std.specs.Prelude.{◌≡◌, false, IsSome, IsTrue, List}
use Rattle.std.specs.List.{list_all}
use Rattle.dk_base.specs.Pieces.{is_empty}
use Rattle.dk_base.specs.declared.kinds.VarId.{VarId}
use Rattle.dk_base.specs.declared.kinds.VarInfo.{VarInfo}
use Rattle.dk_forms.specs.declared.states.State.{State}
use Rattle.dk_template.specs.Templates.{IsRow}
use Rattle.dk_template.specs.declared.grammar.RowId.{RowId}
use Rattle.dk_languages.specs.Literals.{can_say}
use Rattle.dk_languages.specs.Rows.{row_in}
use Rattle.dk_languages.specs.Speaking.{is_spoken}
use Rattle.dk_languages.specs.Tellings.{telling}
use Rattle.dk_languages.specs.declared.languages.Language.{Language}
use Rattle.dk_languages.specs.declared.variables.Base.{Base}

-- each row has a line in the table of each language
abbrev pub EachRowHasALine : Type 0
EachRowHasALine = (l : Language) (row : RowId) → IsRow row → is_empty (row_in l row) ≡ false

-- each row is told over variables that the language can say, with a state that it can say
abbrev pub EachRowIsTold : Type 0
EachRowIsTold =
    (l : Language) (infos : List VarInfo) (bases : List Base) (row : RowId) (vars : List VarId) (s : State) → IsRow row
    → IsTrue (list_all (is_spoken infos bases) vars) → IsTrue (can_say l s) → IsSome (telling l infos bases row vars s)
