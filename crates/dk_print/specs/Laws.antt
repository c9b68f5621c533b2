-- What the table of texts comes to.
use Rattle.std.specs.Prelude.{◌≡◌, ◌<◌, All, IsTrue, List, length}
use Rattle.dk_base.specs.Values.Items.{is_text}
use Rattle.dk_base.specs.declared.kinds.VarId.{VarId}
use Rattle.dk_base.specs.declared.kinds.VarInfo.{VarInfo}
use Rattle.dk_filters.specs.Facts.{info_at}
use Rattle.dk_forms.specs.declared.states.State.{State}
use Rattle.dk_forms.specs.declared.states.State.TheVariants as state
use Rattle.dk_instances.specs.Instances.{IsInstance}
use Rattle.dk_template.specs.Templates.{IsRow, role_kinds}
use Rattle.dk_template.specs.declared.grammar.Grammar.{Grammar}
use Rattle.dk_template.specs.declared.grammar.RowId.{RowId}
use Rattle.dk_print.specs.Names.{is_plain_name}
use Rattle.dk_print.specs.Texts.{instance_text, parts_of_row}

-- Two rows with the same parts take variables of other kinds: the kinds and the parts tell the row.
abbrev pub RowsAlikeTakeOtherKinds : Type 0
RowsAlikeTakeOtherKinds = (r q : RowId) → IsRow r → IsRow q → parts_of_row r ≡ parts_of_row q → role_kinds r ≡ role_kinds q → r ≡ q

-- the variables have plain names, and no two have one name
pub record NamesTell (infos : List VarInfo) : Type 0 where
  pub plain : All (λ (info : VarInfo). IsTrue (is_plain_name info.name)) infos
  pub differ : (v w : VarId) → v.0 < length infos → w.0 < length infos → (info_at infos v).name ≡ (info_at infos w).name → v ≡ w

-- the texts that the state knows, if any, are texts of strings
abbrev pub TellsStrings : State → Type 0
TellsStrings (state.Texts texts) = All (λ text. IsTrue (is_text text)) texts
TellsStrings _ = Unit {0}

-- At a point whose variables have plain names that differ, the text of an instance tells its row and its variables, whatever is
-- known of it: two different instances print differently.
abbrev pub TextsTellInstances : Type 0
TextsTellInstances =
    (grammar : Grammar) (infos : List VarInfo) → NamesTell infos → (r q : RowId) (vars others : List VarId)
    → IsInstance grammar infos r vars → IsInstance grammar infos q others
    → (s t : State) → TellsStrings s → TellsStrings t → instance_text infos r vars s ≡ instance_text infos q others t
    → (r ≡ q) × (vars ≡ others)
