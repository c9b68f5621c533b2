-- A line of a report as an object.
use Rattle.std.specs.Prelude.{ℕ, List, [], ◌∷◌, ◌++◌, Option, Some, None, codes, map, slice_get}
use Rattle.json.specs.Json.{Json, null, string, array, object}
use Rattle.json.specs.Print.{print}
use Rattle.json.specs.Tree.{json_tokens}
use Rattle.dk_base.specs.declared.kinds.VarId.{VarId}
use Rattle.dk_base.specs.declared.kinds.VarInfo.{VarInfo}
use Rattle.dk_forms.specs.declared.states.State.{State}
use Rattle.dk_json.specs.Rows.{row_name}
use Rattle.dk_json.specs.States.{state_json}
use Rattle.dk_json.specs.Texts.{optional_json, text_json}
use Rattle.dk_json.specs.Trees.{Field, items_of, members_of}
use Rattle.dk_json.specs.declared.lines.Claimed.{Claimed}
use Rattle.dk_json.specs.declared.lines.Instance.{Instance}
use Rattle.dk_template.specs.declared.grammar.RowId.{RowId}

-- ---- the instance that has the text
abbrev pub name_in : Option VarInfo → List ℕ
name_in None = []
name_in (Some info) = info.name

abbrev pub names_json : List VarInfo → List VarId → Json
names_json infos vars = array (items_of (map (λ (v : VarId). text_json (name_in (slice_get infos v.0))) vars))

-- the row, its variables by role, and the parameters of their state
abbrev pub row_fields : RowId → List VarInfo → List VarId → State → List Field
row_fields row infos vars s =
    (codes "row", string (row_name row)) ∷ (codes "variables", names_json infos vars) ∷ (codes "state", state_json s) ∷ []

abbrev pub instance_fields : Instance → List Field
instance_fields i = row_fields i.row i.infos.now i.vars.now i.state.now

-- where no instance has the text
abbrev pub no_row_fields : List Field
no_row_fields = (codes "row", null) ∷ (codes "variables", array (items_of [])) ∷ (codes "state", object (members_of [])) ∷ []

-- what the text says, if an instance has it
abbrev pub said_fields : Option Instance → List Field
said_fields None = no_row_fields
said_fields (Some i) = instance_fields i

-- ---- the line
-- the point, the text and the number of samples
abbrev pub text_fields : List ℕ → List ℕ → Option ℕ → List Field
text_fields point text samples =
    (codes "point", text_json point) ∷ (codes "text", text_json text) ∷ (codes "samples", optional_json samples) ∷ []

abbrev pub claimed_fields : Claimed → List Field
claimed_fields c = text_fields c.point.now c.text.now c.samples

-- the object of what a line claims and of what its text says
abbrev pub object_of : List Field → List Field → Json
object_of claimed said = object (members_of (claimed ++ said))

abbrev pub line_json : Claimed → Option Instance → Json
line_json claimed said = object_of (claimed_fields claimed) (said_fields said)

-- a value, as it is written
abbrev pub written : Json → List ℕ
written j = print (json_tokens j)
