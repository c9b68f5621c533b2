use Rattle.std.proofs.Common.{[], ◌∷◌, ℕ, List, ap, codes}
use Rattle.std.proofs.lemmas.Result.{on_ok_weaker}
use Rattle.json.specs.Json.{string}
use Rattle.json.specs.Token as token
use Rattle.dk_json.specs.Lines.{names_json}
use Rattle.dk_json.specs.Rows.{row_name}
use Rattle.dk_json.specs.States.{state_json}
use Rattle.dk_json.specs.Trees.{Field}
use Rattle.dk_json.proofs.Adding.{field, fields_behind, one_field, the_same, wrote}
use Rattle.dk_json.proofs.lines.push_instance.Goals as goal

pub returns : goal.returns
returns c =
    let i = c.args.instance in
    let row : Field = (codes "row", string (row_name i.row)) in
    let variables : Field = (codes "variables", names_json i.infos.now i.vars.now) in
    let state : Field = (codes "state", state_json i.state.now) in
    on_ok_weaker c.push_state.result
    (λ last. fields_behind (row ∷ variables ∷ []) (state ∷ [])
    (fields_behind (row ∷ []) (variables ∷ [])
    (one_field row (field row (wrote c.in_ok-key.ensures) (the_same (ap (λ (s : List ℕ). token.string s ∷ []) c.name_of.ensures) (wrote c.in_ok-string.ensures))))
    (one_field variables (field variables (wrote c.in_ok-key-2.ensures) c.in_ok-push_names.ensures)))
    (one_field state (field state (wrote c.in_ok-key-3.ensures) last)))
    c.push_state.ensures
