-- What a state says, by the names of its parameters.
use Rattle.std.specs.Prelude.{List, [], ◌∷◌, codes, map}
use Rattle.json.specs.Json.{Json, boolean, array, object}
use Rattle.dk_forms.specs.declared.states.State.{State}
use Rattle.dk_forms.specs.declared.states.State.TheVariants as state
use Rattle.dk_json.specs.Texts.{natural_json, number_json, text_json}
use Rattle.dk_json.specs.Trees.{Field, items_of, members_of}

abbrev pub values_field : List Json → List Field
values_field values = (codes "values", array (items_of values)) ∷ []

-- a relation, and what isn't known, has no parameter
abbrev pub state_fields : State → List Field
state_fields (state.Least k) = (codes "least", number_json k) ∷ []
state_fields (state.Greatest k) = (codes "greatest", number_json k) ∷ []
state_fields (state.Ints ks) = values_field (map number_json ks)
state_fields (state.Truth b) = values_field (boolean b ∷ [])
state_fields (state.Texts ts) = values_field (map text_json ts)
state_fields (state.Code h) = (codes "code", natural_json h) ∷ []
state_fields (state.Modulus m r) = (codes "modulus", natural_json m) ∷ (codes "remainder", natural_json r) ∷ []
state_fields (state.Straight a b c) = (codes "a", number_json a) ∷ (codes "b", number_json b) ∷ (codes "c", number_json c) ∷ []
state_fields (state.Plane a b c d) =
    (codes "a", number_json a) ∷ (codes "b", number_json b) ∷ (codes "c", number_json c) ∷ (codes "d", number_json d) ∷ []
state_fields (state.Offset k) = (codes "offset", number_json k) ∷ []
state_fields _ = []

abbrev pub state_json : State → Json
state_json s = object (members_of (state_fields s))
