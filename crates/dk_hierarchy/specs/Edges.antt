-- What a child's samples tell of a parent's variables, through an edge with these partners.
use Rattle.std.specs.Prelude.{◌≡◌, Bool, true, not, IsSomeAnd, List, [], ◌∷◌, length, map, slice_get, slice_index_or, Option, Some, None, option_and_then, option_map}
use Rattle.std.specs.List.{list_all}
use Rattle.std.specs.Option.{option_map_or}
use Rattle.dk_base.specs.declared.kinds.VarId.{VarId}
use Rattle.dk_base.specs.declared.kinds.VarInfo.{VarInfo}
use Rattle.dk_base.specs.declared.values.Value.{Value}
use Rattle.dk_derive.specs.Laws.{IsAlike}
use Rattle.dk_instances.specs.Fits.{fit}
use Rattle.dk_forms.specs.declared.states.State.TheVariants.{Empty}
use Rattle.dk_base.specs.Values.SameValues.{same_value}
use Rattle.dk_presence.specs.Patterns.{count_of}
use Rattle.dk_samples.specs.Samples.{is_present, value_in}
use Rattle.dk_template.specs.Templates.{IsRow}
use Rattle.dk_template.specs.declared.grammar.RowId.{RowId}
use Rattle.dk_hierarchy.specs.Samples.{mapped_sample}

-- the partner of a variable, if it has one
abbrev pub partner_at : List (Option VarId) → VarId → Option VarId
partner_at partners v = slice_index_or partners v.0 None

-- the partners of these variables, if each has one
abbrev pub partners_at : List (Option VarId) → List VarId → Option (List VarId)
partners_at partners [] = Some []
partners_at partners (v ∷ vars) = option_and_then (λ w. option_map (λ rest. w ∷ rest) (partners_at partners vars)) (partner_at partners v)

-- A row says of the variables what it says of their partners. Where one has no partner it says nothing.
abbrev pub FitsThroughEdges : Type 0
FitsThroughEdges =
    (row : RowId) → IsRow row → (partners : List (Option VarId)) (vars : List VarId) (samples : List (List Value))
    → fit row vars (map (mapped_sample partners) samples) ≡ option_map_or (λ there. fit row there samples) (partners_at partners vars) Empty

-- They are present together as often as their partners. Where one has no partner they never are.
abbrev pub CountsThroughEdges : Type 0
CountsThroughEdges =
    (partners : List (Option VarId)) (vars : List VarId) (samples : List (List Value))
    → count_of vars (map (mapped_sample partners) samples) ≡ option_map_or (λ there. count_of there samples) (partners_at partners vars) 0

-- Two variables have the same values where their partners have, where neither has a partner, or where one has none and the other's
-- partner is never present.
abbrev pub same_through : List (List Value) → Option VarId → Option VarId → Bool
same_through samples None None = true
same_through samples (Some v) None = list_all (λ s. not (is_present (value_in s v))) samples
same_through samples None (Some w) = list_all (λ s. not (is_present (value_in s w))) samples
same_through samples (Some v) (Some w) = list_all (λ s. same_value (value_in s v) (value_in s w)) samples

abbrev pub AgreementThroughEdges : Type 0
AgreementThroughEdges =
    (partners : List (Option VarId)) (v w : VarId) (samples : List (List Value))
    → list_all (λ s. same_value (value_in s v) (value_in s w)) (map (mapped_sample partners) samples)
    ≡ same_through samples (partner_at partners v) (partner_at partners w)

-- ---- partners that can stand for variables
-- A variable and its partner are of one kind, and both base variables or both derived ones.
pub record ArePartners (infos there : List VarInfo) (partners : List (Option VarId)) : Type 0 where
  pub long : length partners ≡ length infos
  pub alike : (v w : VarId) → partner_at partners v ≡ Some w
      → IsSomeAnd (slice_get infos v.0) (λ a. IsSomeAnd (slice_get there w.0) (IsAlike a))
