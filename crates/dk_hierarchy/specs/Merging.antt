-- What the engines of points say of a point's variables, through the ways down from it.
use Rattle.std.specs.Prelude.{◌≡◌, ◌==◌, ◌&&◌, ◌*◌, ◌<◌, ℕ, Bool, true, All, List, [], ◌∷◌, fold, length, slice_index_or, sum_by, Option, Some, None}
use Rattle.std.specs.List.{list_all}
use Rattle.std.specs.Option.{option_map_or}
use Rattle.dk_base.specs.declared.kinds.VarId.{VarId}
use Rattle.dk_base.specs.declared.kinds.VarInfo.{VarInfo}
use Rattle.dk_classes.specs.Classes.{kind_at, var_kinds}
use Rattle.dk_engine.specs.Reading.{agree_read, count_read, state_read}
use Rattle.dk_engine.specs.Reading.Levels.{Whole}
use Rattle.dk_engine.specs.declared.kept.Kept.{Kept}
use Rattle.dk_forms.specs.declared.states.State.{State}
use Rattle.dk_forms.specs.declared.states.State.TheVariants.{Empty}
use Rattle.dk_presence.specs.Patterns.{capped}
use Rattle.dk_template.specs.Admitted.{same_kind}
use Rattle.dk_template.specs.Joins.{joined}
use Rattle.dk_template.specs.Templates.{form_of}
use Rattle.dk_template.specs.declared.grammar.RowId.{RowId}
use Rattle.dk_hierarchy.specs.Edges.{ArePartners, partner_at, partners_at}
use Rattle.dk_hierarchy.specs.declared.way.Way.{Way}

-- What a merged point is seen as: its own engine, those of all points, and the ways down from it.
pub record Joint : Type 0 where
  pub here : Whole
  pub engines : List Whole
  pub ways : List Way

-- the engine that a way leads to
abbrev pub engine_at : Joint → Way → Whole
engine_at joint way = slice_index_or joint.engines way.point.0 joint.here

-- ---- through one way
-- A row says of variables what it says of their partners. Where one has no partner they have no tuple.
abbrev pub state_through : Joint → RowId → List VarId → Way → State
state_through joint row vars way = option_map_or (state_read (engine_at joint way).kept row) (partners_at way.partners vars) Empty

-- They are present together as often as their partners, on each path.
abbrev pub count_through : Joint → List VarId → Way → ℕ
count_through joint vars way = option_map_or (count_read (engine_at joint way).kept) (partners_at way.partners vars) 0 * way.paths

-- Two variables agree where their partners do, where neither has one, or where one has none and the other's is never present.
abbrev pub partners_agree : Kept → Option VarId → Option VarId → Bool
partners_agree kept None None = true
partners_agree kept (Some v) None = count_read kept (v ∷ []) == 0
partners_agree kept None (Some w) = count_read kept (w ∷ []) == 0
partners_agree kept (Some v) (Some w) = agree_read kept v w

abbrev pub agree_through : Joint → VarId → VarId → Way → Bool
agree_through joint v w way = partners_agree (engine_at joint way).kept (partner_at way.partners v) (partner_at way.partners w)

-- ---- through all ways
-- the join of what the ways say, of some state and these
abbrev pub states_joined : Joint → RowId → List VarId → State → List Way → State
states_joined joint row vars state ways = fold (λ s way. joined (form_of row) s (state_through joint row vars way)) state ways

unfoldable pub merged_state : Joint → RowId → List VarId → State
merged_state joint row vars = states_joined joint row vars Empty joint.ways

-- in how many samples none of the variables is missing
unfoldable pub merged_count : Joint → List VarId → ℕ
merged_count joint vars = capped (sum_by (count_through joint vars) joint.ways)

-- whether two variables are of one kind, and agree through each way
abbrev pub same_kinds : List VarInfo → VarId → VarId → Bool
same_kinds infos v w = same_kind (kind_at (var_kinds infos) v.0) (kind_at (var_kinds infos) w.0)

unfoldable pub merged_agree : Joint → VarId → VarId → Bool
merged_agree joint v w = same_kinds joint.here.infos v w && list_all (agree_through joint v w) joint.ways

-- ---- ways that can be asked
-- The way leads to one of the engines, which answers for the same rows.
pub record IsWay (joint : Joint) (way : Way) : Type 0 where
  pub within : way.point.0 < length joint.engines
  pub grammar : (engine_at joint way).grammar ≡ joint.here.grammar
  pub partners : ArePartners joint.here.infos (engine_at joint way).infos way.partners

abbrev pub AreWays : Joint → Type 0
AreWays joint = All (IsWay joint) joint.ways
