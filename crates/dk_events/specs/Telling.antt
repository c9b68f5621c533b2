-- What events tell of the effects of blocks.
use Rattle.std.specs.Prelude.{◌≡◌, ◌<◌, ⊤, List, length, Option, Some, None, option_map}
use Rattle.dk_base.specs.Values.{values_of}
use Rattle.dk_derive.specs.Laws.{all_vars_of, var_kinds}
use Rattle.dk_derive.specs.Values.{values_by_form}
use Rattle.dk_points.specs.Table.{Point}
use Rattle.dk_trace.specs.Fitting.{FitKinds}
use Rattle.dk_blocks.specs.Fitting.{Extends}
use Rattle.dk_blocks.specs.History.{Effect, Nothing, Declares, Samples}
use Rattle.dk_events.specs.declared.event.Event.{Event}
use Rattle.dk_events.specs.declared.event.Event.TheVariants as event

-- the effect that an event tells
abbrev pub effect_told : Event → Effect
effect_told event.Nothing = Nothing
effect_told event.Declared = Declares
effect_told (event.Sample point line values) = Samples point.0 line (values_of values.now)

abbrev pub told : Option Event → Option Effect
told event = option_map effect_told event

-- the effect with the values of derived variables: a sample has those of all variables of its point
abbrev pub with_derived_values : List Point → Effect → Effect
with_derived_values ps Nothing = Nothing
with_derived_values ps Declares = Declares
with_derived_values ps (Samples p line values) = Samples p line (values_by_form (all_vars_of ps p) values)

abbrev pub derived_effect : List Point → Option Effect → Option Effect
derived_effect ps effect = option_map (with_derived_values ps) effect

-- A sample is of a point of the table, and has values of all its variables, each of which some text writes.
abbrev pub EventFits : List Point → Option Event → Type 0
EventFits ps None = ⊤
EventFits ps (Some event.Nothing) = ⊤
EventFits ps (Some event.Declared) = ⊤
EventFits ps (Some (event.Sample point line values)) =
    (point.0 < length ps) × FitKinds (var_kinds (all_vars_of ps point.0)) (values_of values.now)

-- No block takes points from the table: those that it adds stand behind the others. A sample, and the end of a file, leave it as it is.
abbrev pub PointsGoOn : List Point → Option Event → List Point → Type 0
PointsGoOn ps (Some event.Nothing) ps' = Extends ps ps'
PointsGoOn ps (Some event.Declared) ps' = Extends ps ps'
PointsGoOn ps event ps' = ps' ≡ ps
