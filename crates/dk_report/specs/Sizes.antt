-- How much of the samples of a point is kept.
use Rattle.std.specs.Prelude.{◌&&◌, ℕ, Bool, false, not, List, [], ◌∷◌, filter, flat_map, length, map, slice_index_or, take, if◌then◌else◌}
use Rattle.std.specs.List.{list_all, list_any}
use Rattle.dk_base.specs.Pieces.{is_empty}
use Rattle.dk_base.specs.declared.kinds.VarId.{VarId}
use Rattle.dk_base.specs.declared.kinds.VarInfo.{VarInfo}
use Rattle.dk_base.specs.declared.values.Value.{Value}
use Rattle.dk_classes.specs.Leaders.{own_leaders}
use Rattle.dk_engine.specs.Feeding.{is_broken}
use Rattle.dk_engine.specs.declared.counts.Counts.{Counts}
use Rattle.dk_engine.specs.declared.kept.Kept.{Kept}
use Rattle.dk_filters.specs.OfSamples.{agrees}
use Rattle.dk_instances.specs.Fits.{fit}
use Rattle.dk_instances.specs.Instances.{all_vars, rows_of, tuples_over}
use Rattle.dk_hierarchy.specs.Samples.{OwnSamples, all_vars_of, own_samples_of}
use Rattle.dk_points.specs.Table.{Point}
use Rattle.dk_base.specs.Values.SameValues.{same_value}
use Rattle.dk_print.specs.Sections.{stats_line}
use Rattle.dk_presence.specs.Patterns.{capped, patterns_of, same_vars}
use Rattle.dk_samples.specs.Samples.{value_in}
use Rattle.dk_suppress.specs.Rules.{is_suppressed}
use Rattle.dk_template.specs.Admitted.{admits, is_written}
use Rattle.dk_template.specs.Templates.{arity_of}
use Rattle.dk_template.specs.declared.grammar.Grammar.{Grammar}
use Rattle.dk_template.specs.declared.grammar.RowId.{RowId}
use Rattle.dk_report.specs.Reports.{name_in_table}

-- a leader is a variable with which no earlier one agrees
abbrev pub leads : List VarInfo → List (List Value) → VarId → Bool
leads infos samples v = not (list_any (λ w. agrees infos samples w v) (take v.0 (all_vars infos)))

abbrev pub own_leaders_in : List VarInfo → List (List Value) → List VarId
own_leaders_in infos samples = filter (leads infos samples) (all_vars infos)

-- a variable is constant in samples if it has one value in all of them, the missing one counted
abbrev pub is_constant_in : List (List Value) → VarId → Bool
is_constant_in [] v = false
is_constant_in (s ∷ samples) v = list_all (λ t. same_value (value_in t v) (value_in s v)) samples

-- each pattern once
abbrev pub each_once : List (List VarId) → List (List VarId)
each_once [] = []
each_once (pattern ∷ patterns) = pattern ∷ filter (λ p. not (same_vars pattern p)) (each_once patterns)

-- A slot is a row with leaders that it admits in its written order, repeats allowed, not all of them constant; its fit isn't broken, and
-- no rule suppresses it.
abbrev pub is_slot : List VarInfo → List (List Value) → RowId → List VarId → Bool
is_slot infos samples row vars =
    admits row infos vars
    && is_written row vars
    && not (list_all (is_constant_in samples) vars)
    && not (is_broken (fit row vars samples))
    && not (is_suppressed (λ row vars. fit row vars samples) row vars)

abbrev pub slots_over : List VarInfo → List (List Value) → List VarId → RowId → List (List VarId)
slots_over infos samples leaders row = filter (is_slot infos samples row) (tuples_over (arity_of row) leaders)

-- all slots; of no samples there is none
abbrev pub slot_tuples : Grammar → List VarInfo → List (List Value) → List (RowId × List VarId)
slot_tuples grammar infos [] = []
slot_tuples grammar infos (s ∷ samples) =
    flat_map (λ row. map (λ vars. (row, vars)) (slots_over infos (s ∷ samples) (own_leaders_in infos (s ∷ samples)) row)) (rows_of grammar)

abbrev pub sizes_of : Grammar → List VarInfo → List (List Value) → Counts
sizes_of grammar infos samples = record {
  samples = capped (length samples);
  leaders = length (own_leaders_in infos samples);
  constants = length (filter (is_constant_in samples) (own_leaders_in infos samples));
  patterns = length (each_once (patterns_of (own_leaders_in infos samples) samples));
  slots = length (slot_tuples grammar infos samples);
}

-- how much the kept parts are
abbrev pub counts_of : Kept → Counts
counts_of kept = record {
  samples = kept.samples;
  leaders = length (own_leaders kept.leaders);
  constants = length kept.known;
  patterns = length kept.held;
  slots = length kept.slots;
}

-- the sizes of what is kept of a point's own samples
unfoldable pub sizes_at : Grammar → List Point → OwnSamples → ℕ → Counts
sizes_at grammar ps own p = sizes_of grammar (all_vars_of ps p) (own_samples_of ps own p)

abbrev pub has_own_samples : OwnSamples → ℕ → Bool
has_own_samples own p = not (is_empty (slice_index_or own p []))

-- the line of these sizes; a point without own samples has none
unfoldable pub stats_of : Grammar → List Point → OwnSamples → ℕ → List ℕ
stats_of grammar ps own p = if is_empty (slice_index_or own p []) then [] else stats_line (name_in_table ps p) (sizes_at grammar ps own p)
