-- The compact form of samples: what an engine keeps of them.
use Rattle.std.specs.Prelude.{List, [], ◌∷◌, filter_map, length, map, Option, Some, None, if◌then◌else◌}
use Rattle.std.specs.List.{list_all, position_or_len}
use Rattle.std.specs.Option.{option_map}
use Rattle.dk_base.specs.Values.SameValues.{same_value}
use Rattle.dk_base.specs.declared.kinds.VarId.{VarId}
use Rattle.dk_base.specs.declared.kinds.VarInfo.{VarInfo}
use Rattle.dk_base.specs.declared.values.Value.{Value}
use Rattle.dk_classes.specs.Leaders.{own_leaders, var}
use Rattle.dk_constants.specs.Known.{Entries}
use Rattle.dk_engine.specs.Feeding.{slots_of}
use Rattle.dk_engine.specs.declared.kept.Kept.{Kept}
use Rattle.dk_engine.specs.declared.slots.slot.Slot.{Slot}
use Rattle.dk_filters.specs.OfSamples.{agrees}
use Rattle.dk_instances.specs.Instances.{all_vars}
use Rattle.dk_presence.specs.Patterns.{capped, present_in}
use Rattle.dk_presence.specs.Steps.{with_sample_of}
use Rattle.dk_presence.specs.declared.held.Held.{Held}
use Rattle.dk_samples.specs.Samples.{value_in}
use Rattle.dk_suppress.specs.Soundness.{fit_of}
use Rattle.dk_template.specs.declared.grammar.Grammar.{Grammar}

-- the first variable that agrees with this one
abbrev pub leader_in : List VarInfo → List (List Value) → VarId → VarId
leader_in infos samples v = var (position_or_len (λ w. agrees infos samples w v) (all_vars infos))

-- the leader of each variable
abbrev pub leaders_in : List VarInfo → List (List Value) → List VarId
leaders_in infos samples = map (leader_in infos samples) (all_vars infos)

-- the one value that a variable has in all samples, if it has one there; the missing one is a value
abbrev pub one_value : List (List Value) → VarId → Option Value
one_value [] v = None
one_value (s ∷ samples) v = if list_all (λ t. same_value (value_in t v) (value_in s v)) samples then Some (value_in s v) else None

-- the leaders with one value, each with its value
abbrev pub constants_in : List (List Value) → List VarId → Entries
constants_in samples leaders = filter_map (λ v. option_map (λ x. (v, x)) (one_value samples v)) leaders

-- the patterns of present leaders, each with the number of samples that have it
abbrev pub held_in : List VarId → List (List Value) → List Held
held_in leaders [] = []
held_in leaders (s ∷ samples) = with_sample_of (present_in leaders s) (held_in leaders samples)

-- the slots with their fits; of no samples there are none
abbrev pub slots_in : Grammar → List VarInfo → List (List Value) → List VarId → Entries → List Slot
slots_in grammar infos [] leaders known = []
slots_in grammar infos (s ∷ samples) leaders known = slots_of grammar infos leaders known (fit_of (s ∷ samples))

-- the parts that these leaders give
abbrev pub kept_with : Grammar → List VarInfo → List (List Value) → List VarId → Kept
kept_with grammar infos samples leaders = record {
  samples = capped (length samples);
  leaders = leaders;
  known = constants_in samples (own_leaders leaders);
  held = held_in (own_leaders leaders) samples;
  slots = slots_in grammar infos samples (own_leaders leaders) (constants_in samples (own_leaders leaders));
}

-- The compact form: the number of samples, the leader of each variable, the constant leaders with their values, the patterns of present
-- leaders with their counts, and the slots.
unfoldable pub compact_form_of : Grammar → List VarInfo → List (List Value) → Kept
compact_form_of grammar infos samples = kept_with grammar infos samples (leaders_in infos samples)
