-- The slots that states give, tuple by tuple.
pub mod Choices
pub mod Ordering
pub mod Reached
pub mod Suited
use Rattle.std.specs.Prelude.{◌==◌, ◌++◌, ◌-◌, List, [], ◌∷◌, filter, flat_map, if◌then◌else◌, length, map, slice_index_or}
use Rattle.dk_base.specs.declared.kinds.VarId.{VarId}
use Rattle.dk_base.specs.declared.kinds.VarInfo.{VarInfo}
use Rattle.dk_constants.specs.Known.{Entries}
use Rattle.dk_classes.specs.Leaders.{var}
use Rattle.dk_instances.specs.Instances.{rows_of}
use Rattle.dk_forms.specs.declared.states.State.{State}
use Rattle.dk_template.specs.Templates.{arity_of}
use Rattle.dk_template.specs.declared.grammar.Grammar.{Grammar}
use Rattle.dk_template.specs.declared.grammar.RowId.{RowId}
use Rattle.dk_engine.specs.Feeding.{has_slot}
use Rattle.dk_engine.specs.Sweeps.Reached.{rows_reached}
use Rattle.dk_engine.specs.declared.slots.slot.Slot.{Slot}

module _ (infos : List VarInfo) (known : Entries) (answered : RowId → List VarId → State) (row : RowId) where
  -- the slot of the leaders, if they have one
  abbrev pub considered : List VarId → List Slot
  considered vars =
      map (λ vs. record { row = row; leaders = vs; state = answered row vs }) (filter (has_slot infos known answered row) (vars ∷ []))

  -- those of one leader of the list each; of a leader and one of the list; and of two and one of the list
  abbrev pub firsts : List VarId → List Slot
  firsts first = flat_map (λ v. considered (v ∷ [])) first

  abbrev pub seconds : VarId → List VarId → List Slot
  seconds v second = flat_map (λ w. considered (v ∷ w ∷ [])) second

  abbrev pub thirds : VarId → VarId → List VarId → List Slot
  thirds v w third = flat_map (λ x. considered (v ∷ w ∷ x ∷ [])) third

  -- those of two leaders, of a leader and two more, and of three, one of each list
  abbrev pub pairs : List VarId → List VarId → List Slot
  pairs first second = flat_map (λ v. seconds v second) first

  abbrev pub behind : VarId → List VarId → List VarId → List Slot
  behind v second third = flat_map (λ w. thirds v w third) second

  abbrev pub triples : List VarId → List VarId → List VarId → List Slot
  triples first second third = flat_map (λ v. behind v second third) first

  -- those with a leader of the first list: it stands at each role in turn, leaders of the second list before it and any behind it
  abbrev pub twos_with_one : List VarId → List VarId → List VarId → List Slot
  twos_with_one of before leaders = pairs of leaders ++ pairs before of

  abbrev pub threes_with_one : List VarId → List VarId → List VarId → List Slot
  threes_with_one of before leaders = triples of leaders leaders ++ triples before of leaders ++ triples before before of

  abbrev pub with_one : List VarId → List VarId → List VarId → List Slot
  with_one of before leaders =
      if arity_of row == 1 then firsts of
      else if arity_of row == 2 then twos_with_one of before leaders
      else threes_with_one of before leaders

  -- those with two leaders, in this order, at any two of the roles
  abbrev pub threes_with_two : VarId → VarId → List VarId → List Slot
  threes_with_two v w leaders = triples (v ∷ []) (w ∷ []) leaders ++ triples (v ∷ []) leaders (w ∷ []) ++ triples leaders (v ∷ []) (w ∷ [])

  abbrev pub with_two : VarId → VarId → List VarId → List Slot
  with_two v w leaders =
      if arity_of row == 1 then [] else if arity_of row == 2 then pairs (v ∷ []) (w ∷ []) else threes_with_two v w leaders

  -- those with two leaders, which may be one
  abbrev pub with_ends : VarId → VarId → List VarId → List Slot
  with_ends v w leaders = if v.0 == w.0 then with_one (v ∷ []) leaders leaders else with_two v w leaders ++ with_two w v leaders

  -- those with the first and the last of some leaders
  abbrev pub with_both : List VarId → List VarId → List Slot
  with_both lost leaders = with_ends (slice_index_or lost 0 (var 0)) (slice_index_or lost (length lost - 1) (var 0)) leaders

-- those of all rows with a leader that touches them, by the first one that does
unfoldable pub touched_slots : Grammar → List VarInfo → Entries
    → (RowId → List VarId → State) → List VarId → List VarId → List VarId → List Slot
touched_slots grammar infos known answered touching others leaders =
    flat_map (λ row. with_one infos known answered row touching others leaders) (rows_of grammar)

-- those of the rows that a row reaches, with the leaders of a slot
unfoldable pub freed_slots : List VarInfo → Entries → (RowId → List VarId → State) → List VarId → RowId → List VarId → List Slot
freed_slots infos known answered leaders row lost = flat_map (λ freed. with_both infos known answered freed lost leaders) (rows_reached row)
