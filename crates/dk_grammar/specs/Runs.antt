-- What a sample changes in a run of slots of one row.
use Rattle.std.specs.Prelude.{◌≡◌, ◌<◌, ◌≤◌, ℕ, true, All, IsSomeAnd, List, [], ◌∷◌, Option, Some, None, if◌then◌else◌, length, slice_get, take}
use Rattle.dk_base.specs.declared.kinds.Kind.{Kind}
use Rattle.dk_base.specs.declared.kinds.VarId.{VarId}
use Rattle.dk_base.specs.declared.values.Value.{Value}
use Rattle.dk_forms.specs.declared.states.State.{State}
use Rattle.dk_instances.specs.Fits.{is_whole, tuple_in}
use Rattle.dk_meanings.specs.Meanings.{state_of}
use Rattle.dk_template.specs.Joins.{joined}
use Rattle.dk_template.specs.Proper.{IsProper}
use Rattle.dk_template.specs.Rows.{IsTuple}
use Rattle.dk_template.specs.Templates.{form_of, role_kinds}
use Rattle.dk_template.specs.declared.grammar.RowId.{RowId}
use Rattle.dk_template.specs.declared.templates.StateForm.{StateForm}

-- A state with one sample more joins a whole tuple's point and else changes nothing: a tuple in which a value is missing leaves it as
-- it is.
abbrev pub with_tuple : StateForm → (List (List Value) → State) → List Value → State → State
with_tuple form state_of tuple s = if is_whole tuple then joined form s (state_of (tuple ∷ [])) else s

-- a sample leaves a state over variables as it is
abbrev pub Stays : StateForm → (List (List Value) → State) → List Value → List VarId → State → Type 0
Stays form state_of sample vars s = with_tuple form state_of (tuple_in vars sample) s ≡ s

-- a row's state over variables with one sample more
abbrev pub with_sample : RowId → List VarId → List Value → State → State
with_sample row vars sample s = with_tuple (form_of row) (state_of row) (tuple_in vars sample) s

-- A proper state of the form over one to three variables of the sample; if none of them is missing in it, their values are a tuple of
-- these kinds.
pub record IsSlot (kinds : List Kind) (form : StateForm) (sample : List Value) (vars : List VarId) (state : State) : Type 0 where
  pub proper : IsProper form state
  pub some : 1 ≤ length vars
  pub few : length vars ≤ 3
  pub there : All (λ v. v.0 < length sample) vars
  pub tuple : is_whole (tuple_in vars sample) ≡ true → IsTuple kinds (tuple_in vars sample)

-- what is found is the place of the first item of which the fact doesn't hold; nothing is, where it holds of all
abbrev pub IsFirstWithout : {A : Type 0} → (A → Type 0) → List A → Option ℕ → Type 0
IsFirstWithout P items None = All P items
IsFirstWithout P items (Some n) = All P (take n items) × IsSomeAnd (slice_get items n) (λ x. ¬ P x)

module _ {S : Type 0} (vars : S → List VarId) (state : S → State) (row : RowId) (sample : List Value) where
  -- each is a slot of the row
  abbrev pub AreSlots : List S → Type 0
  AreSlots run = All (λ slot. IsSlot (role_kinds row) (form_of row) sample (vars slot) (state slot)) run

  -- what is found is the place of the first slot of which the row's state with the sample is another; nothing is, where the sample
  -- leaves all as they are
  abbrev pub IsFirstChanged : List S → Option ℕ → Type 0
  IsFirstChanged run found = IsFirstWithout (λ slot. with_sample row (vars slot) sample (state slot) ≡ state slot) run found
