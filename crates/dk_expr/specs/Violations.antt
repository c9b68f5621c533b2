-- What a tuple says against an assertion.
use Rattle.std.specs.Prelude.{◌≡◌, ◌≢◌, List, [], ◌∷◌}
use Rattle.dk_base.specs.declared.values.Value.{Value}
use Rattle.dk_forms.specs.declared.states.State.{State}
use Rattle.dk_forms.specs.declared.states.State.TheVariants as state
use Rattle.dk_meanings.specs.Meanings.{state_of}
use Rattle.dk_template.specs.Joins.{joined}
use Rattle.dk_template.specs.Templates.{form_of}
use Rattle.dk_template.specs.declared.grammar.RowId.{RowId}

-- a row's state joined with a tuple
abbrev pub with_tuple : RowId → State → List Value → State
with_tuple row s tuple = joined (form_of row) s (state_of row (tuple ∷ []))

-- A state is violated where what is joined to it changes it. Where nothing is known yet, it is violated where nothing is left to say.
abbrev pub IsViolated : State → State → Type 0
IsViolated state.Empty next = next ≡ state.Broken
IsViolated s next = next ≢ s

-- and upheld where it isn't violated
abbrev pub IsUpheld : State → State → Type 0
IsUpheld state.Empty next = next ≢ state.Broken
IsUpheld s next = next ≡ s

-- The state behind a test. It stays, but where nothing was known yet, what the joined state knows is known from then on.
abbrev pub kept_state : State → State → State
kept_state state.Empty state.Broken = state.Empty
kept_state state.Empty next = next
kept_state s next = s
