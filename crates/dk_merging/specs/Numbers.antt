-- Slots whose numbers are within their types.
use Rattle.std.specs.Prelude.{◌<◌, ◌^◌, All, IsTrue, List}
use Rattle.dk_base.specs.Numbers.{fits_i64}
use Rattle.dk_engine.specs.Reading.Levels.{Whole}
use Rattle.dk_forms.specs.declared.states.State.{State}
use Rattle.dk_forms.specs.declared.states.State.TheVariants as state
use Rattle.dk_state.specs.Fitting.{FitsSlot}

-- the numbers that the form of a state doesn't bound are within their types
abbrev pub AreNumbersWithin : State → Type 0
AreNumbersWithin (state.Least k) = IsTrue (fits_i64 k)
AreNumbersWithin (state.Greatest k) = IsTrue (fits_i64 k)
AreNumbersWithin (state.Ints ks) = All (λ k. IsTrue (fits_i64 k)) ks
AreNumbersWithin (state.Code h) = h < 2 ^ 64
AreNumbersWithin (state.One k) = IsTrue (fits_i64 k)
AreNumbersWithin (state.Modulus m r) = (m < 2 ^ 64) × (r < 2 ^ 64)
AreNumbersWithin _ = Unit {0}

-- all slots of the engines are
abbrev pub AreWithin : List Whole → Type 0
AreWithin engines = All (λ engine. All FitsSlot engine.kept.slots) engines
