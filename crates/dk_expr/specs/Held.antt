-- Numbers that a state can hold.
use Rattle.std.specs.Prelude.{◌^◌, Bool, true, nat_lt}
use Rattle.std.specs.List.{list_all}
use Rattle.dk_base.specs.Numbers.{fits_i64}
use Rattle.dk_forms.specs.declared.states.State.{State}
use Rattle.dk_forms.specs.declared.states.State.TheVariants as state

-- The numbers of a state are whole numbers of 64 bits, with a sign where they are values. Those of lines, planes and offsets are
-- bounded by what is proper.
abbrev pub is_held : State → Bool
is_held (state.Least k) = fits_i64 k
is_held (state.Greatest k) = fits_i64 k
is_held (state.Ints ks) = list_all fits_i64 ks
is_held (state.Code h) = nat_lt h (2 ^ 64)
is_held (state.Modulus m r) = nat_lt m (2 ^ 64)
is_held _ = true
