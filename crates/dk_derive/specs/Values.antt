-- The values of derived variables.
use Rattle.std.specs.Prelude.{ℕ, pos, negsuc, zero, ◌+◌, ◌-◌, nat_le, List, length, take, drop, map, Option, Some, None, option_and_then, slice_get, if◌then◌else◌}
use Rattle.std.specs.List.{enumerate_from}
use Rattle.std.specs.Option.{option_map_or}
use Rattle.dk_base.specs.Shapes.{is_base_form}
use Rattle.dk_base.specs.Values.Tuples.{value_at}
use Rattle.dk_base.specs.declared.kinds.Form.{Form}
use Rattle.dk_base.specs.declared.kinds.Form.TheVariants as form
use Rattle.dk_base.specs.declared.kinds.VarId.{VarId}
use Rattle.dk_base.specs.declared.kinds.VarInfo.{VarInfo}
use Rattle.dk_base.specs.declared.values.Value.{Value}
use Rattle.dk_base.specs.declared.values.Value.TheVariants as value

-- the number of a sequence's elements
abbrev pub number_of_elements : Value → ℕ
number_of_elements (value.BoolSeq bs) = length bs
number_of_elements (value.IntSeq zs) = length zs
number_of_elements (value.HashSeq ns) = length ns
number_of_elements (value.StrSeq ss) = length ss
number_of_elements v = 0

-- this number as a value; of what is no sequence it is missing
abbrev pub size : Value → Value
size (value.BoolSeq bs) = value.Int (pos (length bs))
size (value.IntSeq zs) = value.Int (pos (length zs))
size (value.HashSeq ns) = value.Int (pos (length ns))
size (value.StrSeq ss) = value.Int (pos (length ss))
size v = value.Missing

-- the element at a place; missing where there is none
abbrev pub element : Value → Option ℕ → Value
element (value.BoolSeq bs) k = option_map_or (λ b. value.Bool b) (option_and_then (slice_get bs) k) value.Missing
element (value.IntSeq zs) k = option_map_or (λ z. value.Int z) (option_and_then (slice_get zs) k) value.Missing
element (value.HashSeq ns) k = option_map_or (λ n. value.Hash n) (option_and_then (slice_get ns) k) value.Missing
element (value.StrSeq ss) k = option_map_or (λ s. value.Str s) (option_and_then (slice_get ss) k) value.Missing
element v k = value.Missing

-- the elements in front of a place, and those from it on; none where the place is behind the end
abbrev pub front_of : {A : Type 0} → List A → ℕ → Option (List A)
front_of xs k = if nat_le k (length xs) then Some (take k xs) else None

abbrev pub back_of : {A : Type 0} → List A → ℕ → Option (List A)
back_of xs k = if nat_le k (length xs) then Some (drop k xs) else None

abbrev pub front : Value → Option ℕ → Value
front (value.BoolSeq bs) k = option_map_or (λ xs. value.BoolSeq xs) (option_and_then (front_of bs) k) value.Missing
front (value.IntSeq zs) k = option_map_or (λ xs. value.IntSeq xs) (option_and_then (front_of zs) k) value.Missing
front (value.HashSeq ns) k = option_map_or (λ xs. value.HashSeq xs) (option_and_then (front_of ns) k) value.Missing
front (value.StrSeq ss) k = option_map_or (λ xs. value.StrSeq xs) (option_and_then (front_of ss) k) value.Missing
front v k = value.Missing

abbrev pub back : Value → Option ℕ → Value
back (value.BoolSeq bs) k = option_map_or (λ xs. value.BoolSeq xs) (option_and_then (back_of bs) k) value.Missing
back (value.IntSeq zs) k = option_map_or (λ xs. value.IntSeq xs) (option_and_then (back_of zs) k) value.Missing
back (value.HashSeq ns) k = option_map_or (λ xs. value.HashSeq xs) (option_and_then (back_of ns) k) value.Missing
back (value.StrSeq ss) k = option_map_or (λ xs. value.StrSeq xs) (option_and_then (back_of ss) k) value.Missing
back v k = value.Missing

-- the place that an index names; an index below 0 names none
abbrev pub place : Value → Option ℕ
place (value.Int (pos k)) = Some k
place v = None

-- the place behind the one that an index names; behind -1 stands the first one
abbrev pub next_place : Value → Option ℕ
next_place (value.Int (pos k)) = Some (k + 1)
next_place (value.Int (negsuc zero)) = Some 0
next_place v = None

-- the value of a base variable
abbrev pub at : List Value → VarId → Value
at base v = value_at base v.0

-- The value of a derived variable, from the values of the base ones: what its form takes of its sequence, and by its index.
abbrev pub derived_value : List Value → Form → Value
derived_value base form.Declared = value.Missing
derived_value base form.Orig = value.Missing
derived_value base (form.Size s) = size (at base s)
derived_value base (form.First s) = element (at base s) (Some 0)
derived_value base (form.Last s) = element (at base s) (Some (number_of_elements (at base s) - 1))
derived_value base (form.At s i) = element (at base s) (place (at base i))
derived_value base (form.Upto s i) = front (at base s) (next_place (at base i))
derived_value base (form.Before s i) = front (at base s) (place (at base i))
derived_value base (form.Since s i) = back (at base s) (place (at base i))
derived_value base (form.After s i) = back (at base s) (next_place (at base i))

-- the value of the variable at a place: a base variable has its own
abbrev pub value_by_form : List Value → ℕ → Form → Value
value_by_form base v f = if is_base_form f then value_at base v else derived_value base f

-- the values of all variables in order, from those of the base ones
abbrev pub values_by_form : List VarInfo → List Value → List Value
values_by_form vars base = map (λ v. value_by_form base v.0 v.1.form) (enumerate_from 0 vars)
