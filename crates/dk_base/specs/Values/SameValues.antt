-- Whether two values are one.
use Rattle.std.specs.Prelude.{Bool, true, false, ◌==◌, bytes_eq}
use Rattle.std.specs.Bool.{beq}
use Rattle.std.specs.Cmp.Lexicographic.{pointwise}
use Rattle.std.specs.Ordering.{int_eq}
use Rattle.dk_base.specs.declared.values.Value.{Value}
use Rattle.dk_base.specs.declared.values.Value.TheVariants as value

-- the two are one value; the missing one is the same as itself alone
abbrev pub same_value : Value → Value → Bool
same_value value.Missing value.Missing = true
same_value (value.Bool a) (value.Bool b) = beq a b
same_value (value.Int a) (value.Int b) = int_eq a b
same_value (value.Hash a) (value.Hash b) = a == b
same_value (value.Str a) (value.Str b) = bytes_eq a b
same_value (value.BoolSeq a) (value.BoolSeq b) = pointwise beq a b
same_value (value.IntSeq a) (value.IntSeq b) = pointwise int_eq a b
same_value (value.HashSeq a) (value.HashSeq b) = bytes_eq a b
same_value (value.StrSeq a) (value.StrSeq b) = pointwise bytes_eq a b
same_value _ _ = false
