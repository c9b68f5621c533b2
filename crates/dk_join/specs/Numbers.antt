-- The numbers of constant leaders, by which a row with a relation is Broken.
use Rattle.std.specs.Prelude.{◌||◌, ℤ, Bool, false, not, Option, None, Some}
use Rattle.dk_base.specs.declared.kinds.VarId.{VarId}
use Rattle.dk_base.specs.declared.values.Value.{Value}
use Rattle.dk_base.specs.declared.values.Value.TheVariants as value
use Rattle.dk_constants.specs.Known.{known_at}
use Rattle.dk_engine.specs.Reading.Parts.{leader_of}
use Rattle.dk_engine.specs.declared.kept.Kept.{Kept}
use Rattle.dk_ternary.specs.Rows.{is_result}
use Rattle.dk_ternary.specs.declared.operation.Operation.{Operation}
use Rattle.dk_join.specs.Joining.{Pair}
use Rattle.dk_join.specs.declared.numbers.Numbers.{Numbers}

-- the number that a value is
abbrev pub int_in : Option Value → Option ℤ
int_in (Some (value.Int z)) = Some z
int_in _ = None

-- the number that a variable's leader has in all samples, if it is constant
abbrev pub number_of : Kept → VarId → Option ℤ
number_of kept v = int_in (known_at kept.known (leader_of kept.leaders v))

-- its numbers in two lists of samples
abbrev pub numbers_of : Pair → VarId → Numbers
numbers_of pair v = record { first = number_of pair.first.kept v; second = number_of pair.second.kept v }

-- of three numbers, all of which are told, the first isn't the result on the two others
abbrev pub break_operation : Operation → Option ℤ → Option ℤ → Option ℤ → Bool
break_operation operation (Some a) (Some b) (Some c) = not (is_result operation a b c)
break_operation operation (Some a) (Some b) None = false
break_operation operation (Some a) None o = false
break_operation operation None o p = false

-- it isn't in one of the two lists; where no operation is told, nothing is
abbrev pub are_broken : Option Operation → Numbers → Numbers → Numbers → Bool
are_broken None v w x = false
are_broken (Some operation) v w x =
    break_operation operation v.first w.first x.first || break_operation operation v.second w.second x.second
