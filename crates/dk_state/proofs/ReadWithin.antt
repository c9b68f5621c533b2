-- What a text writes is within its type.
use Rattle.std.specs.Prelude.{◌≡◌, ℕ, List, Option, Some, None, unwrap_or}
use Rattle.std.proofs.Common.{sym}
use Rattle.dk_base.specs.Values.Spelling.{IsWritten}
use Rattle.dk_base.specs.Values.{IsOfKind, value_of_text}
use Rattle.dk_base.specs.declared.kinds.Kind.{Kind}
use Rattle.dk_base.specs.declared.values.Value.{Value}
use Rattle.dk_base.specs.declared.values.Value.TheVariants.{Missing}
use Rattle.dk_base.proofs.Written.{read_is_written}

-- a value that was read, or none
pub value_within : (kind : Kind) (text : List ℕ) (found : Option Value) → found ≡ value_of_text kind text → IsOfKind kind (unwrap_or found Missing) × IsWritten (unwrap_or found Missing)
value_within kind text None is = (tt, tt)
value_within kind text (Some v) is = read_is_written kind text v (sym is)
