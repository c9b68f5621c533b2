-- Variables and samples of whole numbers.
use Rattle.std.specs.Prelude.{◌≡◌, IsTrue}
use Rattle.dk_base.specs.Numbers.{fits_i64}
use Rattle.dk_base.specs.declared.kinds.Form.TheVariants as form
use Rattle.dk_base.specs.declared.kinds.Kind.TheVariants as kind
use Rattle.dk_base.specs.declared.kinds.VarInfo.{VarInfo}
use Rattle.dk_base.specs.declared.values.Value.{Value}
use Rattle.dk_base.specs.declared.values.Value.TheVariants as value

-- a base variable of whole numbers
pub record IsNumber (info : VarInfo) : Type 0 where
  pub kind : info.kind ≡ kind.Int
  pub form : info.form ≡ form.Declared

-- a whole number, or the missing value
abbrev pub IsNumberValue : Value → Type 0
IsNumberValue value.Missing = Unit {0}
IsNumberValue (value.Int z) = IsTrue (fits_i64 z)
IsNumberValue _ = ⊥
