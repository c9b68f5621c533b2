-- Base variables with what is derived of them.
use Rattle.std.specs.Prelude.{ℕ, ◌++◌, pos, List, [], drop, length, map, slice_index_or}
use Rattle.dk_base.specs.Shapes.{Shape, is_orig, shape_of, with_derived}
use Rattle.dk_base.specs.declared.kinds.Form.{Form}
use Rattle.dk_base.specs.declared.kinds.Form.TheVariants as form
use Rattle.dk_base.specs.declared.kinds.Kind.TheVariants as kind
use Rattle.dk_base.specs.declared.kinds.VarInfo.{VarInfo}
use Rattle.dk_points.specs.Partners.{plain_name}
use Rattle.dk_derive.specs.Names.{compar_over, name_over}

-- The places of the base variables that a form is taken of: its sequence and its index. A form without an index has its sequence
-- twice; that of a base variable is taken of none.
abbrev pub bases_of : Form → ℕ × ℕ
bases_of form.Declared = (0, 0)
bases_of form.Orig = (0, 0)
bases_of (form.Size s) = (s.0, s.0)
bases_of (form.First s) = (s.0, s.0)
bases_of (form.Last s) = (s.0, s.0)
bases_of (form.At s i) = (s.0, i.0)
bases_of (form.Upto s i) = (s.0, i.0)
bases_of (form.Before s i) = (s.0, i.0)
bases_of (form.Since s i) = (s.0, i.0)
bases_of (form.After s i) = (s.0, i.0)

-- stands where there is no variable
abbrev pub no_var : VarInfo
no_var = record { name = []; kind = kind.Bool; form = form.Declared; compar = record { elem = pos 0; index = pos 0 } }

abbrev pub var_at : List VarInfo → ℕ → VarInfo
var_at base v = slice_index_or base v no_var

-- the variable of this kind and form over a sequence and an index
abbrev pub var_over : VarInfo → VarInfo → Shape → VarInfo
var_over s i d = record {
  name = name_over (is_orig s.form) (plain_name s) (plain_name i) d.form;
  kind = d.kind;
  form = d.form;
  compar = compar_over s.compar d.form;
}

abbrev pub derived_var : List VarInfo → Shape → VarInfo
derived_var base d = var_over (var_at base (bases_of d.form).0) (var_at base (bases_of d.form).1) d

-- the base variables, and behind them the derived ones, whose kinds and forms are those of `with_derived`
unfoldable pub with_derived_vars : List VarInfo → List VarInfo
with_derived_vars base = base ++ map (derived_var base) (drop (length base) (with_derived (map shape_of base)))
