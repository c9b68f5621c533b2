-- How many sequences and whole numbers there are among variables, orig ones or others.
use Rattle.std.specs.Prelude.{ℕ, ◌&&◌, Bool, List, filter, length}
use Rattle.std.specs.Bool.{beq}
use Rattle.dk_base.specs.Shapes.{is_int, is_orig, is_sequence}
use Rattle.dk_base.specs.declared.kinds.VarInfo.{VarInfo}

abbrev pub number_of_sequences : Bool → List VarInfo → ℕ
number_of_sequences orig vs = length (filter (λ v. is_sequence v.kind && beq (is_orig v.form) orig) vs)

abbrev pub number_of_ints : Bool → List VarInfo → ℕ
number_of_ints orig vs = length (filter (λ v. is_int v.kind && beq (is_orig v.form) orig) vs)
