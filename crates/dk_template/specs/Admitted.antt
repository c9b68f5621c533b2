-- Which tuples of variables a row is asked about, and in which order they are written.
use Rattle.std.specs.Prelude.{◌&&◌, ◌||◌, ◌==◌, Bool, true, false, not, List, [], drop, length, nat_le, zip, slice_get, Option, Some, None}
use Rattle.std.specs.List.{list_all}
use Rattle.dk_base.specs.Shapes.{is_base_form}
use Rattle.dk_base.specs.declared.kinds.Kind.{Kind}
use Rattle.dk_base.specs.declared.kinds.Kind.TheVariants as kind
use Rattle.dk_base.specs.declared.kinds.VarId.{VarId}
use Rattle.dk_base.specs.declared.kinds.VarInfo.{VarInfo}
use Rattle.dk_template.specs.declared.grammar.RowId.{RowId}
use Rattle.dk_template.specs.declared.templates.Role.{Role}
use Rattle.dk_template.specs.declared.templates.Symmetry.{Symmetry}
use Rattle.dk_template.specs.declared.templates.Symmetry.TheVariants as exchange
use Rattle.dk_template.specs.Templates.{is_base, kind_of, roles_of, template_of}

abbrev pub same_kind : Kind → Kind → Bool
same_kind kind.Bool kind.Bool = true
same_kind kind.Int kind.Int = true
same_kind kind.Hash kind.Hash = true
same_kind kind.Str kind.Str = true
same_kind kind.BoolSeq kind.BoolSeq = true
same_kind kind.IntSeq kind.IntSeq = true
same_kind kind.HashSeq kind.HashSeq = true
same_kind kind.StrSeq kind.StrSeq = true
same_kind k l = false

-- the variable is there, is of the role's kind, and is a base one where the role takes base ones alone
abbrev pub suits : Role → Option VarInfo → Bool
suits role None = false
suits role (Some info) = same_kind info.kind (kind_of role) && (not (is_base role) || is_base_form info.form)

-- as many variables as roles, and each suits its role
abbrev pub suit : List Role → List VarInfo → List VarId → Bool
suit roles vars tuple = length tuple == length roles && list_all (λ (p : Role × VarId). suits p.0 (slice_get vars p.1.0)) (zip roles tuple)

abbrev pub admits : RowId → List VarInfo → List VarId → Bool
admits row vars tuple = suit (roles_of (template_of row).takes) vars tuple

-- no variable stands in front of an earlier one
abbrev pub ascend : List VarId → Bool
ascend vars = list_all (λ (p : VarId × VarId). nat_le p.0.0 p.1.0) (zip vars (drop 1 vars))

-- the variables at the roles that may be exchanged
abbrev pub exchangeable : Symmetry → List VarId → List VarId
exchangeable exchange.Fixed tuple = []
exchangeable exchange.All tuple = tuple
exchangeable exchange.Arguments tuple = drop 1 tuple

-- in the row's written order: at the roles that may be exchanged the variables don't descend
abbrev pub is_written : RowId → List VarId → Bool
is_written row tuple = ascend (exchangeable (template_of row).symmetry tuple)
