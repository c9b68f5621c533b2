-- Variables by the roles that they suit.
use Rattle.std.specs.Prelude.{List, [], ◌∷◌, filter, slice_get}
use Rattle.dk_base.specs.declared.kinds.Kind.TheVariants as kind
use Rattle.dk_base.specs.declared.kinds.VarId.{VarId}
use Rattle.dk_base.specs.declared.kinds.VarInfo.{VarInfo}
use Rattle.dk_template.specs.Admitted.{suits}
use Rattle.dk_template.specs.declared.templates.Role.{Role}
use Rattle.dk_template.specs.declared.templates.Role.TheVariants.{Any, Base}

-- those of the variables that suit a role
abbrev pub suited_vars : Role → List VarInfo → List VarId → List VarId
suited_vars role infos of = filter (λ v. suits role (slice_get infos v.0)) of

-- each role once
abbrev pub all_roles : List Role
all_roles =
    Any kind.Bool ∷ Any kind.Int ∷ Any kind.Hash ∷ Any kind.Str ∷ Any kind.BoolSeq ∷ Any kind.IntSeq ∷ Any kind.HashSeq ∷ Any kind.StrSeq
    ∷ Base kind.Bool ∷ Base kind.Int ∷ Base kind.Hash ∷ Base kind.Str ∷ Base kind.BoolSeq ∷ Base kind.IntSeq ∷ Base kind.HashSeq ∷ Base kind.StrSeq
    ∷ []
