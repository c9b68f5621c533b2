-- Variables that suit one of three roles.
use Rattle.std.specs.Prelude.{◌||◌, Bool, List, filter, slice_get}
use Rattle.dk_base.specs.declared.kinds.VarId.{VarId}
use Rattle.dk_base.specs.declared.kinds.VarInfo.{VarInfo}
use Rattle.dk_template.specs.Admitted.{suits}
use Rattle.dk_template.specs.declared.templates.Role.{Role}

abbrev pub suits_some : Role → Role → Role → List VarInfo → VarId → Bool
suits_some a b c infos v = suits a (slice_get infos v.0) || (suits b (slice_get infos v.0) || suits c (slice_get infos v.0))

-- those of the variables that do
abbrev pub suited_to_some : Role → Role → Role → List VarInfo → List VarId → List VarId
suited_to_some a b c infos of = filter (suits_some a b c infos) of
