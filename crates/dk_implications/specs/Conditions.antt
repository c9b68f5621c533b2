-- The Bools by which a point's samples are split.
use Rattle.std.specs.Prelude.{◌&&◌, ◌==◌, Bool, false, List, filter, find}
use Rattle.std.specs.Option.{option_map_or}
use Rattle.dk_base.specs.Shapes.{is_base_form}
use Rattle.dk_base.specs.declared.kinds.Kind.TheVariants as kind
use Rattle.dk_base.specs.declared.kinds.VarId.{VarId}
use Rattle.dk_base.specs.declared.kinds.VarInfo.{VarInfo}
use Rattle.dk_base.specs.declared.values.Value.{Value}
use Rattle.dk_filters.specs.Facts.{info_at}
use Rattle.dk_filters.specs.OfSamples.{agrees}
use Rattle.dk_instances.specs.Instances.{all_vars}
use Rattle.dk_template.specs.Admitted.{same_kind}

-- a base variable that is a Bool
abbrev pub is_base_bool : List VarInfo → VarId → Bool
is_base_bool infos v = same_kind (info_at infos v).kind kind.Bool && is_base_form (info_at infos v).form

-- the base Bools, in order
abbrev pub base_bools : List VarInfo → List VarId
base_bools infos = filter (is_base_bool infos) (all_vars infos)

-- it is the first of the base Bools that agree with it
abbrev pub is_condition : List VarInfo → List (List Value) → VarId → Bool
is_condition infos samples b = option_map_or (λ a. a.0 == b.0) (find (λ a. agrees infos samples a b) (base_bools infos)) false

-- the base Bools that stand for those that agree with them
abbrev pub conditions : List VarInfo → List (List Value) → List VarId
conditions infos samples = filter (is_condition infos samples) (base_bools infos)
