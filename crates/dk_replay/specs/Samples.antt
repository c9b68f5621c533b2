-- Samples that were fed, and where variables agree in them.
use Rattle.std.specs.Prelude.{◌&&◌, Bool, List, map}
use Rattle.std.specs.List.{list_all}
use Rattle.dk_base.specs.Values.{values_of}
use Rattle.dk_base.specs.Values.SameValues.{same_value}
use Rattle.dk_base.specs.declared.kinds.VarId.{VarId}
use Rattle.dk_base.specs.declared.kinds.VarInfo.{VarInfo}
use Rattle.dk_base.specs.declared.values.Value.{Value}
use Rattle.dk_base.specs.declared.values.View.{View}
use Rattle.dk_classes.specs.Classes.{kind_at, var_kinds}
use Rattle.dk_samples.specs.Samples.{value_in}
use Rattle.dk_template.specs.Admitted.{same_kind}
use Rattle.dk_template.specs.declared.grammar.Grammar.{Grammar}

-- the samples that views show
abbrev pub samples_of : List (List View) → List (List Value)
samples_of samples = map values_of samples

-- a grammar, variables, and all samples of them
pub record Fed : Type 0 where
  pub grammar : Grammar
  pub infos : List VarInfo
  pub samples : List (List Value)

-- two variables are of one kind
abbrev pub are_of_one_kind : List VarInfo → VarId → VarId → Bool
are_of_one_kind infos v w = same_kind (kind_at (var_kinds infos) v.0) (kind_at (var_kinds infos) w.0)

-- two variables are of one kind, and have the same value in each sample; the missing value is the same as itself alone
abbrev pub agree : Fed → VarId → VarId → Bool
agree fed v w = are_of_one_kind fed.infos v w && list_all (λ s. same_value (value_in s v) (value_in s w)) fed.samples
