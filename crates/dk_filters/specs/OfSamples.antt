-- What samples tell of a point.
use Rattle.std.specs.Prelude.{◌&&◌, Bool, List}
use Rattle.std.specs.List.{list_all}
use Rattle.dk_base.specs.declared.kinds.VarId.{VarId}
use Rattle.dk_base.specs.declared.kinds.VarInfo.{VarInfo}
use Rattle.dk_base.specs.declared.values.Value.{Value}
use Rattle.dk_instances.specs.Fits.{fit}
use Rattle.dk_base.specs.Values.SameValues.{same_value}
use Rattle.dk_presence.specs.Patterns.{count_of}
use Rattle.dk_samples.specs.Samples.{value_in}
use Rattle.dk_template.specs.Admitted.{same_kind}
use Rattle.dk_filters.specs.Answers.{Answers}
use Rattle.dk_filters.specs.Facts.{info_at}

-- two variables of one kind have the same value in each sample; the missing value is the same as itself alone
abbrev pub agrees : List VarInfo → List (List Value) → VarId → VarId → Bool
agrees infos samples v w =
    same_kind (info_at infos v).kind (info_at infos w).kind && list_all (λ s. same_value (value_in s v) (value_in s w)) samples

-- fits, counts and agreement on the samples
abbrev pub answers_of : List VarInfo → List (List Value) → Answers
answers_of infos samples = record {
  infos = infos;
  answered = λ row vars. fit row vars samples;
  counted = λ vars. count_of vars samples;
  agreeing = agrees infos samples;
}
