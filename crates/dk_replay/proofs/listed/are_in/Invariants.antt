use Rattle.std.specs.Prelude.{◌≡◌, drop}
use Rattle.std.specs.List.{list_all}
use Rattle.dk_base.specs.Values.{values_of}
use Rattle.dk_samples.specs.Samples.{is_present, value_in}
use Rattle.dk_replay.proofs.listed.are_in.Given as goal

abbrev pub invariant-loop-v : goal.invariant-loop-v
invariant-loop-v l =
    list_all (λ v. is_present (value_in (values_of l.sample) v)) (drop l.v-index l.vars) ≡ list_all (λ v. is_present (value_in (values_of l.sample) v)) l.vars
