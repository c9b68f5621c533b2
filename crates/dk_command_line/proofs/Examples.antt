-- What words ask for, computed from the definitions.
use Rattle.std.proofs.Common.{◌≡◌, ◌∷◌, [], true, false, Some, None, codes, refl}
use Rattle.clap.proofs.OnLiterals.{clap_on_literals}
use Rattle.clap.specs.declared.error.kind.ErrorKind.TheVariants as kind
use Rattle.dk_arguments.specs.Commands.{faults_of, rows_of}
use Rattle.dk_arguments.specs.Requests.{request_of as asked_of}
use Rattle.dk_arguments.specs.declared.request.Request.TheVariants.{Run, Help, Version}
use Rattle.dk_base.specs.Numbers.{natural_of}
use Rattle.dk_command_line.specs.Requests.{daikon, request_of}

-- options may stand between files, and a number may have zeros in front
run : request_of (codes "t" ∷ codes "--min-samples" ∷ codes "001" ∷ codes "--stats" ∷ codes "--every=20" ∷ codes "u" ∷ codes "t" ∷ []) ≡ Some (Run (record {
  least = 1;
  every = Some 20;
  select = None;
  keep_implied = false;
  keep_incomparable = false;
  keep_members = false;
  keep_constant = false;
  keep_parent = false;
  ignore_missing_entry = false;
  stats = true;
  save = false;
  resume = None;
  generate = None;
  files = codes "t" ∷ codes "u" ∷ codes "t" ∷ [];
}))
unfolding request_of asked_of faults_of rows_of clap_on_literals natural_of
run = refl

-- no words
default : request_of [] ≡ Some (Run (record {
  least = 5;
  every = None;
  select = None;
  keep_implied = false;
  keep_incomparable = false;
  keep_members = false;
  keep_constant = false;
  keep_parent = false;
  ignore_missing_entry = false;
  stats = false;
  save = false;
  resume = None;
  generate = None;
  files = [];
}))
unfolding request_of asked_of faults_of rows_of clap_on_literals natural_of
default = refl

-- behind `--` each word is a file
behind : request_of (codes "--select=P" ∷ codes "--keep-parent" ∷ codes "--" ∷ codes "--stats" ∷ []) ≡ Some (Run (record {
  least = 5;
  every = None;
  select = Some (codes "P");
  keep_implied = false;
  keep_incomparable = false;
  keep_members = false;
  keep_constant = false;
  keep_parent = true;
  ignore_missing_entry = false;
  stats = false;
  save = false;
  resume = None;
  generate = None;
  files = codes "--stats" ∷ [];
}))
unfolding request_of asked_of faults_of rows_of clap_on_literals natural_of
behind = refl

-- a state to begin with, and one to be written
resumed : request_of (codes "--resume" ∷ codes "s" ∷ codes "--save" ∷ codes "t" ∷ []) ≡ Some (Run (record {
  least = 5;
  every = None;
  select = None;
  keep_implied = false;
  keep_incomparable = false;
  keep_members = false;
  keep_constant = false;
  keep_parent = false;
  ignore_missing_entry = false;
  stats = false;
  save = true;
  resume = Some (codes "s");
  generate = None;
  files = codes "t" ∷ [];
}))
unfolding request_of asked_of faults_of rows_of clap_on_literals natural_of
resumed = refl

help : request_of (codes "--help" ∷ []) ≡ Some Help
unfolding request_of asked_of faults_of rows_of clap_on_literals
help = refl

help_letter : request_of (codes "t" ∷ codes "-h" ∷ []) ≡ Some Help
unfolding request_of asked_of faults_of rows_of clap_on_literals
help_letter = refl

version : request_of (codes "--version" ∷ []) ≡ Some Version
unfolding request_of asked_of faults_of rows_of clap_on_literals
version = refl

version_letter : request_of (codes "-V" ∷ []) ≡ Some Version
unfolding request_of asked_of faults_of rows_of clap_on_literals
version_letter = refl

-- an earlier fault is the only one
unknown_first : request_of (codes "--colour" ∷ codes "--help" ∷ []) ≡ None
unfolding request_of asked_of faults_of rows_of clap_on_literals
unknown_first = refl

unknown : faults_of daikon (codes "--colour" ∷ codes "t" ∷ []) ≡ kind.UnknownArgument ∷ []
unfolding faults_of clap_on_literals
unknown = refl

too_small : faults_of daikon (codes "--min-samples" ∷ codes "0" ∷ codes "t" ∷ []) ≡ kind.ValueValidation ∷ []
unfolding faults_of clap_on_literals
too_small = refl

too_large : faults_of daikon (codes "--every=1000000001" ∷ codes "t" ∷ []) ≡ kind.ValueValidation ∷ []
unfolding faults_of clap_on_literals
too_large = refl

twice : faults_of daikon (codes "--stats" ∷ codes "--stats" ∷ []) ≡ kind.ArgumentConflict ∷ []
unfolding faults_of clap_on_literals
twice = refl

resumed_twice : faults_of daikon (codes "--resume" ∷ codes "s" ∷ codes "--resume=s" ∷ []) ≡ kind.ArgumentConflict ∷ []
unfolding faults_of clap_on_literals
resumed_twice = refl

with_value : request_of (codes "--stats=1" ∷ []) ≡ None
unfolding request_of asked_of faults_of rows_of clap_on_literals
with_value = refl

front_of_a_word : request_of (codes "--min" ∷ codes "1" ∷ codes "t" ∷ []) ≡ None
unfolding request_of asked_of faults_of rows_of clap_on_literals
front_of_a_word = refl

no_prefix : request_of (codes "--select" ∷ codes "--" ∷ codes "t" ∷ []) ≡ None
unfolding request_of asked_of faults_of rows_of clap_on_literals
no_prefix = refl

past_64_bits : request_of (codes "--generate" ∷ codes "18446744073709551616" ∷ []) ≡ None
unfolding request_of asked_of faults_of rows_of clap_on_literals
past_64_bits = refl
