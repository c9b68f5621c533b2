-- What words ask for, computed from the definitions.
use Rattle.std.proofs.Common.{◌≡◌, ◌∷◌, [], List, ℕ, refl, codes, Some, None, Option}
use Rattle.clap.proofs.OnLiterals.{clap_on_literals}
use Rattle.clap.specs.declared.error.kind.ErrorKind.TheVariants as kind
use Rattle.dk_arguments.specs.Commands.{faults_of, rows_of}
use Rattle.dk_arguments.specs.Requests.{request_of as asked_of}
use Rattle.dk_arguments.specs.declared.request.Request.{Request}
use Rattle.dk_arguments.specs.declared.request.Request.TheVariants.{Run, Help, Version}
use Rattle.dk_base.specs.Numbers.{natural_of}
use Rattle.dk_merge_command_line.specs.Requests.{dk_merge, request_of}
use Rattle.dk_merge_command_line.specs.declared.command.Command.{Command}

-- a run over these files
abbrev runs : ℕ → Option ℕ → List (List ℕ) → Option (Request Command)
runs least turns files = Some (Run (record { least = least; turns = turns; files = files }))

-- options may stand between files, and a number may have zeros in front
run : request_of (codes "t" ∷ codes "--min-samples" ∷ codes "001" ∷ codes "u" ∷ codes "--turns=20" ∷ codes "t" ∷ [])
    ≡ runs 1 (Some 20) (codes "t" ∷ codes "u" ∷ codes "t" ∷ [])
unfolding request_of asked_of faults_of rows_of clap_on_literals natural_of
run = refl

default : request_of (codes "t" ∷ []) ≡ runs 5 None (codes "t" ∷ [])
unfolding request_of asked_of faults_of rows_of clap_on_literals natural_of
default = refl

no_file : faults_of dk_merge (codes "--turns" ∷ codes "1" ∷ []) ≡ kind.MissingRequiredArgument ∷ []
unfolding faults_of clap_on_literals
no_file = refl

-- help and version need no file
help : request_of (codes "--help" ∷ []) ≡ Some Help
unfolding request_of asked_of faults_of rows_of clap_on_literals
help = refl

version : request_of (codes "t" ∷ codes "-V" ∷ []) ≡ Some Version
unfolding request_of asked_of faults_of rows_of clap_on_literals
version = refl

too_small : faults_of dk_merge (codes "--turns=0" ∷ codes "t" ∷ []) ≡ kind.ValueValidation ∷ []
unfolding faults_of clap_on_literals
too_small = refl

too_large : faults_of dk_merge (codes "t" ∷ codes "--turns=1000000001" ∷ []) ≡ kind.ValueValidation ∷ []
unfolding faults_of clap_on_literals
too_large = refl

-- a word of another program
another : request_of (codes "--stats" ∷ codes "t" ∷ []) ≡ None
unfolding request_of asked_of faults_of rows_of clap_on_literals
another = refl
