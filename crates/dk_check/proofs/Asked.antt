-- What words ask for, computed from the definitions.
use Rattle.std.proofs.Common.{◌≡◌, ◌∷◌, [], Bool, List, ℕ, true, false, refl, codes, Some, None, Option}
use Rattle.clap.proofs.OnLiterals.{clap_on_literals}
use Rattle.clap.specs.declared.error.kind.ErrorKind.TheVariants as kind
use Rattle.dk_arguments.specs.Commands.{faults_of, rows_of}
use Rattle.dk_arguments.specs.Requests.{request_of as asked_of}
use Rattle.dk_arguments.specs.declared.request.Request.{Request}
use Rattle.dk_arguments.specs.declared.request.Request.TheVariants.{Run, Help, Version}
use Rattle.dk_check.specs.Requests.{dk_check, request_of}
use Rattle.dk_check.specs.declared.command.Command.{Command}

-- a run over these files
abbrev runs : Bool → List (List ℕ) → Option (Request Command)
runs ignores files = Some (Run (record { assertions = codes "a"; traces = record { names = files; ignore_missing_entry = ignores } }))

-- the first name is the assertion file's, and the option may stand between names
run : request_of (codes "a" ∷ codes "t" ∷ codes "--ignore-missing-entry" ∷ codes "u" ∷ codes "t" ∷ [])
    ≡ runs true (codes "t" ∷ codes "u" ∷ codes "t" ∷ [])
unfolding asked_of faults_of rows_of clap_on_literals
run = refl

no_files : request_of (codes "a" ∷ []) ≡ runs false []
unfolding asked_of faults_of rows_of clap_on_literals
no_files = refl

no_words : request_of [] ≡ None
unfolding asked_of faults_of rows_of clap_on_literals
no_words = refl

no_assertions : faults_of dk_check (codes "--ignore-missing-entry" ∷ []) ≡ kind.MissingRequiredArgument ∷ []
unfolding faults_of clap_on_literals
no_assertions = refl

-- help and version need no names
help : request_of (codes "--help" ∷ []) ≡ Some Help
unfolding asked_of faults_of rows_of clap_on_literals
help = refl

version : request_of (codes "a" ∷ codes "-V" ∷ []) ≡ Some Version
unfolding asked_of faults_of rows_of clap_on_literals
version = refl

-- a word of another program
another : request_of (codes "--stats" ∷ codes "a" ∷ []) ≡ None
unfolding asked_of faults_of rows_of clap_on_literals
another = refl
