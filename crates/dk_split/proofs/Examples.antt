-- What words ask for, and what small outputs are, computed from the definitions.
use Rattle.std.proofs.Common.{◌≡◌, ◌∷◌, [], true, refl, codes, Some, None}
use Rattle.clap.proofs.OnLiterals.{clap_on_literals}
use Rattle.clap.specs.declared.error.kind.ErrorKind.TheVariants as kind
use Rattle.dk_arguments.specs.Commands.{faults_of, rows_of}
use Rattle.dk_arguments.specs.Requests.{request_of as asked_of}
use Rattle.dk_arguments.specs.declared.request.Request.TheVariants.{Run, Help, Version}
use Rattle.dk_base.specs.Numbers.{natural_of}
use Rattle.dk_blocks.specs.History.{no_history}
use Rattle.dk_driver.specs.Walks.{walk_of}
use Rattle.dk_events.specs.declared.ended.Ended.TheVariants.{Done}
use Rattle.dk_implications.specs.Reports.{implications_report}
use Rattle.dk_io.specs.declared.outside.Stream.TheVariants.{Report}
use Rattle.dk_program.specs.Moments.{Outside}
use Rattle.dk_program.specs.Outputs.{only_on}
use Rattle.dk_program.specs.Tasks.{IsOutput}
use Rattle.dk_split.specs.Requests.{dk_split, request_of}
use Rattle.dk_split.specs.Statuses.{CompletesCalmly, task_of}
use Rattle.dk_split.specs.declared.command.Command.{Command}

-- ---- words
abbrev command : Command
command = record { least = 1; traces = record { names = codes "t" ∷ codes "u" ∷ codes "t" ∷ []; ignore_missing_entry = true } }

-- options may stand between files, and a number may have zeros in front
run : request_of (codes "t" ∷ codes "--min-samples" ∷ codes "001" ∷ codes "u" ∷ codes "--ignore-missing-entry" ∷ codes "t" ∷ []) ≡ Some (Run command)
unfolding asked_of faults_of rows_of clap_on_literals natural_of
run = refl

help : request_of (codes "t" ∷ codes "--help" ∷ []) ≡ Some Help
unfolding asked_of faults_of rows_of clap_on_literals
help = refl

version : request_of (codes "-V" ∷ []) ≡ Some Version
unfolding asked_of faults_of rows_of clap_on_literals
version = refl

-- a word of another program
another : request_of (codes "--stats" ∷ codes "t" ∷ []) ≡ None
unfolding asked_of faults_of rows_of clap_on_literals
another = refl

too_small : faults_of dk_split (codes "--min-samples=0" ∷ []) ≡ kind.ValueValidation ∷ []
unfolding faults_of clap_on_literals
too_small = refl

-- ---- outputs
-- no files, no report
none : IsOutput (task_of command) [] (only_on Report [])
unfolding IsOutput walk_of implications_report no_history
none = ([], refl, refl)

-- a run that is asked for help says so
asked_for_help : (before after : Outside) → CompletesCalmly (Some Help) before after Done
asked_for_help before after = tt
