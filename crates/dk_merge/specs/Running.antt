-- What follows when all files were read: the report of states that are joined, or a run of daikon over one text.
use Rattle.std.specs.Prelude.{◌≡◌, ℕ, List, [], ◌∷◌}
use Rattle.std.specs.Io.{StartsWith}
use Rattle.std.specs.Option.{option_map_or}
use Rattle.dk_blocks.specs.History.{History}
use Rattle.dk_core.specs.Resuming.{IsStart, state_file}
use Rattle.dk_events.specs.declared.ended.Ended.{Ended}
use Rattle.dk_events.specs.declared.ended.Ended.TheVariants as ended
use Rattle.dk_io.specs.NamedFiles.{Files}
use Rattle.dk_io.specs.Streams.{Texts}
use Rattle.dk_program.specs.Outputs.{IsFront, Output}
use Rattle.dk_run.specs.Reports.{whole_report}
use Rattle.dk_turns.specs.Turns.{turns_of}
use Rattle.dk_merge.specs.Ending.{EndsAmong}
use Rattle.dk_merge.specs.Gathering.{state_of}
use Rattle.dk_merge.specs.Outputs.{IsMergedFront, IsMergedOutput, IsStateFront, IsStateOutput, plain_command, turns_fault, turns_output}
use Rattle.dk_merge.specs.declared.gathered.Gathered.{Gathered}
use Rattle.dk_merge.specs.declared.gathered.Gathered.TheVariants.{State, Traces}

-- inputs that hold the text as a file of this name, and nothing else
abbrev pub holding : List ℕ → List ℕ → Files
holding name text = record { named = (name, text) ∷ []; piece = 65536; rest = [] }

-- ---- a state
-- The last report of every history of which it is the state file.
pub record IsReportOf (least : ℕ) (text : List ℕ) (output : Output) : Type 0 where
  pub messages : output.messages ≡ []
  pub state : output.state ≡ []
  pub report : (h : History) → IsStart h → state_file h ≡ text → output.report ≡ whole_report (plain_command least) h

-- A front of it.
pub record IsReportFront (least : ℕ) (text : List ℕ) (front : Output) : Type 0 where
  pub messages : front.messages ≡ []
  pub state : front.state ≡ []
  pub report : (h : History) → IsStart h → state_file h ≡ text → StartsWith (whole_report (plain_command least) h) front.report

abbrev pub ReportEnds : ℕ → List ℕ → Texts → Texts → ℕ → ℕ → Ended → Type 0
ReportEnds least state = EndsAmong ended.Done (IsReportOf least state) (IsReportFront least state)

abbrev pub StateEnds : ℕ → List ℕ → Texts → Texts → ℕ → ℕ → Ended → Type 0
StateEnds least state = EndsAmong ended.Done (IsStateOutput least state) (IsStateFront least state)

-- ---- a text of turns
-- the status of a run over the text: a line of it is refused, or none
abbrev pub status_over : List ℕ → Ended
status_over text = option_map_or (λ fault. ended.Refused) (turns_fault text) ended.Done

abbrev pub TurnsEnd : ℕ → List ℕ → Texts → Texts → ℕ → ℕ → Ended → Type 0
TurnsEnd least text =
    EndsAmong (status_over text) (λ output. output ≡ turns_output least text) (λ front. IsFront front (turns_output least text))

-- ---- what was gathered
abbrev pub GatheredEnds : ℕ → Gathered → Texts → Texts → ℕ → ℕ → Ended → Type 0
GatheredEnds least (State states) = EndsAmong ended.Done (IsMergedOutput least (state_of states)) (IsMergedFront least (state_of states))
GatheredEnds least (Traces n files) = TurnsEnd least (turns_of n files)
