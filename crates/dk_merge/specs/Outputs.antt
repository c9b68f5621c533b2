-- What a run writes.
use Rattle.std.specs.Prelude.{◌≡◌, ◌++◌, ℕ, List, [], ◌∷◌, codes, false, true, length, Option, Some, None}
use Rattle.std.specs.Io.{StartsWith}
use Rattle.dk_base.specs.declared.why.Why.{Why}
use Rattle.dk_blocks.specs.History.{History}
use Rattle.dk_core.specs.Resuming.{IsStart, state_file}
use Rattle.dk_io.specs.declared.outside.Stream.TheVariants.{Messages}
use Rattle.dk_driver.specs.Files.{FaultAt, ended_file, file_name_at}
use Rattle.dk_program.specs.Messages.{fault_line}
use Rattle.dk_program.specs.Outputs.{IsFront, Output, only_on}
use Rattle.dk_run.specs.Courses.{first_fault, first_start}
use Rattle.dk_run.specs.Outputs.{output_of}
use Rattle.dk_run.specs.Reports.{whole_report}
use Rattle.dk_turns.specs.Turns.{turns_of}
use Rattle.dk_command_line.specs.declared.command.Command.{Command as PlainCommand}
use Rattle.dk_merge.specs.Merged.{AreMergedTo, AreTaken, IsRefusedBehind}
use Rattle.dk_merge_command_line.specs.declared.command.Command.{Command}

-- nothing is written
abbrev pub no_output : Output
no_output = record { report = []; messages = []; state = [] }

-- ---- daikon's commands
-- over no files, with this least number; nothing else is asked for
abbrev pub plain_command : ℕ → PlainCommand
plain_command least = record {
  least = least;
  every = None;
  select = None;
  keep_implied = false;
  keep_incomparable = false;
  keep_members = false;
  keep_constant = false;
  keep_parent = false;
  ignore_missing_entry = false;
  stats = false;
  save = false;
  resume = None;
  generate = None;
  files = [];
}

-- the name of the one file
abbrev pub turns_name : List ℕ
turns_name = codes "turns"

-- over one file of that name; the state is saved
abbrev pub turns_command : ℕ → PlainCommand
turns_command least = record (plain_command least) { save = true; files = turns_name ∷ [] }

-- ---- states
-- the output where the files come to this state, and it is this history's
abbrev pub state_output : ℕ → List ℕ → History → Output
state_output least state h = record { report = whole_report (plain_command least) h; messages = []; state = state }

-- The state is written, and the last report of every history of which it is the state file.
pub record IsStateOutput (least : ℕ) (text : List ℕ) (output : Output) : Type 0 where
  pub messages : output.messages ≡ []
  pub state : output.state ≡ text
  pub report : (h : History) → IsStart h → state_file h ≡ text → output ≡ state_output least text h

abbrev pub IsMergedOutput : ℕ → Option (List ℕ) → Output → Type 0
IsMergedOutput least None output = output ≡ no_output
IsMergedOutput least (Some state) output = IsStateOutput least state output

-- A front of such an output: of the report, and behind it of the state.
pub record IsStateFront (least : ℕ) (text : List ℕ) (front : Output) : Type 0 where
  pub messages : front.messages ≡ []
  pub state : StartsWith text front.state
  pub report : (h : History) → IsStart h → state_file h ≡ text → IsFront front (state_output least text h)

abbrev pub IsMergedFront : ℕ → Option (List ℕ) → Output → Type 0
IsMergedFront least None front = front ≡ no_output
IsMergedFront least (Some state) front = IsStateFront least state front

-- ---- turns
-- the output of daikon over the one file, from no samples on, and its first fault
abbrev pub turns_output : ℕ → List ℕ → Output
turns_output least text = output_of first_start (turns_command least) (ended_file text ∷ [])

abbrev pub turns_fault : List ℕ → Option FaultAt
turns_fault text = first_fault first_start false (ended_file text ∷ [])

-- ---- files of these contents
-- no file is refused, and this is the output
abbrev pub IsDoneOutput : Option ℕ → ℕ → List (List ℕ) → Output → Type 0
IsDoneOutput None least contents output = (state : Option (List ℕ)) × AreMergedTo contents state × IsMergedOutput least state output
IsDoneOutput (Some n) least contents output =
    (turns_fault (turns_of n contents) ≡ None) × (output ≡ turns_output least (turns_of n contents))

-- A file is refused, and that is all that the run says.
pub record IsRefusedOutput (command : Command) (contents : List (List ℕ)) (output : Output) : Type 0 where
  pub before : List (List ℕ)
  pub file : List ℕ
  pub behind : List (List ℕ)
  pub all : contents ≡ before ++ file ∷ behind
  pub taken : AreTaken command.turns before
  pub why : Why
  pub refused : IsRefusedBehind command.turns before file why
  pub message : output ≡ only_on Messages (fault_line (file_name_at command.files (length before)) 0 why)

-- None is, but a line of the one file.
pub record IsRefusedInTurns (command : Command) (contents : List (List ℕ)) (output : Output) : Type 0 where
  pub n : ℕ
  pub turns : command.turns ≡ Some n
  pub taken : AreTaken command.turns contents
  pub fault : FaultAt
  pub first : turns_fault (turns_of n contents) ≡ Some fault
  pub message : output ≡ turns_output command.least (turns_of n contents)

-- a front of the output where no file is refused
abbrev pub IsDoneFront : Option ℕ → ℕ → List (List ℕ) → Output → Type 0
IsDoneFront None least contents front = (state : Option (List ℕ)) × AreMergedTo contents state × IsMergedFront least state front
IsDoneFront (Some n) least contents front = IsFront front (turns_output least (turns_of n contents))
