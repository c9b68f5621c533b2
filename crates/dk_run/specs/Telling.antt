-- What writing texts comes to.
use Rattle.std.specs.Prelude.{◌≡◌, ℕ, false, List, [], Result, Ok, Err}
use Rattle.std.specs.Io.{StartsWith}
use Rattle.dk_io.specs.Streams.{Texts, with_bytes}
use Rattle.dk_io.specs.declared.outside.Stream.{Stream}
use Rattle.dk_io.specs.declared.outside.Stream.TheVariants.{Report, State}
use Rattle.dk_blocks.specs.History.{History}
use Rattle.dk_core.specs.Standing.{options_of as options_in}
use Rattle.dk_core.specs.declared.session.Session.{Session}
use Rattle.dk_command_line.specs.declared.command.Command.{Command}
use Rattle.dk_run.specs.Commands.{report_options}
use Rattle.dk_run.specs.Outputs.{saved_state}
use Rattle.dk_program.specs.Telling.{HaltHasCause}
use Rattle.dk_program.specs.declared.reporting.Halt.{Halt}

-- a text of which this holds was added to a stream
pub record Added (old new : Texts) (stream : Stream) (P : List ℕ → Type 0) : Type 0 where
  pub text : List ℕ
  pub written : new ≡ with_bytes old stream text
  pub holds : P text

-- the text that is due of the history was added to the report, and no write failed
pub record ToldWhole (Stands : History → Type 0) (due : History → List ℕ) (old new : Texts) (before after : ℕ) : Type 0 where
  pub text : List ℕ
  pub written : new ≡ with_bytes old Report text
  pub holds : (h : History) → Stands h → text ≡ due h
  pub calm : after ≡ before

-- a front of it was added, and a write failed or memory ran out
pub record CutOff (Stands : History → Type 0) (due : History → List ℕ) (old new : Texts) (before after : ℕ) (halt : Halt) : Type 0 where
  pub text : List ℕ
  pub written : new ≡ with_bytes old Report text
  pub holds : (h : History) → Stands h → StartsWith (due h) text
  pub cause : HaltHasCause before after halt

-- what writing the text that is due comes to
abbrev pub TellsOutcome : {A : Type 0} → (History → Type 0) → (History → List ℕ) → Texts → Texts → ℕ → ℕ → Result A Halt → Type 0
TellsOutcome Stands due old new before after (Ok u) = ToldWhole Stands due old new before after
TellsOutcome Stands due old new before after (Err halt) = CutOff Stands due old new before after halt

-- ---- the state
-- The state of the history was added to the stream State, where it is to be saved, and no write failed.
pub record StateTold (command : Command) (Stands : History → Type 0) (old new : Texts) (before after : ℕ) : Type 0 where
  pub text : List ℕ
  pub written : new ≡ with_bytes old State text
  pub holds : (h : History) → Stands h → text ≡ saved_state command h
  pub unsaved : command.save ≡ false → text ≡ []
  pub calm : after ≡ before

-- a front of it was added, and a write failed or memory ran out
pub record StateCut (command : Command) (Stands : History → Type 0) (old new : Texts) (before after : ℕ) (halt : Halt) : Type 0 where
  pub text : List ℕ
  pub written : new ≡ with_bytes old State text
  pub holds : (h : History) → Stands h → StartsWith (saved_state command h) text
  pub unsaved : command.save ≡ false → text ≡ []
  pub cause : HaltHasCause before after halt

-- what writing the state comes to
abbrev pub StateTells : {A : Type 0} → Command → (History → Type 0) → Texts → Texts → ℕ → ℕ → Result A Halt → Type 0
StateTells command Stands old new before after (Ok u) = StateTold command Stands old new before after
StateTells command Stands old new before after (Err halt) = StateCut command Stands old new before after halt

-- the session reports by what the command says
abbrev pub ReportsBy : {F : Type 0} → Command → Session F → Type 0
ReportsBy command session = options_in session ≡ report_options command
