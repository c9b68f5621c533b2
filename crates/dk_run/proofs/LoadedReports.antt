-- What is told of a session is told of the state that it is of.
use Rattle.std.specs.Prelude.{◌≡◌, [], ℕ, List, refl}
use Rattle.std.specs.Io.{StartsWith}
use Rattle.std.proofs.Common.{◌∙◌, subst, sym}
use Rattle.dk_blocks.specs.History.{History}
use Rattle.dk_core.specs.Resuming.{IsOfLoaded}
use Rattle.dk_io.specs.Streams.{Texts}
use Rattle.dk_io.specs.declared.outside.Stream.TheVariants.{Report}
use Rattle.dk_state.specs.declared.loading.Loaded.{Loaded}
use Rattle.dk_command_line.specs.declared.command.Command.{Command}
use Rattle.dk_program.specs.Ending.{status_of}
use Rattle.dk_run.specs.Loaded.{IsFrontOfLoaded, ReportsLoaded}
use Rattle.dk_run.specs.Reports.{last_report}
use Rattle.dk_run.specs.Telling.{Added, CutOff, ToldWhole}
use Rattle.dk_program.specs.declared.reporting.Halt.{Halt}
use Rattle.dk_program.specs.declared.reporting.Halt.TheVariants.{Write, NoMemory}
use Rattle.dk_events.specs.declared.ended.Ended.TheVariants as status
use Rattle.dk_run.proofs.Writing.{added_nothing}

module _ (command : Command) (l : Loaded) (Stands : History → Type 0) (due : History → List ℕ) (all : (h : History) → IsOfLoaded l h → Stands h) (same : (h : History) → due h ≡ last_report command 0 h)
    (old new : Texts) (before after : ℕ) where
  front_told : (halt : Halt) → CutOff Stands due old new before after halt → Added old new Report (IsFrontOfLoaded command l)
  front_told halt told = record {
    text = told.text;
    written = told.written;
    holds = λ h is. subst (λ (t : List ℕ). StartsWith t told.text) (same h) (told.holds h (all h is));
  }

  pub whole_loaded : ToldWhole Stands due old new before after → ReportsLoaded command l old new before after status.Done
  whole_loaded told = (record { text = told.text; written = told.written; holds = λ h is. told.holds h (all h is) ∙ same h }, told.calm)

  pub cut_loaded : (halt : Halt) → CutOff Stands due old new before after halt → ReportsLoaded command l old new before after (status_of halt)
  cut_loaded Write told = (front_told Write told, told.cause)
  cut_loaded NoMemory told = (front_told NoMemory told, told.cause)

-- memory ran out before anything was told
pub nothing_told : (command : Command) (l : Loaded) (old : Texts) (faults : ℕ) → ReportsLoaded command l old old faults faults status.NoMemory
nothing_told command l old faults = (record { text = []; written = sym (added_nothing old Report); holds = λ h is. refl }, refl)
