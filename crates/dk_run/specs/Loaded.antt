-- What writing the last report of a state comes to that is loaded.
use Rattle.std.specs.Prelude.{◌≡◌, List, ℕ}
use Rattle.std.specs.Io.{StartsWith}
use Rattle.dk_blocks.specs.History.{History}
use Rattle.dk_core.specs.Resuming.{IsOfLoaded}
use Rattle.dk_io.specs.Outside.{Rose}
use Rattle.dk_io.specs.Streams.{Texts}
use Rattle.dk_io.specs.declared.outside.Stream.TheVariants.{Report}
use Rattle.dk_state.specs.declared.loading.Loaded.{Loaded}
use Rattle.dk_command_line.specs.declared.command.Command.{Command}
use Rattle.dk_run.specs.Reports.{last_report}
use Rattle.dk_run.specs.Telling.{Added}
use Rattle.dk_events.specs.declared.ended.Ended.{Ended}
use Rattle.dk_events.specs.declared.ended.Ended.TheVariants.{Done, Write, NoMemory}

-- the last report, after no block, of every history whose the state is
abbrev pub IsReportOfLoaded : Command → Loaded → List ℕ → Type 0
IsReportOfLoaded command l text = (h : History) → IsOfLoaded l h → text ≡ last_report command 0 h

-- a front of it
abbrev pub IsFrontOfLoaded : Command → Loaded → List ℕ → Type 0
IsFrontOfLoaded command l text = (h : History) → IsOfLoaded l h → StartsWith (last_report command 0 h) text

-- The report was added, and no write failed; or a front of it was, and a write failed or memory ran out.
abbrev pub ReportsLoaded : Command → Loaded → Texts → Texts → ℕ → ℕ → Ended → Type 0
ReportsLoaded command l old new before after Done = Added old new Report (IsReportOfLoaded command l) × (after ≡ before)
ReportsLoaded command l old new before after Write = Added old new Report (IsFrontOfLoaded command l) × Rose before after
ReportsLoaded command l old new before after NoMemory = Added old new Report (IsFrontOfLoaded command l) × (after ≡ before)
ReportsLoaded command l old new before after status = ⊥
