-- What each status of a run says.
use Rattle.std.specs.Prelude.{◌≡◌, ℕ, List, Option}
use Rattle.dk_events.specs.declared.ended.Ended.{Ended}
use Rattle.dk_implications.specs.Reports.{implications_report}
use Rattle.dk_template.specs.declared.grammar.Grammar.TheVariants.{Two}
use Rattle.dk_arguments.specs.declared.request.Request.{Request}
use Rattle.dk_driver.specs.Consuming.{Told}
use Rattle.dk_driver.specs.Walks.{total_limit}
use Rattle.dk_program.specs.Moments.{Outside}
use Rattle.dk_program.specs.Statuses.{Completes, IsARun as IsProgramRun, IsCalmlyComplete, RunComesTo, Says as ProgramSays}
use Rattle.dk_program.specs.Tasks.{Task}
use Rattle.dk_split.specs.Requests.{dk_split}
use Rattle.dk_split.specs.declared.command.Command.{Command}

-- the report: the sections of the implications of the points with own samples, in the order of the table
abbrev pub report_of : Command → Told → List ℕ
report_of command told = implications_report Two command.least told.points told.samples

abbrev pub task_of : Command → Task
task_of command = record {
  traces = command.traces;
  room = total_limit;
  is_report = λ told text. text ≡ report_of command told;
}

abbrev pub Says : Ended → Option (Request Command) → Outside → Outside → Type 0
Says status request before after = ProgramSays (λ command. RunComesTo (task_of command)) dk_split status request before after

abbrev pub IsARun : Option (Request Command) → Type 0
IsARun request = IsProgramRun request

abbrev pub CompletesCalmly : Option (Request Command) → Outside → Outside → Ended → Type 0
CompletesCalmly request before after result = Completes (λ command. IsCalmlyComplete (task_of command)) request before after result
