-- What each status of a run says.
use Rattle.std.specs.Prelude.{List, Option}
use Rattle.dk_arguments.specs.declared.request.Request.{Request}
use Rattle.dk_claims.specs.declared.sections.Section.{Section}
use Rattle.dk_events.specs.declared.ended.Ended.{Ended}
use Rattle.dk_program.specs.Moments.{Outside}
use Rattle.dk_program.specs.Openings.{IsOfBytes, IsOpeningCalmlyComplete, Opening, OpeningComesTo}
use Rattle.dk_program.specs.Statuses.{Completes, IsARun as IsProgramRun, Says as ProgramSays}
use Rattle.dk_tell.specs.Reports.{IsToldOf, sections_in}
use Rattle.dk_tell.specs.Requests.{dk_tell}
use Rattle.dk_tell.specs.declared.command.Command.{Command}

-- What a run is to do: the report is read first, and then the files of its points, whose bytes count with those of the report.
abbrev pub opening_of : Command → Opening (List Section)
opening_of command = record {
  name = command.report;
  given_in = sections_in;
  may_refuse = IsOfBytes;
  task = λ sections room. record { traces = command.traces; room = room; is_report = IsToldOf command.format sections };
}

abbrev pub Says : Ended → Option (Request Command) → Outside → Outside → Type 0
Says status request before after = ProgramSays (λ command. OpeningComesTo (opening_of command)) dk_tell status request before after

abbrev pub IsARun : Option (Request Command) → Type 0
IsARun request = IsProgramRun request

abbrev pub CompletesCalmly : Option (Request Command) → Outside → Outside → Ended → Type 0
CompletesCalmly request before after result =
    Completes (λ command. IsOpeningCalmlyComplete (opening_of command)) request before after result
