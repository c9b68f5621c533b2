-- What each status of a run says.
use Rattle.std.specs.Prelude.{ℕ, List, Option, map}
use Rattle.dk_arguments.specs.declared.request.Request.{Request}
use Rattle.dk_claims.specs.declared.claims.Claim.{Claim}
use Rattle.dk_driver.specs.Consuming.{Told}
use Rattle.dk_driver.specs.Files.{file_name_at}
use Rattle.dk_events.specs.declared.ended.Ended.{Ended}
use Rattle.dk_program.specs.Moments.{Outside}
use Rattle.dk_program.specs.Openings.{IsOfBytes, IsOpeningCalmlyComplete, Opening, OpeningComesTo}
use Rattle.dk_program.specs.Statuses.{Completes, IsARun as IsProgramRun, Says as ProgramSays}
use Rattle.dk_verdicts.specs.Reports.{IsReport}
use Rattle.dk_check.specs.Assertions.{claims_in}
use Rattle.dk_check.specs.Requests.{dk_check}
use Rattle.dk_check.specs.Standing.{checked}
use Rattle.dk_check.specs.declared.command.Command.{Command}

-- the report: the verdict on each claim, of the table behind all files and all their records
abbrev pub IsReportOf : List (List ℕ) → List Claim → Told → List ℕ → Type 0
IsReportOf names claims told text = IsReport (file_name_at names) claims told.points (map checked told.records) text

-- What a run is to do: its assertion file is read first, and then the other files, whose bytes count with those of the assertion file.
abbrev pub opening_of : Command → Opening (List Claim)
opening_of command = record {
  name = command.assertions;
  given_in = claims_in;
  may_refuse = IsOfBytes;
  task = λ claims room. record { traces = command.traces; room = room; is_report = IsReportOf command.traces.names claims };
}

abbrev pub Says : Ended → Option (Request Command) → Outside → Outside → Type 0
Says status request before after = ProgramSays (λ command. OpeningComesTo (opening_of command)) dk_check status request before after

abbrev pub IsARun : Option (Request Command) → Type 0
IsARun request = IsProgramRun request

abbrev pub CompletesCalmly : Option (Request Command) → Outside → Outside → Ended → Type 0
CompletesCalmly request before after result =
    Completes (λ command. IsOpeningCalmlyComplete (opening_of command)) request before after result
