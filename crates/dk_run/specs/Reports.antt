-- The reports of a run.
use Rattle.std.specs.Prelude.{◌==◌, ◌%◌, ◌&&◌, ℕ, Bool, List, [], ◌++◌, flat_map, nat_lt, if◌then◌else◌}
use Rattle.std.specs.List.{enumerate_from}
use Rattle.std.specs.Option.{option_map_or}
use Rattle.dk_blocks.specs.History.{History}
use Rattle.dk_core.specs.Sections.{all_stats_of, report_of}
use Rattle.dk_presence.specs.Patterns.{capped}
use Rattle.dk_command_line.specs.declared.command.Command.{Command}
use Rattle.dk_run.specs.Commands.{is_selected, report_options}
use Rattle.dk_print.specs.Sections.{after_blocks_line, end_line}

-- the sections, and behind them the sizes where they are asked for
unfoldable pub whole_report : Command → History → List ℕ
whole_report command h = report_of (report_options command) (is_selected command) h ++ (if command.stats then all_stats_of h else [])

-- a report is due after each block whose number is a multiple of this one
abbrev pub is_due : ℕ → ℕ → Bool
is_due every blocks = nat_lt 0 every && (blocks % every == 0)

-- the report by the way after the block of this number, if one is due
abbrev pub due_report : Command → ℕ → ℕ × History → List ℕ
due_report command every e =
    if is_due every (capped e.0) then after_blocks_line (capped e.0) ++ whole_report command e.1 else []

-- the reports by the way, in the order of the blocks, the first of which has this number
abbrev pub due_from : Command → ℕ → List History → List ℕ
due_from command n after = option_map_or (λ every. flat_map (due_report command every) (enumerate_from n after)) command.every []

abbrev pub due_reports : Command → List History → List ℕ
due_reports command after = due_from command 1 after

-- the last report, after so many blocks; where there are reports by the way, it follows a line that says so
abbrev pub last_report : Command → ℕ → History → List ℕ
last_report command blocks h = option_map_or (λ every. end_line (capped blocks)) command.every [] ++ whole_report command h
