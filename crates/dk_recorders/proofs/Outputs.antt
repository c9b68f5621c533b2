-- What a run over files in turns writes.
use Rattle.std.proofs.Common.{◌≡◌, ℕ, Bool, false, List, [], ◌∷◌, ◌++◌, Option, None, flat_map, length, Ok, sym, ap, ◌∙◌, if◌then◌else◌}
use Rattle.std.specs.List.{enumerate_from}
use Rattle.std.specs.Option.{option_map_or}
use Rattle.dk_blocks.specs.History.{History}
use Rattle.dk_core.specs.Sections.{all_stats_of, report_of}
use Rattle.dk_presence.specs.Patterns.{capped}
use Rattle.dk_print.specs.Sections.{end_line}
use Rattle.dk_driver.specs.Files.{FaultAt, ended_file}
use Rattle.dk_program.specs.Outputs.{Output}
use Rattle.dk_run.specs.Commands.{is_selected, report_options}
use Rattle.dk_run.specs.Courses.{Course, course_of, first_start}
use Rattle.dk_run.specs.Outputs.{first_line, output_along, output_at, output_of, saved_state}
use Rattle.dk_run.specs.Reports.{due_report, whole_report}
use Rattle.dk_turns.specs.Turns.{turns_of}
use Rattle.dk_command_line.specs.declared.command.Command.{Command}
use Rattle.dk_recorders.specs.Laws.{TellTheSame, TellsAtTheEnd, TurnsWriteTheSame, history_of, output_over}
use Rattle.dk_recorders.specs.Recorders.{text_by_file}
use Rattle.dk_recorders.proofs.Courses.{turns_do_not_matter}

-- the last report and the state of a history
abbrev at_end : Command → History → Output
at_end command h = record { report = whole_report command h; messages = first_line command; state = saved_state command h }

-- no report is due by the way
last_alone : (command : Command) (after : List History) (h : History) → command.every ≡ None → output_at command after (Ok h) ≡ at_end command h
last_alone command after h none =
    ap (λ (o : Option ℕ). let output : Output = record {
      report =
          option_map_or (λ every. flat_map (due_report command every) (enumerate_from 1 after)) o []
          ++ (option_map_or (λ every. end_line (capped (length after))) o [] ++ whole_report command h);
      messages = first_line command;
      state = saved_state command h;
    } in output) none

over : (command : Command) (text : List ℕ) (h : History) → TellsAtTheEnd command → history_of text ≡ Ok h → output_over command text ≡ at_end command h
unfolding output_of
over command text h tells e =
    let course : Course FaultAt = course_of first_start false (ended_file text ∷ []) in
    ap (λ (ignores : Bool). output_along command (course_of first_start ignores (ended_file text ∷ []))) tells.ignores
    ∙ ap (output_at command course.after) e
    ∙ last_alone command course.after h tells.every

same_end : (command : Command) (h others : History) → command.stats ≡ false → TellTheSame h others → at_end command others ≡ at_end command h
unfolding whole_report
same_end command h others none same =
    ap (with_report (saved_state command others)) (reports ∙ sym (sized h))
    ∙ ap (λ (state : List ℕ). let output : Output = record { report = whole_report command h; messages = first_line command; state = state } in output) states
  where
    with_report : List ℕ → List ℕ → Output
    with_report state report = record { report = report; messages = first_line command; state = state }

    sized : (g : History) → whole_report command g ≡ report_of (report_options command) (is_selected command) g ++ []
    sized g = ap (λ (b : Bool). report_of (report_options command) (is_selected command) g ++ (if b then all_stats_of g else [])) none

    reports : whole_report command others ≡ report_of (report_options command) (is_selected command) h ++ []
    reports = sized others ∙ ap (λ (t : List ℕ). t ++ []) (same.report (report_options command) (is_selected command))

    states : saved_state command others ≡ saved_state command h
    states = ap (λ (text : List ℕ). if command.save then text else []) same.state

pub turns_write_the_same : TurnsWriteTheSame
turns_write_the_same command n files h tells some e are =
    let here = turns_do_not_matter n files h some e are in
    over command (turns_of n files) here.0 tells here.1
    ∙ same_end command h here.0 tells.stats here.3
    ∙ sym (over command (text_by_file files) h tells e)
