-- The three texts of a run.
use Rattle.std.specs.Prelude.{ℕ, List, [], ◌++◌, length, Result, Ok, Err, if◌then◌else◌}
use Rattle.std.specs.Option.{option_map_or}
use Rattle.dk_blocks.specs.History.{History}
use Rattle.dk_core.specs.Resuming.{state_file}
use Rattle.dk_generate.specs.Texts.{generated_line}
use Rattle.dk_io.specs.declared.outside.Stream.TheVariants.{Messages}
use Rattle.dk_command_line.specs.Texts.{usage_line}
use Rattle.dk_command_line.specs.declared.command.Command.{Command}
use Rattle.dk_driver.specs.Files.{FaultAt, File, file_name_at}
use Rattle.dk_program.specs.Messages.{fault_line, unread_line}
use Rattle.dk_program.specs.Outputs.{Output, only_on}
use Rattle.dk_run.specs.Commands.{file_names}
use Rattle.dk_run.specs.Courses.{Course, Outset, course_of}
use Rattle.dk_run.specs.Reports.{due_reports, last_report}

-- the first message, where a file is generated
abbrev pub first_line : Command → List ℕ
first_line command = option_map_or (λ n. generated_line) command.generate []

-- the state, where it is to be saved
abbrev pub saved_state : Command → History → List ℕ
saved_state command h = if command.save then state_file h else []

-- With a fault there is no last report and no state, and the messages end with the fault's line.
abbrev pub output_at : Command → List History → Result History FaultAt → Output
output_at command after (Ok h) = record {
  report = due_reports command after ++ last_report command (length after) h;
  messages = first_line command;
  state = saved_state command h;
}
output_at command after (Err fault) = record {
  report = due_reports command after;
  messages = first_line command ++ fault_line (file_name_at (file_names command) fault.file) fault.line fault.why;
  state = [];
}

abbrev pub output_along : Command → Course FaultAt → Output
output_along command course = output_at command course.after course.end

-- the output of a run over all of its files, the generated one among them, behind its start
unfoldable pub output_of : Outset → Command → List File → Output
output_of start command files = output_along command (course_of start command.ignore_missing_entry files)

-- The output of a run that ends since a file of this name can't be read: the reports due within the files that were delivered, of the last
-- of which it may be a part.
unfoldable pub unread_output : Outset → Command → List File → List ℕ → Output
unread_output start command delivered name = record {
  report = due_reports command (course_of start command.ignore_missing_entry delivered).after;
  messages = first_line command ++ unread_line name;
  state = [];
}

-- the output where the words are refused
abbrev pub usage_output : Output
usage_output = only_on Messages usage_line
