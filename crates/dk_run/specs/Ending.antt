-- How a run ends: what it writes last, and its status.
use Rattle.std.specs.Prelude.{◌≡◌, ℕ}
use Rattle.dk_io.specs.Streams.{Texts}
use Rattle.dk_io.specs.declared.outside.Stream.TheVariants.{Messages}
use Rattle.dk_command_line.specs.declared.command.Command.{Command}
use Rattle.dk_driver.specs.Files.{file_name_at}
use Rattle.dk_program.specs.Ending.{EndsWith}
use Rattle.dk_program.specs.Messages.{fault_line, unread_line}
use Rattle.dk_run.specs.Commands.{file_names}
use Rattle.dk_run.specs.declared.reading.FilesTrouble.{FilesTrouble}
use Rattle.dk_run.specs.declared.reading.FilesTrouble.TheVariants as t
use Rattle.dk_events.specs.declared.ended.Ended.{Ended}
use Rattle.dk_events.specs.declared.ended.Ended.TheVariants.{Read, Refused, Write, NoMemory}

-- the run ends so behind a trouble with its files
abbrev pub EndsBy : Command → FilesTrouble → Texts → Texts → ℕ → ℕ → Ended → Type 0
EndsBy command (t.Refused place line why) old new before after result =
    EndsWith Refused Messages (fault_line (file_name_at (file_names command) place) line why) old new before after result
EndsBy command (t.Start place) old new before after result =
    EndsWith Read Messages (unread_line (file_name_at (file_names command) place)) old new before after result
EndsBy command (t.Read place) old new before after result =
    EndsWith Read Messages (unread_line (file_name_at (file_names command) place)) old new before after result
EndsBy command t.Write old new before after result = (result ≡ Write) × (new ≡ old) × (after ≡ before)
EndsBy command t.NoMemory old new before after result = (result ≡ NoMemory) × (new ≡ old) × (after ≡ before)
