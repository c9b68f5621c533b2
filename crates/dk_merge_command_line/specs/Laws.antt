-- What the words of the command come to, in the words of a reader.
use Rattle.std.specs.Prelude.{◌≡◌, ◌<◌, List, Some, IfSome, length}
use Rattle.clap.specs.Words.{Text}
use Rattle.dk_arguments.specs.Descriptions.{largest_count}
use Rattle.dk_arguments.specs.Laws.{IsWithin}
use Rattle.dk_arguments.specs.declared.request.Request.TheVariants.{Run}
use Rattle.dk_merge_command_line.specs.Requests.{request_of}
use Rattle.dk_merge_command_line.specs.declared.command.Command.{Command}

-- the least number of a run and its number of turns lie between 1 and 1,000,000,000
abbrev pub NumbersAreWithinBounds : Type 0
NumbersAreWithinBounds = (words : List Text) (command : Command) → request_of words ≡ Some (Run command)
    → IsWithin 1 largest_count command.least × IfSome command.turns (IsWithin 1 largest_count)

-- a run has one file at least
abbrev pub SomeFileIsNamed : Type 0
SomeFileIsNamed = (words : List Text) (command : Command) → request_of words ≡ Some (Run command) → 0 < length command.files
