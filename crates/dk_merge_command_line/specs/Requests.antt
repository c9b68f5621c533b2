-- What the words of the command ask for.
use Rattle.std.specs.Prelude.{◌∷◌, [], List, Option, Some, codes, true, unwrap_or}
use Rattle.clap.specs.Words.{Row, Text}
use Rattle.dk_arguments.specs.Descriptions.{Command as Described, count, positionals}
use Rattle.dk_arguments.specs.Given.{number_at, texts_at}
use Rattle.dk_arguments.specs.Requests.{request_of as asked_of}
use Rattle.dk_arguments.specs.declared.request.Request.{Request}
use Rattle.dk_merge_command_line.specs.Texts.{help_text, usage_line, version_text}
use Rattle.dk_merge_command_line.specs.declared.command.Command.{Command}

-- the command: which words it accepts; a file has to be named
abbrev pub dk_merge : Described
dk_merge = record {
  name = codes "dk_merge";
  arguments =
      record { name = codes "min-samples"; form = count }
      ∷ record { name = codes "turns"; form = count }
      ∷ record { name = codes "file"; form = positionals true }
      ∷ [];
  usage = usage_line;
  help = help_text;
  version = version_text;
}

-- what the rows of the accepted words say; the least number is 5 where none is given
abbrev pub command_of : List Row → Command
command_of rows = record {
  least = unwrap_or (number_at (codes "min-samples") rows) 5;
  turns = number_at (codes "turns") rows;
  files = texts_at (codes "file") rows;
}

-- what the words behind the program's name ask for
unfoldable pub request_of : List Text → Option (Request Command)
request_of words = asked_of dk_merge (λ rows. Some (command_of rows)) words
