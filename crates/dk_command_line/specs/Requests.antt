-- What the words of the command ask for.
use Rattle.std.specs.Prelude.{◌∷◌, [], List, Option, Some, codes, false, unwrap_or}
use Rattle.clap.specs.Words.{Row, Text}
use Rattle.dk_arguments.specs.Descriptions.{Command as Described, count, flag, number, positionals, text}
use Rattle.dk_arguments.specs.Given.{is_given, number_at, text_at, texts_at}
use Rattle.dk_arguments.specs.Requests.{request_of as asked_of}
use Rattle.dk_arguments.specs.declared.request.Request.{Request}
use Rattle.dk_command_line.specs.Texts.{help_text, usage_line, version_text}
use Rattle.dk_command_line.specs.declared.command.Command.{Command}

-- the command: which words it accepts
abbrev pub daikon : Described
daikon = record {
  name = codes "daikon";
  arguments =
      record { name = codes "min-samples"; form = count }
      ∷ record { name = codes "every"; form = count }
      ∷ record { name = codes "select"; form = text }
      ∷ record { name = codes "keep-implied"; form = flag }
      ∷ record { name = codes "keep-incomparable"; form = flag }
      ∷ record { name = codes "keep-members"; form = flag }
      ∷ record { name = codes "keep-constant"; form = flag }
      ∷ record { name = codes "keep-parent"; form = flag }
      ∷ record { name = codes "ignore-missing-entry"; form = flag }
      ∷ record { name = codes "stats"; form = flag }
      ∷ record { name = codes "save"; form = flag }
      ∷ record { name = codes "resume"; form = text }
      ∷ record { name = codes "generate"; form = number 0 18446744073709551615 }
      ∷ record { name = codes "file"; form = positionals false }
      ∷ [];
  usage = usage_line;
  help = help_text;
  version = version_text;
}

-- what the rows of the accepted words say; the least number is 5 where none is given
abbrev pub command_of : List Row → Command
command_of rows = record {
  least = unwrap_or (number_at (codes "min-samples") rows) 5;
  every = number_at (codes "every") rows;
  select = text_at (codes "select") rows;
  keep_implied = is_given (codes "keep-implied") rows;
  keep_incomparable = is_given (codes "keep-incomparable") rows;
  keep_members = is_given (codes "keep-members") rows;
  keep_constant = is_given (codes "keep-constant") rows;
  keep_parent = is_given (codes "keep-parent") rows;
  ignore_missing_entry = is_given (codes "ignore-missing-entry") rows;
  stats = is_given (codes "stats") rows;
  save = is_given (codes "save") rows;
  resume = text_at (codes "resume") rows;
  generate = number_at (codes "generate") rows;
  files = texts_at (codes "file") rows;
}

-- what the words behind the program's name ask for
unfoldable pub request_of : List Text → Option (Request Command)
request_of words = asked_of daikon (λ rows. Some (command_of rows)) words
