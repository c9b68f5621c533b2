-- What the words of the command ask for.
use Rattle.std.specs.Prelude.{◌∷◌, [], List, Option, Some, codes, false, unwrap_or}
use Rattle.clap.specs.Words.{Row, Text}
use Rattle.dk_arguments.specs.Descriptions.{Command as Described, count, flag, positionals}
use Rattle.dk_arguments.specs.Given.{is_given, number_at, texts_at}
use Rattle.dk_arguments.specs.Requests.{request_of as asked_of}
use Rattle.dk_arguments.specs.declared.request.Request.{Request}
use Rattle.dk_split.specs.Texts.{help_text, usage_line, version_text}
use Rattle.dk_split.specs.declared.command.Command.{Command}

-- the command: which words it accepts
abbrev pub dk_split : Described
dk_split = record {
  name = codes "dk_split";
  arguments =
      record { name = codes "min-samples"; form = count }
      ∷ record { name = codes "ignore-missing-entry"; form = flag }
      ∷ record { name = codes "file"; form = positionals false }
      ∷ [];
  usage = usage_line;
  help = help_text;
  version = version_text;
}

-- what the rows of the accepted words say
abbrev pub command_of : List Row → Command
command_of rows = record {
  least = unwrap_or (number_at (codes "min-samples") rows) 5;
  traces = record {
    names = texts_at (codes "file") rows;
    ignore_missing_entry = is_given (codes "ignore-missing-entry") rows;
  };
}

-- what the words behind the program's name ask for
abbrev pub request_of : List Text → Option (Request Command)
request_of words = asked_of dk_split (λ rows. Some (command_of rows)) words
