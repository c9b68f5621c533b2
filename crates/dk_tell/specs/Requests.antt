-- What the words of the command ask for.
use Rattle.std.specs.Prelude.{◌∷◌, [], List, Option, Some, codes, false, if◌then◌else◌, unwrap_or}
use Rattle.std.specs.Option.{option_map_or}
use Rattle.std.specs.Str.{bytes_eq}
use Rattle.clap.specs.Words.{Row, Text}
use Rattle.dk_arguments.specs.Descriptions.{Command as Described, flag, one_of, positional, positionals}
use Rattle.dk_arguments.specs.Given.{is_given, text_at, texts_at}
use Rattle.dk_arguments.specs.Requests.{request_of as asked_of}
use Rattle.dk_arguments.specs.declared.request.Request.{Request}
use Rattle.dk_formats.specs.declared.formats.Format.{Format}
use Rattle.dk_formats.specs.declared.formats.Format.TheVariants.{Html, In, Json}
use Rattle.dk_languages.specs.declared.languages.Language.TheVariants.{C, Python, Smtlib}
use Rattle.dk_tell.specs.Texts.{help_text, usage_line, version_text}
use Rattle.dk_tell.specs.declared.command.Command.{Command}

-- the command: which words it accepts
abbrev pub dk_tell : Described
dk_tell = record {
  name = codes "dk_tell";
  arguments =
      record { name = codes "format"; form = one_of (codes "json" ∷ codes "python" ∷ codes "c" ∷ codes "smtlib" ∷ codes "html" ∷ []) }
      ∷ record { name = codes "ignore-missing-entry"; form = flag }
      ∷ record { name = codes "report"; form = positional }
      ∷ record { name = codes "file"; form = positionals false }
      ∷ [];
  usage = usage_line;
  help = help_text;
  version = version_text;
}

-- the format of a name that the command accepts
abbrev pub format_named : Text → Format
format_named name =
    if bytes_eq name (codes "python") then In Python
    else if bytes_eq name (codes "c") then In C
    else if bytes_eq name (codes "smtlib") then In Smtlib
    else if bytes_eq name (codes "html") then Html
    else Json

-- What the rows of the accepted words say. The name of the report is among them, since it is required.
abbrev pub command_of : List Row → Command
command_of rows = record {
  format = option_map_or format_named (text_at (codes "format") rows) Json;
  report = unwrap_or (text_at (codes "report") rows) [];
  traces = record {
    names = texts_at (codes "file") rows;
    ignore_missing_entry = is_given (codes "ignore-missing-entry") rows;
  };
}

-- what the words behind the program's name ask for
abbrev pub request_of : List Text → Option (Request Command)
request_of words = asked_of dk_tell (λ rows. Some (command_of rows)) words
