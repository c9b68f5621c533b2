-- The command `dk_table`, and what its arguments mean.
use Rattle.std.specs.Prelude.{◌≡◌, ◌||◌, ◌==◌, ◌∷◌, [], ℕ, Bool, codes, not, option_map, true, List, Option, Some, None, Result, Ok, Err, if◌then◌else◌}
use Rattle.clap.specs.Words.{Row, Text}
use Rattle.dk_arguments.specs.Descriptions.{Command as Accepted, flag, number, positionals, text}
use Rattle.dk_arguments.specs.Given.{is_given, number_at, text_at, texts_at}
use Rattle.dk_arguments.specs.declared.fault.ArgumentsFault.{ArgumentsFault}
use Rattle.dk_arguments.specs.declared.fault.ArgumentsFault.TheVariants.{Refused, NoMemory}
use Rattle.dk_table.specs.declared.words.TableArguments.{TableArguments}
use Rattle.dk_table.specs.declared.words.texts.TheConstants.{HELP_TEXT, USAGE_LINE, VERSION_TEXT}

abbrev pub table_command : Accepted
table_command = record {
  name = codes "dk_table";
  arguments =
      record { name = codes "point"; form = text }
      ∷ record { name = codes "separator"; form = text }
      ∷ record { name = codes "types"; form = number 1 1099511627776 }
      ∷ record { name = codes "no-header"; form = flag }
      ∷ record { name = codes "file"; form = positionals true }
      ∷ [];
  usage = USAGE_LINE.now;
  help = HELP_TEXT.now;
  version = VERSION_TEXT.now;
}

-- a byte that separates no cells: a quote (34), LF (10) or CR (13)
abbrev pub is_no_separator : ℕ → Bool
is_no_separator b = b == 34 || (b == 10 || b == 13)

-- the separator that is asked for, of one byte; a comma (44), where none is
abbrev pub separator_of : Option Text → Option ℕ
separator_of None = Some 44
separator_of (Some (b ∷ [])) = if is_no_separator b then None else Some b
separator_of (Some _) = None

-- the answer to a word for it
abbrev pub SeparatorIs : Option Text → Result ℕ ArgumentsFault → Type 0
SeparatorIs word (Ok b) = separator_of word ≡ Some b
SeparatorIs word (Err Refused) = separator_of word ≡ None
SeparatorIs word (Err NoMemory) = ⊥

abbrev pub table_arguments : List Row → ℕ → TableArguments
table_arguments rows separator = record {
  command = record {
    point = text_at (codes "point") rows;
    separator = separator;
    types = number_at (codes "types") rows;
    has_header = not (is_given (codes "no-header") rows);
  };
  files = texts_at (codes "file") rows;
}

-- the arguments, if the separator is one
abbrev pub meant : List Row → Option TableArguments
meant rows = option_map (table_arguments rows) (separator_of (text_at (codes "separator") rows))
