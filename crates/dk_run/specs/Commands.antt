-- What a command says of its run.
use Rattle.std.specs.Prelude.{ℕ, nat_eq, Bool, true, List, ◌∷◌, map}
use Rattle.std.specs.List.{starts_with}
use Rattle.std.specs.Option.{option_map_or}
use Rattle.dk_command_line.specs.declared.command.Command.{Command}
use Rattle.dk_generate.specs.Generated.{generated_text}
use Rattle.dk_generate.specs.Texts.{generated_name}
use Rattle.dk_io.specs.Outside.{HeldFile, Holds}
use Rattle.dk_report.specs.declared.options.Options.{Options}

-- what reports leave out
abbrev pub report_options : Command → Options
report_options command = record {
  least = command.least;
  keep_implied = command.keep_implied;
  keep_incomparable = command.keep_incomparable;
  keep_members = command.keep_members;
  keep_constant = command.keep_constant;
  keep_parent = command.keep_parent;
  ignore_missing_entry = command.ignore_missing_entry;
}

-- a point of this name is reported
abbrev pub is_selected : Command → List ℕ → Bool
is_selected command name = option_map_or (λ prefix. starts_with nat_eq name prefix) command.select true

-- ---- the files of a run, in order: the generated one stands first
abbrev pub file_names : Command → List (List ℕ)
file_names command = option_map_or (λ n. generated_name ∷ command.files) command.generate command.files

-- how many of them are generated
abbrev pub generated_count : Command → ℕ
generated_count command = option_map_or (λ n. 1) command.generate 0

-- what is told of them
abbrev pub helds_of : Command → (List ℕ → HeldFile) → List HeldFile
helds_of command file = option_map_or (λ n. Holds (generated_text n) ∷ map file command.files) command.generate (map file command.files)
