-- Commands as `clap` knows them: what they find faulty, and what they make of given words.
use Rattle.std.specs.Prelude.{◌∷◌, Bool, List, Some, map, true}
use Rattle.clap.specs.Words.{App, Kinds, Row, Rule, Text, fault_of, is_simple_and_free, matches_of, new_app, new_rule}
use Rattle.clap.specs.declared.builder.action.ArgAction.TheVariants.{Append, Set, SetTrue}
use Rattle.clap.specs.declared.builder.value_parser.ValueParser.TheVariants as parser
use Rattle.dk_arguments.specs.Descriptions.{Argument, Command, Form, flag, number, one_of, positional, positionals, text}

-- an option that takes a value
abbrev pub option_rule : Text → Rule
option_rule name = record (new_rule name) { long = Some name; action = Some Set }

-- The rule of an argument. That a word is one of several is no rule of `clap`'s; see `is_among`.
abbrev pub rule_by : Form → Text → Rule
rule_by flag name = record (new_rule name) { long = Some name; action = Some SetTrue }
rule_by text name = option_rule name
rule_by (number least most) name = record (option_rule name) { parser = Some (parser.Unsigned least most) }
rule_by (one_of words) name = option_rule name
rule_by positional name = record (new_rule name) { action = Some Set; required = true }
rule_by (positionals required) name = record (new_rule name) { action = Some Append; required = required }

abbrev pub rule_for : Argument → Rule
rule_for a = rule_by a.form a.name

-- the command of this name that accepts these arguments, help and version, and has no subcommands
abbrev pub app_with : Text → List Rule → App
app_with name rules = let a = new_app name in record a { top = record a.top { rules = rules; has_version = true } }

abbrev pub app_of_command : Command → App
app_of_command c = app_with c.name (map rule_for c.arguments)

-- `clap` defines which words the command accepts: among others, only the last positional may take several words.
abbrev pub is_simple : Command → Bool
is_simple c = is_simple_and_free (app_of_command c)

-- the given words, with the program's name in front
abbrev pub named : Command → List Text → List Text
named c words = c.name ∷ words

-- the faults that `clap` finds in the given words; none where it accepts them
unfoldable pub faults_of : Command → List Text → Kinds
faults_of c words = fault_of (app_of_command c) (named c words)

-- what it makes of them
unfoldable pub rows_of : Command → List Text → List Row
rows_of c words = matches_of (app_of_command c) (named c words)
