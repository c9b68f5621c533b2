-- What descriptions of commands say.
use Rattle.std.specs.Prelude.{ℕ, Bool, List, map}
use Rattle.clap.specs.Words.{Text}
use Rattle.dk_arguments.specs.declared.description.Argument.{Argument as GivenArgument}
use Rattle.dk_arguments.specs.declared.description.Description.{Description}
use Rattle.dk_arguments.specs.declared.description.Form.{Form as GivenForm}
use Rattle.dk_arguments.specs.declared.description.Form.TheVariants as given

-- how an argument is given
pub data Form : Type 0 where
  flag : Form
  text : Form
  number : ℕ → ℕ → Form
  one_of : List Text → Form
  positional : Form
  positionals : Bool → Form

-- how a count of samples, blocks or records is given: as a number from 1 to the largest
abbrev pub largest_count : ℕ
largest_count = 1000000000

abbrev pub count : Form
count = number 1 largest_count

-- an argument that a command accepts
pub record Argument : Type 0 where
  pub name : Text
  pub form : Form

-- a command: its name, what it accepts, and the texts that tell of it
pub record Command : Type 0 where
  pub name : Text
  pub arguments : List Argument
  pub usage : Text
  pub help : Text
  pub version : Text

-- these, as the code has them
abbrev pub form_of : GivenForm → Form
form_of given.Flag = flag
form_of given.Text = text
form_of (given.Number least most) = number least most
form_of (given.OneOf words) = one_of (map (λ word. word.now) words.now)
form_of given.Positional = positional
form_of (given.Positionals required) = positionals required

abbrev pub argument_of : GivenArgument → Argument
argument_of a = record { name = a.name.now; form = form_of a.form }

abbrev pub described : Description → Command
described d = record {
  name = d.name.now;
  arguments = map argument_of d.arguments.now;
  usage = d.usage.now;
  help = d.help.now;
  version = d.version.now;
}
