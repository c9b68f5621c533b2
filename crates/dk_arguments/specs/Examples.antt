-- A command with each form of argument, for worked examples.
use Rattle.std.specs.Prelude.{◌∷◌, [], codes, true}
use Rattle.dk_arguments.specs.Descriptions.{Command, flag, number, one_of, positional, positionals, text}

abbrev pub example : Command
example = record {
  name = codes "example";
  arguments =
      record { name = codes "stats"; form = flag }
      ∷ record { name = codes "select"; form = text }
      ∷ record { name = codes "every"; form = number 1 1000 }
      ∷ record { name = codes "format"; form = one_of (codes "json" ∷ codes "html" ∷ []) }
      ∷ record { name = codes "assertions"; form = positional }
      ∷ record { name = codes "file"; form = positionals true }
      ∷ [];
  usage = codes "usage: example ..\n";
  help = codes "an example\n";
  version = codes "example 0.1.0\n";
}
