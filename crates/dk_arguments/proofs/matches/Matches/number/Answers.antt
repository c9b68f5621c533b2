use Rattle.std.proofs.Common.{subst, ap, ◌∙◌, Option, ◌≡◌, ℕ, List, Result}
use Rattle.std.specs.Str.Parse.{ParsesUnsigned, ExplainsUnsignedError, HasUnsignedDigitsIfOk}
use Rattle.std.specs.declared.num.ParseIntError.{ParseIntError}
use Rattle.clap.specs.Words.{Row, Text, found_of}
use Rattle.clap.proofs.WalkLemmas.{one_text-rows}
use Rattle.dk_arguments.specs.Given.{number_at}
use Rattle.dk_arguments.proofs.Numbers.{number_read, read}
use Rattle.dk_arguments.proofs.matches.Matches.number.Goals as goal

abbrev Gives : List ℕ → Result ℕ ParseIntError → Type 0
Gives bs r = ParsesUnsigned 64 10 bs r × ExplainsUnsignedError 10 bs r × HasUnsignedDigitsIfOk bs r

pub returns : goal.returns
returns c =
    subst (λ (o : Option Text). c.get_one.result ≡ read o) (one_text-rows (found_of c.self.inside.kept) c.args.name.now)
    (number_read Gives _ c.get_one.result (λ t x g. g.0) c.get_one.ensures.none c.get_one.ensures.value)
    ∙ ap (λ (rows : List Row). number_at c.args.name.now rows) c.self.view_is
