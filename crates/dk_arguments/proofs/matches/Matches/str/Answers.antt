use Rattle.std.proofs.Common.{ap, ◌∙◌, List}
use Rattle.clap.specs.Words.{Row, found_of}
use Rattle.clap.proofs.WalkLemmas.{first_value-rows}
use Rattle.dk_arguments.specs.Given.{text_at}
use Rattle.dk_arguments.proofs.matches.Matches.str.Goals as goal

pub returns : goal.returns
returns c =
    c.get_str.ensures ∙ first_value-rows (found_of c.self.inside.kept) c.args.name.now
    ∙ ap (λ (rows : List Row). text_at c.args.name.now rows) c.self.view_is
