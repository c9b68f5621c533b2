use Rattle.std.proofs.Common.{ap, ◌∙◌, unwrap_or, [], List, Option}
use Rattle.std.proofs.lemmas.Result.{IfOk-weaker}
use Rattle.clap.specs.Words.{Row, Text, found_of}
use Rattle.clap.proofs.WalkLemmas.{raw_values-rows}
use Rattle.dk_arguments.specs.Given.{texts_at}
use Rattle.dk_arguments.proofs.matches.Matches.texts.Goals as goal

pub returns-in-Some : goal.returns-in-Some
returns-in-Some c = IfOk-weaker c.words_of.result _ _
    (λ v e. e
    ∙ ap (λ (o : Option (List Text)). unwrap_or o []) (c.in-Some.ensures ∙ raw_values-rows (found_of c.self.inside.kept) c.args.name.now)
    ∙ ap (λ (rows : List Row). texts_at c.args.name.now rows) c.self.view_is) c.words_of.ensures

pub returns-in-None : goal.returns-in-None
returns-in-None c = c.new.ensures
    ∙ ap (λ (o : Option (List Text)). unwrap_or o []) (c.in-None.ensures ∙ raw_values-rows (found_of c.self.inside.kept) c.args.name.now)
    ∙ ap (λ (rows : List Row). texts_at c.args.name.now rows) c.self.view_is
