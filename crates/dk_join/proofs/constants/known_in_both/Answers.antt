use Rattle.std.specs.Prelude.{option_copied}
use Rattle.std.proofs.Common.{◌∙◌, ap}
use Rattle.dk_constants.specs.Known.{known_at}
use Rattle.dk_engine.specs.Reading.Parts.{leader_of}
use Rattle.dk_join.specs.Joined.{common_value}
use Rattle.dk_join.proofs.constants.known_in_both.Goals as goal

pub returns : goal.returns
returns c =
    let first = c.args.first.now.kept in
    c.common_value.ensures
    ∙ (ap (λ o. common_value o (option_copied c.known_of-2.result)) c.known_of.ensures
    ∙ ap (common_value (known_at first.known (leader_of first.leaders c.args.v))) c.known_of-2.ensures)
