use Rattle.std.specs.Prelude.{option_map}
use Rattle.std.proofs.Common.{◌∙◌, ap, sym}
use Rattle.dk_state.specs.Matching.{left_behind}
use Rattle.dk_state.proofs.Passing.{stripped}
use Rattle.dk_state.proofs.matching.Rest.pass.Goals as goal

pub returns-in-Some : goal.returns-in-Some
returns-in-Some c =
    stripped c.args.piece.now c.in-Some.bytes.now c.strip_prefix-self-inside.result c.strip_prefix-self-inside.ensures.cases
    ∙ ap (left_behind c.args.piece.now) (sym (ap (option_map (λ bytes. bytes.now)) c.in-Some.is) ∙ c.self.view_is)
