use Rattle.std.specs.Fmt.{signed_decimal}
use Rattle.std.proofs.Common.{◌∙◌}
use Rattle.std.proofs.lemmas.Int.{to_z-of_z}
use Rattle.dk_state.proofs.Numerals.{number_plain}
use mir.Syntax.{w128}
use Rattle.dk_state.proofs.front.Front.wide.Goals as goal

pub returns-clause-read : goal.returns-clause-read
returns-clause-read c z rest small first is =
    let field = c.field.ensures.read (signed_decimal z) rest (number_plain z small) first is in
    let found = c.or_give_up.ensures.read z (c.wide_in-number.ensures.read z small field.0) in
    (to_z-of_z w128 c.or_give_up.result (record { sfits = c.or_give_up.type_inv }) ∙ found.0, found.1 ∙ field.1)
