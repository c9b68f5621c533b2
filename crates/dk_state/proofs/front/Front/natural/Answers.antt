use Rattle.std.specs.Prelude.{pos}
use Rattle.std.proofs.Common.{◌∙◌, arith}
use Rattle.std.proofs.lemmas.Int.{to_z-of_z}
use mir.Syntax.{w128}
use Rattle.dk_state.proofs.front.Front.natural.Goals as goal

pub returns-clause-read : goal.returns-clause-read
returns-clause-read c n rest small first is =
    let wide = c.wide.ensures.read (pos n) rest (omega arith) first is in
    let found = c.or_give_up.ensures.read n (c.in_u64-number.ensures.read n small (to_z-of_z w128 c.wide.result (record { sfits = c.wide.type_inv }) ∙ wide.0)) in
    (found.0, found.1 ∙ wide.1)
