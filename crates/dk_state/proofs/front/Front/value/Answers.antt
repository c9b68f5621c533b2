use Rattle.std.proofs.Common.{◌∙◌}
use Rattle.dk_base.specs.Values.Spelling.{spelling}
use Rattle.dk_state.proofs.Plain.{if_ok_weaker, value_plain}
use Rattle.dk_state.proofs.front.Front.value.Goals as goal

pub returns-clause-read : goal.returns-clause-read
returns-clause-read c v rest of written first is =
    let field = c.last_field-text.ensures.read (spelling v) rest (value_plain v written) first is in
    if_ok_weaker c.parse_value.result (λ own h. (h.0, h.1 ∙ field.1)) (c.parse_value.ensures.read v of written field.0)
