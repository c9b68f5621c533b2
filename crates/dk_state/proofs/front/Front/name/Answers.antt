use Rattle.std.proofs.Common.{◌∙◌, ap}
use Rattle.dk_base.specs.Names.{escaped, unescaped}
use Rattle.dk_base.proofs.Spellings.{unescaped_of_escaped}
use Rattle.dk_state.proofs.Plain.{if_ok_weaker, name_plain}
use Rattle.dk_state.proofs.front.Front.name.Goals as goal

pub returns-clause-read : goal.returns-clause-read
returns-clause-read c name rest none first is =
    let field = c.field.ensures.read (escaped name) rest (name_plain name none) first is in
    if_ok_weaker c.unescape.result (λ own e. (e ∙ ap unescaped field.0 ∙ unescaped_of_escaped name, field.1)) c.unescape.ensures
