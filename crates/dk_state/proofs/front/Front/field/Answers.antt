use Rattle.std.specs.Prelude.{◌++◌}
use Rattle.std.specs.List.{position_or_len}
use Rattle.std.proofs.Common.{◌∙◌, ap}
use Rattle.dk_state.specs.Reading.{ends_field}
use Rattle.dk_state.proofs.Fronts.{field_taken}
use Rattle.dk_state.proofs.front.Front.field.Goals as goal

pub returns-clause-read : goal.returns-clause-read
returns-clause-read c field rest none first is =
    field_taken ends_field c.pass.new.self c.take-2.result.now c.take-2.new.self field rest c.field_len.result
    (c.pass.ensures.read (field ++ rest) is) none first (c.field_len.ensures.value ∙ ap (position_or_len ends_field) c.take.view_is)
    c.take-2.ensures.front c.take-2.ensures.rest
