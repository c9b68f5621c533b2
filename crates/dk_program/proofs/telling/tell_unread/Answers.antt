use Rattle.std.proofs.Common.{◌∙◌}
use Rattle.dk_program.proofs.Saying.{unread_ends}
use Rattle.dk_program.specs.Messages.{unread_line}
use Rattle.dk_program.proofs.telling.tell_unread.Goals as goal

pub returns-in-Ok : goal.returns-in-Ok
returns-in-Ok g c = unread_ends c.as_bytes.result.now (unread_line c.args.name.now) _ _ _ _ c.end_with.result (c.as_bytes.ensures.value ∙ c.in-Ok.ensures) c.end_with.ensures
