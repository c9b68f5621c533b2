use Rattle.std.proofs.Common.{◌∙◌}
use Rattle.dk_program.proofs.Saying.{refused_ends}
use Rattle.dk_program.specs.Messages.{fault_line}
use Rattle.dk_program.proofs.telling.tell_refused.Goals as goal

pub returns-in-Ok : goal.returns-in-Ok
returns-in-Ok g c = refused_ends c.as_bytes.result.now (fault_line c.args.name.now c.args.line c.args.why) _ _ _ _ c.end_with.result (c.as_bytes.ensures.value ∙ c.in-Ok.ensures) c.end_with.ensures
