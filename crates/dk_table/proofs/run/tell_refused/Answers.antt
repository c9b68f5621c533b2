use Rattle.std.proofs.Common.{◌∙◌, ap, List, ℕ}
use Rattle.dk_driver.specs.Files.{file_name_at}
use Rattle.dk_program.proofs.Saying.{refused_ends}
use Rattle.dk_table.specs.Refusals.Messages.{refusal_line}
use Rattle.dk_table.proofs.run.tell_refused.Goals as goal

pub returns-in-Ok : goal.returns-in-Ok
returns-in-Ok g c =
    refused_ends c.as_bytes.result.now (refusal_line (file_name_at c.args.names.now c.args.refusal.file) c.args.refusal.row c.args.refusal.why) _ _ _ _ c.end_with.result
    (c.as_bytes.ensures.value ∙ c.in-Ok.ensures ∙ ap (λ (l : List ℕ). refusal_line l c.args.refusal.row c.args.refusal.why) c.name_at.ensures) c.end_with.ensures
