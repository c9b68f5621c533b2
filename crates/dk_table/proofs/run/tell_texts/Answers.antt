use Rattle.std.proofs.Common.{◌≡◌, ◌∙◌, ap, List, ℕ, subst, sym}
use Rattle.dk_driver.specs.Files.{file_name_at}
use Rattle.dk_events.specs.declared.ended.Ended.TheVariants.{Refused}
use Rattle.dk_io.specs.declared.outside.Stream.TheVariants.{Messages}
use Rattle.dk_program.specs.Ending.{EndsWith}
use Rattle.dk_table.proofs.Saying.{refusal_ends, table_ends}
use Rattle.dk_table.specs.Refusals.Messages.{refusal_line}
use Rattle.dk_table.specs.Traces.{plan_writes, trace_at}
use Rattle.dk_table.proofs.run.tell_texts.Goals as goal

pub returns-in-Ok : goal.returns-in-Ok
returns-in-Ok g c =
    let named : c.name_at.result.now ≡ file_name_at c.args.arguments.now.files 0 =
    c.name_at.ensures ∙ ap (λ (l : List (List ℕ)). file_name_at l 0) c.as_slice-names.ensures in
    let a = c.args.arguments.now in
    table_ends a c.args.texts.now c.name_at.result.now (plan_writes a.command c.in-Ok.plan c.args.texts.now) _ _ _ _ c.tell_trace.result named
    (ap (λ (p : List ℕ). trace_at a.command p c.args.texts.now) (sym c.point_of.ensures) ∙ c.in-Ok.ensures.answers) c.tell_trace.ensures

pub returns-in-Err-Refused : goal.returns-in-Err-Refused
returns-in-Err-Refused g c =
    let named : c.name_at.result.now ≡ file_name_at c.args.arguments.now.files 0 =
    c.name_at.ensures ∙ ap (λ (l : List (List ℕ)). file_name_at l 0) c.as_slice-names.ensures in
    let a = c.args.arguments.now in
    let r = c.in-Err-Refused.refusal in
    refusal_ends a c.args.texts.now c.name_at.result.now r _ _ _ _ c.tell_refused.result named
    (ap (λ (p : List ℕ). trace_at a.command p c.args.texts.now) (sym c.point_of.ensures) ∙ (rw c.in-Err-Refused.field-0-is at c.in-Err-Refused.ensures.answers))
    (subst (λ (l : List (List ℕ)). EndsWith Refused Messages (refusal_line (file_name_at l r.file) r.row r.why) (g.S.Sinks.written c.args.sinks.now) (g.S.Sinks.written c.tell_refused.new.sinks) (g.S.Sinks.faults c.args.sinks.now) (g.S.Sinks.faults c.tell_refused.new.sinks) c.tell_refused.result)
    c.as_slice-names.ensures (rw c.in-Err-Refused.field-0-is at c.tell_refused.ensures))
