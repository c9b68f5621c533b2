use Rattle.std.proofs.Common.{◌≡◌, ◌∙◌, ◌++◌, ap, Err, List, None, Option, Some, subst, sym, ℕ}
use Rattle.std.proofs.lemmas.Result.{err_from_is_err_and}
use Rattle.dk_table.proofs.Sent.{halt_last, sent_last}
use Rattle.dk_table.specs.Streams.{first_refusal, rows_before, rows_steps, told_steps}
use Rattle.dk_table.specs.Streams.Pieces.{chunk_rows}
use Rattle.dk_table.specs.Streams.Stops.{Gathers}
use Rattle.dk_table.specs.Tables.PlacedRows.{Placed}
use Rattle.dk_table.specs.Writing.{IsTold}
use Rattle.dk_table.specs.Writing.Forms.{rows_text}
use Rattle.dk_table.specs.declared.faults.Refusal.{Refusal}
use Rattle.dk_table.specs.declared.streaming.stops.Stop.{Stop}
use Rattle.dk_table.specs.declared.streaming.stops.Stop.TheVariants.{Refused}
use Rattle.dk_table.proofs.streaming.sending.tell_chunk.Goals as goal

pub returns-in_err-write_gathered-in-Ok-clause-told : goal.returns-in_err-write_gathered-in-Ok-clause-told
returns-in_err-write_gathered-in-Ok-clause-told g c =
    let body = c.args.body.now in
    let W : List Placed → List ℕ = λ l. rows_text body.form (rows_before (told_steps body.plan.kinds (rows_steps c.args.command.now.has_header body.names l))) in
    let R : List Placed → Option Refusal = λ l. first_refusal (told_steps body.plan.kinds (rows_steps c.args.command.now.has_header body.names l)) in
    let own : List Placed = chunk_rows c.args.command.now.separator c.args.chunk.now in
    let due : c.new-gathered.result.text.items ++ W c.in_ok-rows.rows.left ≡ W own =
    ap (λ (t : List ℕ). t ++ W c.in_ok-rows.rows.left) c.new-gathered.ensures ∙ ap W c.in_ok-rows.ensures.left in
    let left = c.tell_left-told.new.gathered.text.items in
    let so_far : IsTold (W own) left (g.S.Sinks.written c.args.sinks.now) (g.S.Sinks.written c.tell_left-told.new.sinks) (g.S.Sinks.faults c.args.sinks.now) (g.S.Sinks.faults c.tell_left-told.new.sinks) =
    subst (λ (d : List ℕ). IsTold d left (g.S.Sinks.written c.args.sinks.now) (g.S.Sinks.written c.tell_left-told.new.sinks) (g.S.Sinks.faults c.args.sinks.now) (g.S.Sinks.faults c.tell_left-told.new.sinks)) due c.in-Ok.ensures.told.1 in
    let p = err_from_is_err_and c.from_residual-in_err-write_gathered-in-Ok.result c.from_residual-in_err-write_gathered-in-Ok.ensures.1 in
    rw (p.1, p.2)
    (halt_last ℕ c.in_err-write_gathered-in-Ok.field-0.0 (W own) left (R own) (g.S.Sinks.written c.args.sinks.now) (g.S.Sinks.written c.tell_left-told.new.sinks) (g.S.Sinks.written c.write_gathered.new.sinks)
    (g.S.Sinks.faults c.args.sinks.now) (g.S.Sinks.faults c.tell_left-told.new.sinks) (g.S.Sinks.faults c.write_gathered.new.sinks) so_far c.in_err-write_gathered-in-Ok.ensures.told)

pub returns-in-Ok-clause-told : goal.returns-in-Ok-clause-told
returns-in-Ok-clause-told g c =
    let body = c.args.body.now in
    let W : List Placed → List ℕ = λ l. rows_text body.form (rows_before (told_steps body.plan.kinds (rows_steps c.args.command.now.has_header body.names l))) in
    let R : List Placed → Option Refusal = λ l. first_refusal (told_steps body.plan.kinds (rows_steps c.args.command.now.has_header body.names l)) in
    let own : List Placed = chunk_rows c.args.command.now.separator c.args.chunk.now in
    let due : c.new-gathered.result.text.items ++ W c.in_ok-rows.rows.left ≡ W own =
    ap (λ (t : List ℕ). t ++ W c.in_ok-rows.rows.left) c.new-gathered.ensures ∙ ap W c.in_ok-rows.ensures.left in
    let left = c.tell_left-told.new.gathered.text.items in
    let so_far : IsTold (W own) left (g.S.Sinks.written c.args.sinks.now) (g.S.Sinks.written c.tell_left-told.new.sinks) (g.S.Sinks.faults c.args.sinks.now) (g.S.Sinks.faults c.tell_left-told.new.sinks) =
    subst (λ (d : List ℕ). IsTold d left (g.S.Sinks.written c.args.sinks.now) (g.S.Sinks.written c.tell_left-told.new.sinks) (g.S.Sinks.faults c.args.sinks.now) (g.S.Sinks.faults c.tell_left-told.new.sinks)) due c.in-Ok.ensures.told.1 in
    let all = sent_last (W own) left c.write_gathered.new.gathered.text.items (g.S.Sinks.written c.args.sinks.now) (g.S.Sinks.written c.tell_left-told.new.sinks) (g.S.Sinks.written c.write_gathered.new.sinks)
    (g.S.Sinks.faults c.args.sinks.now) (g.S.Sinks.faults c.tell_left-told.new.sinks) (g.S.Sinks.faults c.write_gathered.new.sinks) so_far c.in_ok-write_gathered-in-Ok.ensures.told c.in_ok-write_gathered-in-Ok.ensures.none in
    let refused : R own ≡ None = ap R (sym c.in_ok-rows.ensures.left) ∙ c.in-Ok.ensures.told.0 in
    (refused, all.0, all.1)

pub returns-in_err-write_gathered-in-Refused-clause-told : goal.returns-in_err-write_gathered-in-Refused-clause-told
returns-in_err-write_gathered-in-Refused-clause-told g c =
    let body = c.args.body.now in
    let W : List Placed → List ℕ = λ l. rows_text body.form (rows_before (told_steps body.plan.kinds (rows_steps c.args.command.now.has_header body.names l))) in
    let R : List Placed → Option Refusal = λ l. first_refusal (told_steps body.plan.kinds (rows_steps c.args.command.now.has_header body.names l)) in
    let own : List Placed = chunk_rows c.args.command.now.separator c.args.chunk.now in
    let due : c.new-gathered.result.text.items ++ W c.in_ok-rows.rows.left ≡ W own =
    ap (λ (t : List ℕ). t ++ W c.in_ok-rows.rows.left) c.new-gathered.ensures ∙ ap W c.in_ok-rows.ensures.left in
    let left = c.tell_left-told.new.gathered.text.items in
    let stopped : Gathers {A = ℕ} (c.new-gathered.result.text.items ++ W c.in_ok-rows.rows.left) (R c.in_ok-rows.rows.left) left (g.S.Sinks.written c.args.sinks.now) (g.S.Sinks.written c.tell_left-told.new.sinks) (g.S.Sinks.faults c.args.sinks.now) (g.S.Sinks.faults c.tell_left-told.new.sinks) (Err (Refused c.in-Refused.refusal)) =
    subst (λ (stop : Stop). Gathers {A = ℕ} (c.new-gathered.result.text.items ++ W c.in_ok-rows.rows.left) (R c.in_ok-rows.rows.left) left (g.S.Sinks.written c.args.sinks.now) (g.S.Sinks.written c.tell_left-told.new.sinks) (g.S.Sinks.faults c.args.sinks.now) (g.S.Sinks.faults c.tell_left-told.new.sinks) (Err stop)) c.in-Refused.is c.in-Err.ensures.told in
    let so_far : IsTold (W own) left (g.S.Sinks.written c.args.sinks.now) (g.S.Sinks.written c.tell_left-told.new.sinks) (g.S.Sinks.faults c.args.sinks.now) (g.S.Sinks.faults c.tell_left-told.new.sinks) =
    subst (λ (d : List ℕ). IsTold d left (g.S.Sinks.written c.args.sinks.now) (g.S.Sinks.written c.tell_left-told.new.sinks) (g.S.Sinks.faults c.args.sinks.now) (g.S.Sinks.faults c.tell_left-told.new.sinks)) due stopped.1 in
    let p = err_from_is_err_and c.from_residual-in_err-write_gathered-in-Refused.result c.from_residual-in_err-write_gathered-in-Refused.ensures.1 in
    rw (p.1, p.2)
    (halt_last ℕ c.in_err-write_gathered-in-Refused.field-0.0 (W own) left (R own) (g.S.Sinks.written c.args.sinks.now) (g.S.Sinks.written c.tell_left-told.new.sinks) (g.S.Sinks.written c.write_gathered-in-Refused.new.sinks)
    (g.S.Sinks.faults c.args.sinks.now) (g.S.Sinks.faults c.tell_left-told.new.sinks) (g.S.Sinks.faults c.write_gathered-in-Refused.new.sinks) so_far c.in_err-write_gathered-in-Refused.ensures.told)

pub returns-in-Refused-clause-told : goal.returns-in-Refused-clause-told
returns-in-Refused-clause-told g c =
    let body = c.args.body.now in
    let W : List Placed → List ℕ = λ l. rows_text body.form (rows_before (told_steps body.plan.kinds (rows_steps c.args.command.now.has_header body.names l))) in
    let R : List Placed → Option Refusal = λ l. first_refusal (told_steps body.plan.kinds (rows_steps c.args.command.now.has_header body.names l)) in
    let own : List Placed = chunk_rows c.args.command.now.separator c.args.chunk.now in
    let due : c.new-gathered.result.text.items ++ W c.in_ok-rows.rows.left ≡ W own =
    ap (λ (t : List ℕ). t ++ W c.in_ok-rows.rows.left) c.new-gathered.ensures ∙ ap W c.in_ok-rows.ensures.left in
    let left = c.tell_left-told.new.gathered.text.items in
    let stopped : Gathers {A = ℕ} (c.new-gathered.result.text.items ++ W c.in_ok-rows.rows.left) (R c.in_ok-rows.rows.left) left (g.S.Sinks.written c.args.sinks.now) (g.S.Sinks.written c.tell_left-told.new.sinks) (g.S.Sinks.faults c.args.sinks.now) (g.S.Sinks.faults c.tell_left-told.new.sinks) (Err (Refused c.in-Refused.refusal)) =
    subst (λ (stop : Stop). Gathers {A = ℕ} (c.new-gathered.result.text.items ++ W c.in_ok-rows.rows.left) (R c.in_ok-rows.rows.left) left (g.S.Sinks.written c.args.sinks.now) (g.S.Sinks.written c.tell_left-told.new.sinks) (g.S.Sinks.faults c.args.sinks.now) (g.S.Sinks.faults c.tell_left-told.new.sinks) (Err stop)) c.in-Refused.is c.in-Err.ensures.told in
    let so_far : IsTold (W own) left (g.S.Sinks.written c.args.sinks.now) (g.S.Sinks.written c.tell_left-told.new.sinks) (g.S.Sinks.faults c.args.sinks.now) (g.S.Sinks.faults c.tell_left-told.new.sinks) =
    subst (λ (d : List ℕ). IsTold d left (g.S.Sinks.written c.args.sinks.now) (g.S.Sinks.written c.tell_left-told.new.sinks) (g.S.Sinks.faults c.args.sinks.now) (g.S.Sinks.faults c.tell_left-told.new.sinks)) due stopped.1 in
    let all = sent_last (W own) left c.write_gathered-in-Refused.new.gathered.text.items (g.S.Sinks.written c.args.sinks.now) (g.S.Sinks.written c.tell_left-told.new.sinks) (g.S.Sinks.written c.write_gathered-in-Refused.new.sinks)
    (g.S.Sinks.faults c.args.sinks.now) (g.S.Sinks.faults c.tell_left-told.new.sinks) (g.S.Sinks.faults c.write_gathered-in-Refused.new.sinks) so_far c.in_ok-write_gathered-in-Refused.ensures.told c.in_ok-write_gathered-in-Refused.ensures.none in
    let refused : R own ≡ Some c.in-Refused.refusal = ap R (sym c.in_ok-rows.ensures.left) ∙ stopped.0 in
    (refused, all.0, all.1)
