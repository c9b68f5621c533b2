use Rattle.std.proofs.Common.{◌≡◌, ◌++◌, ap, arith, length, List, None, Option, true, ℕ}
use Rattle.std.proofs.lemmas.Result.{err_from_is_err_and}
use Rattle.dk_table.proofs.Moving.{moved}
use Rattle.dk_table.proofs.Pieces.{cut_here, told_as}
use Rattle.dk_table.proofs.Sent.{gathered_next, gathered_stop}
use Rattle.dk_table.proofs.Told.{behind, none_ahead, parts_told, refused_ahead, still_refused}
use Rattle.dk_table.specs.Streams.{Step, first_refusal, row_steps, rows_before, rows_steps, told_steps}
use Rattle.dk_table.specs.Tables.Cursors.{Moves}
use Rattle.dk_table.specs.Writing.Forms.{rows_text}
use Rattle.dk_table.specs.declared.faults.Refusal.{Refusal}
use Rattle.dk_table.proofs.streaming.sending.tell_left.Goals as goal

pub returns-in_err-next : goal.returns-in_err-next
returns-in_err-next g c =
    let p = err_from_is_err_and c.from_residual.result c.from_residual.ensures.1 in
    rw (p.1, p.2) (record { told = cut_here _ _ _ _ _ _ c.rows.invariant.told; counted = tt })

pub overflow_add-count : goal.overflow_add-count
overflow_add-count g c =
    let m : Moves c.rows.rows.left c.next.new.self true = rw c.if-branch.true at c.in_ok-next.ensures in
    omega (arith, ap length (moved c.rows.rows.left c.next.new.self m), c.rows.invariant.counted, c.requires)

pub rows-preserved : goal.rows-preserved
rows-preserved g c =
    let body = c.args.body.now in
    let header = c.args.has_header in
    let after = c.next.new.self in
    let m : Moves c.rows.rows.left after true = rw c.if-branch.true at c.in_ok-next.ensures in
    let all : List Step = rows_steps header body.names c.rows.rows.left in
    let own : List Step = row_steps header body.names after.row in
    let rest : List Step = rows_steps header body.names after.left in
    let is : all ≡ own ++ rest = ap (rows_steps header body.names) (moved c.rows.rows.left after m) in
    let text = c.rows.gathered.text.items in
    let kinds = body.plan.kinds in
    let more : List ℕ = behind body.form kinds all own rest is text in
    let none : first_refusal (told_steps kinds own) ≡ None = c.in_ok-tell_next.ensures.0 in
    record {
      told =
          told_as _ _ _ _ _ _ _ (ap (λ (l : List ℕ). c.tell_next.new.gathered.text.items ++ l) (none_ahead body.form kinds all own rest is text none))
          (gathered_next _ text (rows_text body.form (rows_before (told_steps kinds own))) more (rows_text body.form (rows_before (told_steps kinds all))) (first_refusal (told_steps kinds own)) None
          _ _ _ _ _ _ (parts_told body.form kinds all own rest is text) c.rows.invariant.told c.tell_next.new.gathered.text.items c.in_ok-tell_next.ensures.1);
      refused = still_refused body.form kinds all own rest is text (first_refusal (told_steps kinds (rows_steps header body.names c.args.rows.now.left))) c.rows.invariant.refused none;
      counted = omega (arith, ap length (moved c.rows.rows.left after m), c.rows.invariant.counted);
    }

pub returns-in_err-tell_next : goal.returns-in_err-tell_next
returns-in_err-tell_next g c =
    let body = c.args.body.now in
    let header = c.args.has_header in
    let after = c.next.new.self in
    let m : Moves c.rows.rows.left after true = rw c.if-branch.true at c.in_ok-next.ensures in
    let all : List Step = rows_steps header body.names c.rows.rows.left in
    let own : List Step = row_steps header body.names after.row in
    let rest : List Step = rows_steps header body.names after.left in
    let is : all ≡ own ++ rest = ap (rows_steps header body.names) (moved c.rows.rows.left after m) in
    let text = c.rows.gathered.text.items in
    let kinds = body.plan.kinds in
    let whole : Option Refusal = first_refusal (told_steps kinds (rows_steps header body.names c.args.rows.now.left)) in
    let p = err_from_is_err_and c.from_residual-in_err-tell_next.result c.from_residual-in_err-tell_next.ensures.1 in
    rw (p.1, p.2)
    (record {
      told = gathered_stop _ text (rows_text body.form (rows_before (told_steps kinds own))) (behind body.form kinds all own rest is text) (rows_text body.form (rows_before (told_steps kinds all)))
          (first_refusal (told_steps kinds own)) whole _ _ _ _ _ _ (parts_told body.form kinds all own rest is text) c.rows.invariant.told (Unit {0}) ℕ c.in_err-tell_next.field-0.0 _
          (refused_ahead body.form kinds all own rest is text whole c.rows.invariant.refused) c.in_err-tell_next.ensures;
      counted = tt;
    })
