use Rattle.std.proofs.Common.{◌≡◌, ◌∙◌, ◌++◌, ap, Err, false, List, map, None, Ok, subst, sym, true, ℕ}
use Rattle.std.proofs.lemmas.Result.{err_from_is_err_and}
use Rattle.dk_decl.specs.declared.decls.PointDecl.{PointDecl}
use Rattle.dk_io.specs.Streams.{with_bytes}
use Rattle.dk_io.specs.declared.outside.Stream.TheVariants.{Report}
use Rattle.dk_write.specs.Texts.{Begins, Declares, block_text, trace_text}
use Rattle.dk_table.proofs.Opened.{head_stops, none_ends, rows_end, stop_recast, unnamed_ends}
use Rattle.dk_table.specs.Columns.Judging.{kind_by}
use Rattle.dk_table.specs.Streams.{Step, first_refusal, rows_before, rows_steps, stream_by, told_steps}
use Rattle.dk_table.specs.Streams.Pieces.{held_rows}
use Rattle.dk_table.specs.Streams.Stops.{Writes}
use Rattle.dk_table.specs.Traces.{are_named, declaration_of}
use Rattle.dk_table.specs.Writing.Forms.{form_of, rows_text}
use Rattle.dk_table.specs.declared.columns.ColumnKind.{ColumnKind}
use Rattle.dk_table.specs.declared.streaming.held.Chunk.{Chunk}
use Rattle.dk_table.specs.declared.streaming.stages.Body.{Body}
use Rattle.dk_table.specs.declared.streaming.stops.Stop.{Stop}
use Rattle.dk_table.proofs.streaming.advancing.begin_body.Goals as goal

pub returns-then-not-branch-clause-written : goal.returns-then-not-branch-clause-written
returns-then-not-branch-clause-written g c =
    let front = c.args.front in
    let point = c.args.task.now.point.now in
    let K : List ColumnKind = map kind_by front.judge.columns in
    let steps : List Step = rows_steps c.args.task.now.command.now.has_header front.names (held_rows c.args.task.now.command.now.separator front.held) in
    let decl : c.in_ok-decl.decl ≡ declaration_of point front.names K =
    c.in_ok-decl.ensures ∙ ap (λ (ns : List (List ℕ)). declaration_of point ns c.as_slice-2.result.now) c.as_slice.ensures ∙ ap (declaration_of point front.names) (c.as_slice-2.ensures ∙ c.in_ok-kinds.ensures) in
    let named : are_named (declaration_of point front.names K) ≡ false = ap are_named (sym decl) ∙ sym c.in_ok-are_named.ensures ∙ c.if-not-branch.true in
    unnamed_ends point front.names K steps (Unit {0}) _ _ named

pub returns-in_err-form-clause-written : goal.returns-in_err-form-clause-written
returns-in_err-form-clause-written g c =
    let front = c.args.front in
    let steps : List Step = rows_steps c.args.task.now.command.now.has_header front.names (held_rows c.args.task.now.command.now.separator front.held) in
    let p = err_from_is_err_and c.from_residual-in_err-form.result c.from_residual-in_err-form.ensures.1 in
    rw (p.1, p.2) (none_ends c.args.task.now.point.now front.names (map kind_by front.judge.columns) steps (Unit {0}) _ _)

pub returns-in_err-write_begun-clause-written : goal.returns-in_err-write_begun-clause-written
returns-in_err-write_begun-clause-written g c =
    let front = c.args.front in
    let point = c.args.task.now.point.now in
    let ks = c.in_ok-kinds.kinds in
    let steps : List Step = rows_steps c.args.task.now.command.now.has_header front.names (held_rows c.args.task.now.command.now.separator front.held) in
    let decl : c.in_ok-decl.decl ≡ declaration_of point front.names ks =
    c.in_ok-decl.ensures ∙ ap (λ (ns : List (List ℕ)). declaration_of point ns c.as_slice-2.result.now) c.as_slice.ensures ∙ ap (declaration_of point front.names) c.as_slice-2.ensures in
    let named : are_named (declaration_of point front.names ks) ≡ true = ap are_named (sym decl) ∙ sym c.in_ok-are_named.ensures ∙ c.if-not-branch.false in
    let form : c.in_ok-form.form ≡ form_of (declaration_of point front.names ks) ks =
    c.in_ok-form.ensures ∙ ap (form_of c.in_ok-decl.decl) c.as_slice-3.ensures ∙ ap (λ (d : PointDecl). form_of d ks) decl in
    let p = err_from_is_err_and c.from_residual-in_err-write_begun.result c.from_residual-in_err-write_begun.ensures.1 in
    let stop : Stop = c.in_err-write_begun.field-0.0 in
    let head : Writes {A = Unit {0}} (block_text Begins ++ block_text (Declares (declaration_of point front.names ks))) None (g.S.Sinks.written c.args.sinks.now) (g.S.Sinks.written c.write_begun.new.sinks) (g.S.Sinks.faults c.args.sinks.now) (g.S.Sinks.faults c.write_begun.new.sinks) (Err stop) =
    subst (λ (d : PointDecl). Writes {A = Unit {0}} (block_text Begins ++ block_text (Declares d)) None (g.S.Sinks.written c.args.sinks.now) (g.S.Sinks.written c.write_begun.new.sinks) (g.S.Sinks.faults c.args.sinks.now) (g.S.Sinks.faults c.write_begun.new.sinks) (Err stop)) decl c.in_err-write_begun.ensures in
    rw (p.1, p.2)
    (stop_recast (Unit {0}) Body stop _ _ _ _ _ _
    (subst (λ (l : List ColumnKind). Writes {A = Unit {0}} (trace_text (stream_by (declaration_of point front.names l) l steps).written) (stream_by (declaration_of point front.names l) l steps).refusal
    (g.S.Sinks.written c.args.sinks.now) (g.S.Sinks.written c.write_begun.new.sinks) (g.S.Sinks.faults c.args.sinks.now) (g.S.Sinks.faults c.write_begun.new.sinks) (Err stop)) c.in_ok-kinds.ensures
    (head_stops point front.names ks steps named c.in_ok-form.form form (Unit {0}) (Unit {0}) stop _ _ _ _ head)))

pub returns-in_err-tell_held-clause-written : goal.returns-in_err-tell_held-clause-written
returns-in_err-tell_held-clause-written g c =
    let front = c.args.front in
    let point = c.args.task.now.point.now in
    let ks = c.in_ok-kinds.kinds in
    let steps : List Step = rows_steps c.args.task.now.command.now.has_header front.names (held_rows c.args.task.now.command.now.separator front.held) in
    let decl : c.in_ok-decl.decl ≡ declaration_of point front.names ks =
    c.in_ok-decl.ensures ∙ ap (λ (ns : List (List ℕ)). declaration_of point ns c.as_slice-2.result.now) c.as_slice.ensures ∙ ap (declaration_of point front.names) c.as_slice-2.ensures in
    let named : are_named (declaration_of point front.names ks) ≡ true = ap are_named (sym decl) ∙ sym c.in_ok-are_named.ensures ∙ c.if-not-branch.false in
    let form : c.in_ok-form.form ≡ form_of (declaration_of point front.names ks) ks =
    c.in_ok-form.ensures ∙ ap (form_of c.in_ok-decl.decl) c.as_slice-3.ensures ∙ ap (λ (d : PointDecl). form_of d ks) decl in
    let p = err_from_is_err_and c.from_residual-in_err-tell_held.result c.from_residual-in_err-tell_held.ensures.1 in
    let stop : Stop = c.in_err-tell_held.field-0.0 in
    let head : g.S.Sinks.written c.write_begun.new.sinks ≡ with_bytes (g.S.Sinks.written c.args.sinks.now) Report (block_text Begins ++ block_text (Declares (declaration_of point front.names ks))) =
    c.in_ok-write_begun.ensures.1 ∙ ap (λ (d : PointDecl). with_bytes (g.S.Sinks.written c.args.sinks.now) Report (block_text Begins ++ block_text (Declares d))) decl in
    rw (p.1, p.2)
    (stop_recast (Unit {0}) Body stop _ _ _ _ _ _
    (subst (λ (l : List ColumnKind). Writes {A = Unit {0}} (trace_text (stream_by (declaration_of point front.names l) l steps).written) (stream_by (declaration_of point front.names l) l steps).refusal
    (g.S.Sinks.written c.args.sinks.now) (g.S.Sinks.written c.tell_held.new.sinks) (g.S.Sinks.faults c.args.sinks.now) (g.S.Sinks.faults c.tell_held.new.sinks) (Err stop)) c.in_ok-kinds.ensures
    (rows_end point front.names ks steps named c.in_ok-form.form form {A = Unit {0}} (Err stop) _ _ _ _ _ _ head c.in_ok-write_begun.ensures.2
    (subst (λ (hs : List Chunk). Writes {A = Unit {0}} (rows_text c.in_ok-form.form (rows_before (told_steps ks (rows_steps c.args.task.now.command.now.has_header front.names (held_rows c.args.task.now.command.now.separator hs)))))
    (first_refusal (told_steps ks (rows_steps c.args.task.now.command.now.has_header front.names (held_rows c.args.task.now.command.now.separator hs)))) (g.S.Sinks.written c.write_begun.new.sinks) (g.S.Sinks.written c.tell_held.new.sinks)
    (g.S.Sinks.faults c.write_begun.new.sinks) (g.S.Sinks.faults c.tell_held.new.sinks) (Err stop)) c.as_slice-4.ensures c.in_err-tell_held.ensures))))

pub returns-clause-written : goal.returns-clause-written
returns-clause-written g c =
    let front = c.args.front in
    let point = c.args.task.now.point.now in
    let ks = c.in_ok-kinds.kinds in
    let steps : List Step = rows_steps c.args.task.now.command.now.has_header front.names (held_rows c.args.task.now.command.now.separator front.held) in
    let decl : c.in_ok-decl.decl ≡ declaration_of point front.names ks =
    c.in_ok-decl.ensures ∙ ap (λ (ns : List (List ℕ)). declaration_of point ns c.as_slice-2.result.now) c.as_slice.ensures ∙ ap (declaration_of point front.names) c.as_slice-2.ensures in
    let named : are_named (declaration_of point front.names ks) ≡ true = ap are_named (sym decl) ∙ sym c.in_ok-are_named.ensures ∙ c.if-not-branch.false in
    let form : c.in_ok-form.form ≡ form_of (declaration_of point front.names ks) ks =
    c.in_ok-form.ensures ∙ ap (form_of c.in_ok-decl.decl) c.as_slice-3.ensures ∙ ap (λ (d : PointDecl). form_of d ks) decl in
    let head : g.S.Sinks.written c.write_begun.new.sinks ≡ with_bytes (g.S.Sinks.written c.args.sinks.now) Report (block_text Begins ++ block_text (Declares (declaration_of point front.names ks))) =
    c.in_ok-write_begun.ensures.1 ∙ ap (λ (d : PointDecl). with_bytes (g.S.Sinks.written c.args.sinks.now) Report (block_text Begins ++ block_text (Declares d))) decl in
    subst (λ (l : List ColumnKind). Writes {A = Unit {0}} (trace_text (stream_by (declaration_of point front.names l) l steps).written) (stream_by (declaration_of point front.names l) l steps).refusal
    (g.S.Sinks.written c.args.sinks.now) (g.S.Sinks.written c.tell_held.new.sinks) (g.S.Sinks.faults c.args.sinks.now) (g.S.Sinks.faults c.tell_held.new.sinks) (Ok tt)) c.in_ok-kinds.ensures
    (rows_end point front.names ks steps named c.in_ok-form.form form {A = Unit {0}} (Ok tt) _ _ _ _ _ _ head c.in_ok-write_begun.ensures.2
    (subst (λ (hs : List Chunk). Writes {A = Unit {0}} (rows_text c.in_ok-form.form (rows_before (told_steps ks (rows_steps c.args.task.now.command.now.has_header front.names (held_rows c.args.task.now.command.now.separator hs)))))
    (first_refusal (told_steps ks (rows_steps c.args.task.now.command.now.has_header front.names (held_rows c.args.task.now.command.now.separator hs)))) (g.S.Sinks.written c.write_begun.new.sinks) (g.S.Sinks.written c.tell_held.new.sinks)
    (g.S.Sinks.faults c.write_begun.new.sinks) (g.S.Sinks.faults c.tell_held.new.sinks) (Ok tt)) c.as_slice-4.ensures c.in_ok-tell_held.ensures))
