use Rattle.std.proofs.Common.{◌≡◌, ◌++◌, ◌∙◌, ap, List, subst, ℕ}
use Rattle.std.proofs.lemmas.Result.{err_from_is_err_and}
use Rattle.dk_io.specs.Streams.{AddsFront}
use Rattle.dk_io.specs.declared.outside.Stream.TheVariants.{Report}
use Rattle.dk_write.specs.Texts.{trace_text}
use Rattle.dk_table.proofs.Fitting.{told_fit}
use Rattle.dk_table.proofs.Formed.{plan_told}
use Rattle.dk_table.proofs.Pieces.{wrote_last}
use Rattle.dk_table.proofs.Rowed.{formed_of}
use Rattle.dk_table.specs.Tables.{bodies_in}
use Rattle.dk_table.specs.Tables.PlacedRows.{Placed}
use Rattle.dk_table.specs.Traces.{plan_writes}
use Rattle.dk_table.specs.Writing.{HaltHasCause, TellsFront}
use Rattle.dk_table.specs.Writing.Forms.{all_fit, form_of, rows_text}
use Rattle.dk_table.specs.declared.writing.Form.{Form}
use Rattle.dk_table.proofs.writing.write_trace.Goals as goal

pub tell_files-requires : goal.tell_files-requires
tell_files-requires g c =
    let plan = c.args.plan.now in
    let bodies : List Placed = bodies_in c.args.command.now 0 c.args.files.now in
    let is : c.in_ok-form.form ≡ form_of plan.decl plan.kinds = c.in_ok-form.ensures ∙ ap (form_of plan.decl) c.as_slice.ensures in
    record {
      formed = formed_of plan.decl plan.kinds c.in_ok-form.form is;
      fit = ap (λ (f : Form). all_fit f bodies) is ∙ told_fit plan.decl plan.kinds bodies c.requires.told;
    }

pub returns-in_err-tell_files : goal.returns-in_err-tell_files
returns-in_err-tell_files g c =
    let command = c.args.command.now in
    let plan = c.args.plan.now in
    let files = c.args.files.now in
    let bodies : List Placed = bodies_in command 0 files in
    let text = c.in_ok-gathered.gathered.text.items in
    let due : text ++ rows_text c.in_ok-form.form bodies ≡ trace_text (plan_writes command plan files) =
    ap (λ (f : Form). text ++ rows_text f bodies) (c.in_ok-form.ensures ∙ ap (form_of plan.decl) c.as_slice.ensures) ∙ plan_told command plan files text c.requires.plan c.in_ok-gathered.ensures in
    let p = err_from_is_err_and c.from_residual-in_err-tell_files.result c.from_residual-in_err-tell_files.ensures.1 in
    let P : List ℕ → Type 0 = λ whole. AddsFront (g.S.Sinks.written c.args.sinks.now) (g.S.Sinks.written c.tell_files.new.sinks) Report whole
    × HaltHasCause (g.S.Sinks.faults c.args.sinks.now) (g.S.Sinks.faults c.tell_files.new.sinks) c.in_err-tell_files.field-0.0 in
    rw (p.1, p.2) (subst P due c.in_err-tell_files.ensures)

pub returns : goal.returns
returns g c =
    let command = c.args.command.now in
    let plan = c.args.plan.now in
    let files = c.args.files.now in
    let bodies : List Placed = bodies_in command 0 files in
    let text = c.in_ok-gathered.gathered.text.items in
    let due : text ++ rows_text c.in_ok-form.form bodies ≡ trace_text (plan_writes command plan files) =
    ap (λ (f : Form). text ++ rows_text f bodies) (c.in_ok-form.ensures ∙ ap (form_of plan.decl) c.as_slice.ensures) ∙ plan_told command plan files text c.requires.plan c.in_ok-gathered.ensures in
    let P : List ℕ → Type 0 = λ whole. TellsFront whole (g.S.Sinks.written c.args.sinks.now) (g.S.Sinks.written c.write_gathered.new.sinks) (g.S.Sinks.faults c.args.sinks.now) (g.S.Sinks.faults c.write_gathered.new.sinks) c.write_gathered.result in
    subst P due (wrote_last c.write_gathered.result _ _ _ _ _ _ _ _ _ c.in_ok-tell_files.ensures c.write_gathered.ensures.told c.write_gathered.ensures.none)
