use Rattle.std.proofs.Common.{◌≡◌, ◌∷◌, [], Bool, Err, false, List, Ok, subst, sym, true, ℕ}
use Rattle.std.proofs.lemmas.Result.{err_from_is_err_and}
use Rattle.dk_io.specs.Streams.{AddsFront}
use Rattle.dk_io.specs.declared.outside.Stream.TheVariants.{Report}
use Rattle.dk_table.proofs.Fitting.{row_fits_told}
use Rattle.dk_table.proofs.Rowed.{formed_of, row_all, row_none}
use Rattle.dk_table.proofs.Told.{Gathered, cell_refused, row_gathered, row_halted}
use Rattle.dk_table.specs.Streams.{told_steps}
use Rattle.dk_table.specs.Traces.{is_told}
use Rattle.dk_table.specs.Writing.{HaltHasCause, IsTold}
use Rattle.dk_table.specs.Writing.Forms.{row_fits, row_text}
use Rattle.dk_table.specs.Writing.Pushing.{GathersRow}
use Rattle.dk_table.specs.declared.faults.TableWhy.TheVariants.{BadCell}
use Rattle.dk_table.specs.declared.streaming.stops.Stop.TheVariants.{Refused}
use Rattle.dk_table.proofs.streaming.sending.tell_fitting.Goals as goal

pub push_row-requires : goal.push_row-requires
push_row-requires g c =
    let body = c.args.body.now in
    formed_of body.plan.decl body.plan.kinds body.form body.formed

pub returns-then-not-branch : goal.returns-then-not-branch
returns-then-not-branch g c =
    let body = c.args.body.now in
    let row = c.args.rows.now.row in
    let text : List ℕ = c.args.gathered.now.text.items in
    let new : List ℕ = c.push_row.new.gathered.text.items in
    let none = row_none (row_fits body.form row) (row_text body.form row) text new
    (subst (λ (b : Bool). GathersRow (row_fits body.form row) (row_text body.form row) text new b) c.if-not-branch.true c.in_ok-push_row.ensures) in
    let told : is_told body.plan.kinds row ≡ false = row_fits_told body.plan.decl body.plan.kinds body.form row false body.paired body.formed none.0 in
    subst (λ (left : List ℕ). Gathered {A = Unit {0}} body.form (told_steps body.plan.kinds (Ok row ∷ [])) text left (g.S.Sinks.written c.args.sinks.now) (g.S.Sinks.written c.args.sinks.now)
    (g.S.Sinks.faults c.args.sinks.now) (g.S.Sinks.faults c.args.sinks.now) (Err (Refused (record { file = c.file.result; row = c.number.result; why = BadCell })))) (sym none.1)
    (cell_refused (Unit {0}) body.form body.plan.kinds row text _ _ _ told (λ k. record { file = (sym c.file.ensures) k; row = (sym c.number.ensures) k; why = BadCell }))

pub returns-in_err-write_long : goal.returns-in_err-write_long
returns-in_err-write_long g c =
    let body = c.args.body.now in
    let row = c.args.rows.now.row in
    let text : List ℕ = c.args.gathered.now.text.items in
    let new : List ℕ = c.push_row.new.gathered.text.items in
    let all = row_all (row_fits body.form row) (row_text body.form row) text new
    (subst (λ (b : Bool). GathersRow (row_fits body.form row) (row_text body.form row) text new b) c.if-not-branch.false c.in_ok-push_row.ensures) in
    let told : is_told body.plan.kinds row ≡ true = row_fits_told body.plan.decl body.plan.kinds body.form row true body.paired body.formed all.0 in
    let p = err_from_is_err_and c.from_residual-in_err-write_long.result c.from_residual-in_err-write_long.ensures.1 in
    let P : List ℕ → Type 0 = λ due. AddsFront (g.S.Sinks.written c.args.sinks.now) (g.S.Sinks.written c.write_long.new.sinks) Report due
    × HaltHasCause (g.S.Sinks.faults c.args.sinks.now) (g.S.Sinks.faults c.write_long.new.sinks) c.in_err-write_long.field-0.0 in
    rw (p.1, p.2) (row_halted (Unit {0}) c.in_err-write_long.field-0.0 body.form body.plan.kinds row text _ _ _ _ _ told (subst P all.1 c.in_err-write_long.ensures))

pub returns : goal.returns
returns g c =
    let body = c.args.body.now in
    let row = c.args.rows.now.row in
    let text : List ℕ = c.args.gathered.now.text.items in
    let new : List ℕ = c.push_row.new.gathered.text.items in
    let all = row_all (row_fits body.form row) (row_text body.form row) text new
    (subst (λ (b : Bool). GathersRow (row_fits body.form row) (row_text body.form row) text new b) c.if-not-branch.false c.in_ok-push_row.ensures) in
    let told : is_told body.plan.kinds row ≡ true = row_fits_told body.plan.decl body.plan.kinds body.form row true body.paired body.formed all.0 in
    row_gathered {A = Unit {0}} tt body.form body.plan.kinds row text _ _ _ _ _ told
    (subst (λ (due : List ℕ). IsTold due c.write_long.new.gathered.text.items (g.S.Sinks.written c.args.sinks.now) (g.S.Sinks.written c.write_long.new.sinks)
    (g.S.Sinks.faults c.args.sinks.now) (g.S.Sinks.faults c.write_long.new.sinks)) all.1 c.in_ok-write_long.ensures)
