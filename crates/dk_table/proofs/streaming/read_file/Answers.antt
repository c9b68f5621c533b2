use Rattle.std.proofs.Common.{◌≡◌, ◌≤◌, ◌∙◌, ap, arith, Err, List, Ok, sym, ℕ}
use Rattle.dk_driver.specs.Reads.{held_file_at}
use Rattle.dk_io.specs.Outside.{HeldFile, Rose}
use Rattle.dk_table.specs.Tables.Contents.{helds_of}
use Rattle.dk_table.proofs.Contents.{held_named}
use Rattle.dk_table.proofs.Gathering.{rose_before}
use Rattle.dk_table.proofs.Onward.{begin_file, opened_at, unopened_says}
use Rattle.dk_table.proofs.streaming.read_file.Goals as goal

pub returns-in-Err-clause-goes : goal.returns-in-Err-clause-goes
returns-in-Err-clause-goes g c contents base start since le b =
    let names : List (List ℕ) = c.args.names.now in
    let file : List ℕ → HeldFile = g.I.Inputs.file c.args.inputs.now in
    let before : ℕ = g.I.Inputs.faults c.args.inputs.now in
    let after : ℕ = g.I.Inputs.faults c.open.new.inputs in
    let same : file c.name_at.result.now ≡ held_file_at (helds_of names file) c.args.file = ap file c.name_at.ensures ∙ sym (held_named names file c.args.file c.requires) in
    let opened = opened_at _ _ (g.I.Inputs.rest c.open.new.inputs) (Rose since after) (Rose before after) (Err c.in-Err.fault) same (rose_before since before after le) c.in-Err.ensures.opened in
    rw c.unopened.ensures
    (unopened_says _ _ _ names file _ contents c.args.stage base _ start _ c.requires b c.in-Err.fault (g.I.Inputs.rest c.open.new.inputs) (Rose since after) opened)

pub returns-in-Ok-clause-goes : goal.returns-in-Ok-clause-goes
returns-in-Ok-clause-goes g c = rw (← c.in-Ok.ensures.files) (λ contents base start since le b.
    let names : List (List ℕ) = c.args.names.now in
    let file : List ℕ → HeldFile = g.I.Inputs.file c.open.new.inputs in
    let before : ℕ = g.I.Inputs.faults c.args.inputs.now in
    let after : ℕ = g.I.Inputs.faults c.open.new.inputs in
    let since_before : since ≤ before = le in
    let later : before ≤ after = c.in-Ok.ensures.later in
    let le_after : since ≤ after = omega arith in
    let same : g.I.Inputs.file c.args.inputs.now c.name_at.result.now ≡ held_file_at (helds_of names file) c.args.file =
    ap (λ (f : List ℕ → HeldFile). f c.name_at.result.now) (sym c.in-Ok.ensures.files) ∙ ap file c.name_at.ensures ∙ sym (held_named names file c.args.file c.requires) in
    let opened = opened_at _ _ (g.I.Inputs.rest c.open.new.inputs) (Rose since after) (Rose before after) (Ok c.in-Ok.piece) same (rose_before since before after le) c.in-Ok.ensures.opened in
    c.take_file.ensures.goes names contents base start since le_after
    (begin_file _ _ _ names file _ contents c.args.stage base _ start _ c.requires b c.in-Ok.piece.filled c.in-Ok.piece.text (g.I.Inputs.rest c.open.new.inputs) (Rose since after) opened))
