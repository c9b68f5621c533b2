use Rattle.std.proofs.Common.{◌≡◌, ◌<◌, ◌+◌, ◌++◌, ◌∙◌, [], ap, arith, drop, is_some, false, length, List, option_map, sym, true}
use Rattle.dk_table.proofs.Files.{bodies_more}
use Rattle.dk_table.proofs.Taking.{found_here, found_later}
use Rattle.dk_table.specs.Tables.{bodies_in, body_in}
use Rattle.dk_table.specs.Tables.PlacedRows.{Placed}
use Rattle.dk_table.specs.Traces.{bad_cell, untold_row}
use Rattle.dk_table.proofs.writing.traces.untold_in.Goals as goal

pub returns-then-is_some : goal.returns-then-is_some
returns-then-is_some c =
    let kinds = c.args.kinds.now in
    let i = c.loop-file.file in
    let lt : i < length c.args.files.now = omega arith in
    let own : List Placed = c.in_ok-rows.rows.left in
    let rest : List Placed = bodies_in c.args.command.now (i + 1) (drop (i + 1) c.args.files.now) in
    let is : own ≡ body_in c.args.command.now i c.index-files-file.result = c.in_ok-rows.ensures in
    let some : is_some (option_map bad_cell (untold_row kinds own)) ≡ true = ap is_some (sym c.in_ok-refusal.ensures) ∙ sym c.is_some.ensures ∙ c.if-is_some.true in
    c.in_ok-refusal.ensures
    ∙ ap (option_map bad_cell)
    (found_here kinds own rest some
    ∙ ap (λ (l : List Placed). untold_row kinds (l ++ rest)) is
    ∙ ap (untold_row kinds) (sym (bodies_more c.args.command.now [] c.args.files.now i c.index-files-file.result lt c.index-files-file.is))
    ∙ c.loop-file.invariant)

pub loop-file-preserved : goal.loop-file-preserved
loop-file-preserved c =
    let kinds = c.args.kinds.now in
    let i = c.loop-file.file in
    let lt : i < length c.args.files.now = omega arith in
    let own : List Placed = c.in_ok-rows.rows.left in
    let rest : List Placed = bodies_in c.args.command.now (i + 1) (drop (i + 1) c.args.files.now) in
    let is : own ≡ body_in c.args.command.now i c.index-files-file.result = c.in_ok-rows.ensures in
    let none : is_some (option_map bad_cell (untold_row kinds own)) ≡ false = ap is_some (sym c.in_ok-refusal.ensures) ∙ sym c.is_some.ensures ∙ c.if-is_some.false in
    sym (found_later kinds own rest none)
    ∙ ap (λ (l : List Placed). untold_row kinds (l ++ rest)) is
    ∙ ap (untold_row kinds) (sym (bodies_more c.args.command.now [] c.args.files.now i c.index-files-file.result lt c.index-files-file.is))
    ∙ c.loop-file.invariant
