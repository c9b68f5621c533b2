use Rattle.std.proofs.Common.{◌<◌, arith, length, refl}
use Rattle.std.proofs.lemmas.Result.{err_from_is_err_and}
use Rattle.dk_table.proofs.Files.{file_taken, files_fail}
use Rattle.dk_table.proofs.tables.take_files.Goals as goal

pub returns-in_err-take_file : goal.returns-in_err-take_file
returns-in_err-take_file c =
    let p = err_from_is_err_and c.from_residual.result c.from_residual.ensures.1 in
    let lt : c.loop-file.file < length c.args.files.now = omega arith in
    rw (p.1, p.2)
    (files_fail c.args.command.now c.args.names.now c.args.files.now c.loop-file.file c.index-files-file.result lt c.index-files-file.is {A = Unit {0}} {B = Unit {0}}
    (λ u. c.take_file.new.judge) (λ u. c.loop-file.judge) c.args.judge.now c.loop-file.judge c.index-files-file.result c.in_err-take_file.field-0.0 refl c.in_err-take_file.ensures c.loop-file.invariant)

pub loop-file-preserved : goal.loop-file-preserved
loop-file-preserved c =
    let lt : c.loop-file.file < length c.args.files.now = omega arith in
    file_taken c.args.command.now c.args.names.now c.args.files.now c.loop-file.file c.index-files-file.result lt c.index-files-file.is c.args.judge.now c.loop-file.judge c.take_file.new.judge
    c.in_ok-take_file.ensures c.loop-file.invariant
