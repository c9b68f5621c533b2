use Rattle.dk_table.proofs.Judged.{kinds_taken}
use Rattle.dk_table.proofs.writing.traces.kinds_in.Goals as goal

pub returns : goal.returns
returns c =
    kinds_taken c.args.command.now c.args.names.now c.args.files.now c.in_ok-judge.judge c.take_files.new.judge c.in_ok-kinds.field-0 c.in_ok-judge.ensures c.in_ok-take_files.ensures c.in_ok-kinds.ensures
