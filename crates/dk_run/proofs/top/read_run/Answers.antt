use Rattle.std.proofs.Common.{rules, [], ◌++◌, ◌∙◌, sym}
use Rattle.dk_io.specs.declared.outside.Stream.TheVariants.{Report}
use Rattle.dk_run.proofs.Placing.{nothing_short}
use Rattle.dk_run.proofs.Saying.{run_gives}
use Rattle.dk_run.proofs.Writing.{added_nothing, written_behind}
use Rattle.dk_run.proofs.top.read_run.Goals as goal

pub returns-clause-gives : goal.returns-clause-gives
returns-clause-gives g c =
    let first = c.in_ok-session.ensures.gives in
    let more = c.read_files.ensures.gives in
    record {
      text = first.text ++ more.text;
      written = written_behind _ _ _ first.text more.text first.written more.written;
      holds = run_gives c.args.command.now (g.I.Inputs.file c.args.inputs.now) (g.I.Inputs.rest c.args.inputs.now) (g.I.Inputs.rest c.read_files.new.inputs) (first.text ++ more.text) c.read_files.result c.read_files.new.lines
          (more.holds first.text (first.holds (g.I.Inputs.file c.args.inputs.now) (g.I.Inputs.rest c.args.inputs.now) (λ start begins. let is = c.requires.begun.starts start begins in record { from = is.from; room_is = search rules ∙ is.room_is })));
    }

pub returns-in-Err-clause-gives : goal.returns-in-Err-clause-gives
returns-in-Err-clause-gives g c = record { text = []; written = sym (added_nothing _ Report); holds = nothing_short c.args.command.now (g.I.Inputs.file c.args.inputs.now) }
