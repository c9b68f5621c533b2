use Rattle.std.proofs.Common.{[], ◌++◌, ap, sym, ◌∙◌}
use Rattle.dk_generate.specs.Texts.{generated_name}
use Rattle.dk_io.specs.NamedFiles.{Files}
use Rattle.dk_io.specs.declared.outside.Stream.TheVariants.{Report}
use Rattle.dk_run.specs.Starts.{Begins}
use Rattle.dk_run.specs.WholeFile.{fresh_reading}
use Rattle.dk_run.proofs.Filing.{none_short}
use Rattle.dk_run.proofs.Placing.{own_held, text_gives}
use Rattle.dk_run.proofs.Writing.{added_nothing}
use Rattle.dk_run.proofs.reading.read_text.Goals as goal

pub returns-in-Ok-clause-gives : goal.returns-in-Ok-clause-gives
returns-in-Ok-clause-gives g c =
    let told = c.read_file.ensures.gives in
    record {
      text = told.text;
      written = told.written;
      holds = λ file start before h steps behind. text_gives c.args.command.now (Begins c.args.command.now.resume file start) h steps c.args.lines.now c.read_file.new.lines c.args.text (before ++ told.text) _ c.read_file.result (told.holds.1 0 file start before h steps behind c.args.text (own_held _ generated_name c.args.text _ (ap (λ (f : Files). f.named) c.new-inputs.ensures ∙ c.in-Ok.ensures) c.generated_name.ensures));
    }

pub returns-in-Err-clause-gives : goal.returns-in-Err-clause-gives
returns-in-Err-clause-gives g c = record { text = []; written = sym (added_nothing _ Report); holds = λ file start before h steps behind. none_short c.args.command.now (Begins c.args.command.now.resume file start) 0 h steps (fresh_reading c.args.lines.now) c.args.text before behind.written }
