use Rattle.std.proofs.Common.{rules, sym, ◌≡◌, ◌++◌, refl, []}
use Rattle.dk_io.specs.declared.outside.Stream.TheVariants.{Report}
use Rattle.dk_run.specs.Starts.{Begins}
use Rattle.dk_run.specs.WholeFile.{fresh_reading}
use Rattle.dk_run.proofs.Filing.{told_started}
use Rattle.dk_run.proofs.Writing.{added_nothing}
use Rattle.dk_run.proofs.reading.read_file.Goals as goal

pub returns-in-Ok-clause-gives : goal.returns-in-Ok-clause-gives
returns-in-Ok-clause-gives g c =
    let started : c.start.new.self ≡ fresh_reading c.args.lines.now = search rules in
    let told = c.read_started.ensures.gives in
    record {
      text = told.text;
      written = told.written;
      holds = (
        λ e. absurd (c.read_started.ensures.started e),
        λ place file start before h steps behind xs holds. told_started c.args.command.now (Begins c.args.command.now.resume file start) place h steps c.args.lines.now c.start.new.self c.read_started.new.lines _ xs (before ++ told.text) _ _ c.read_started.result
            c.read_started.ensures.started started c.in-Ok.ensures.rest holds c.read_started.ensures.emptied (told.holds place file start before h steps behind),
      );
    }

pub returns-in-Err-clause-gives : goal.returns-in-Err-clause-gives
returns-in-Err-clause-gives g c = record { text = []; written = sym (added_nothing _ Report); holds = (λ e. refl, λ place file start before h steps behind xs holds. tt) }
