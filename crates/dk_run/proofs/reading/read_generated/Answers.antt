use Rattle.std.proofs.Common.{rules, sym, [], subst}
use Rattle.dk_io.specs.declared.outside.Stream.TheVariants.{Report}
use Rattle.dk_run.specs.AllFiles.{FilesTroubleGives}
use Rattle.dk_run.specs.declared.reading.FilesTrouble.{FilesTrouble}
use Rattle.dk_run.proofs.Placing.{generated_on, generated_trouble, none_generated, nothing_short}
use Rattle.dk_run.proofs.Writing.{added_nothing}
use Rattle.dk_run.proofs.reading.read_generated.Goals as goal

pub returns-in-None-clause-gives : goal.returns-in-None-clause-gives
returns-in-None-clause-gives g c = record {
  text = [];
  written = sym (added_nothing _ Report);
  holds = λ file before stands. none_generated c.args.command.now file before c.args.session _ (search rules) stands c.requires.counts;
}

pub returns-in-Ok-read_text-clause-gives : goal.returns-in-Ok-read_text-clause-gives
returns-in-Ok-read_text-clause-gives g c =
    let told = c.in-Ok-read_text.ensures.gives in
    record {
      text = told.text;
      written = told.written;
      holds = λ file before stands. generated_on c.args.command.now file before c.args.session c.args.lines.now c.read_text.new.lines c.in-Some.n c.in-Ok.text told.text
          c.in-Some.is c.in-Ok.ensures c.requires.limits stands c.requires.counts c.in-Ok-read_text.next (λ start h steps behind. told.holds file start [] h steps behind);
    }

pub returns-in-Err-read_text-clause-gives : goal.returns-in-Err-read_text-clause-gives
returns-in-Err-read_text-clause-gives g c =
    let told = c.in-Err-read_text.ensures.gives in
    record {
      text = told.text;
      written = told.written;
      holds = λ file before stands. subst (λ (t : FilesTrouble). FilesTroubleGives c.args.command.now file before told.text t before) (sym c.at_place.ensures)
          (generated_trouble c.args.command.now file before c.args.session c.args.lines.now c.read_text.new.lines c.in-Some.n c.in-Ok.text told.text
          c.in-Some.is c.in-Ok.ensures c.requires.limits stands c.requires.counts c.in-Err-read_text.trouble c.in-Err-read_text.ensures.steady (λ start h steps behind. told.holds file start [] h steps behind));
    }

pub returns-in-Err-clause-gives : goal.returns-in-Err-clause-gives
returns-in-Err-clause-gives g c = record { text = []; written = sym (added_nothing _ Report); holds = λ file before stands. nothing_short c.args.command.now file }
