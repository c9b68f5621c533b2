use Rattle.std.proofs.Common.{rules, arith, ap, subst, sym, refl, ◌∙◌, ◌≡◌, ◌++◌, ◌+◌, ℕ, List, [], length, append_assoc, Err}
use Rattle.dk_io.specs.Outside.{HeldFile, Rose}
use Rattle.dk_io.specs.declared.outside.Stream.TheVariants.{Report}
use Rattle.dk_lines.specs.Reading.{room_of}
use Rattle.dk_core.specs.Selecting.{SelectsBy}
use Rattle.dk_driver.specs.Files.{file_name_at}
use Rattle.dk_run.specs.AllFiles.{AreReadTo, FilesTroubleGives, HasBrokenAt, files_trouble}
use Rattle.dk_run.specs.Commands.{file_names, generated_count, helds_of, is_selected}
use Rattle.dk_run.specs.declared.reading.FilesTrouble.{FilesTrouble}
use Rattle.dk_run.proofs.Filing.{alike_on, alike_same, reports_on}
use Rattle.dk_run.proofs.Placing.{named_cause, named_on, named_trouble, names_length, nothing_told}
use Rattle.dk_run.proofs.Writing.{added_nothing, written_behind}
use Rattle.dk_run.proofs.reading.read_files.Goals as goal

pub loop-index-init : goal.loop-index-init
loop-index-init g c = record {
  begins = search rules;
  limits = search rules;
  files = search rules;
  later = search rules;
  calm = search rules;
  alike = alike_same c.args.session;
  reports = c.requires.reports;
  callable = c.requires.callable;
  selects = c.requires.selects;
  goes = record {
    text = [];
    written = sym (added_nothing _ Report);
    holds = λ told read. nothing_told c.args.command.now _ _ _ c.args.session _ _ told read;
  };
}

pub loop-index-preserved : goal.loop-index-preserved
loop-index-preserved g c =
    let files = c.loop-index.invariant.files in
    let old = c.loop-index.invariant.goes in
    let new = c.in-Ok.ensures.gives in
    let there = rw files at (c.in-Ok.ensures.there (λ e. cc e)) in
    record {
      begins = search rules;
      limits = search rules;
      files = search rules;
      later = search rules;
      calm = search rules;
      alike = alike_on c.args.session c.loop-index.session c.in-Ok.next c.loop-index.invariant.alike c.in-Ok.ensures.alike;
      reports = reports_on c.args.command.now c.loop-index.session c.in-Ok.next c.in-Ok.ensures.alike c.loop-index.invariant.reports;
      callable = subst (λ f. goal.F-IsAlwaysCallable g f) (sym c.in-Ok.ensures.alike.select) c.loop-index.invariant.callable;
      selects = subst (λ f. SelectsBy (goal.F-post g f) (is_selected c.args.command.now)) (sym c.in-Ok.ensures.alike.select) c.loop-index.invariant.selects;
      goes = record {
        text = old.text ++ new.text;
        written = written_behind _ _ _ old.text new.text old.written new.written;
        holds = λ told read. subst (λ (l : List ℕ). AreReadTo c.args.command.now (g.I.Inputs.file c.args.inputs.now) (g.I.Inputs.rest c.args.inputs.now) (g.I.Inputs.rest c.read_file.new.inputs) c.in-Ok.next (room_of c.read_file.new.lines) (generated_count c.args.command.now + (c.loop-index.index + 1)) l)
            (append_assoc told old.text new.text)
            (named_on c.args.command.now (g.I.Inputs.file c.args.inputs.now) _ _ c.loop-index.session c.loop-index.index c.loop-index.lines (told ++ old.text) new.text c.word_at.result.now
            (c.word_at.ensures ∙ ap (λ (l : List (List ℕ)). file_name_at l c.loop-index.index) c.as_slice-words.ensures) (omega (arith, ap length c.as_slice-words.ensures)) c.loop-index.invariant.limits (old.holds told read)
            _ c.in-Ok.next c.read_file.new.lines there
            (λ start h steps behind xs holds. new.holds.1 (generated_count c.args.command.now + c.loop-index.index) (g.I.Inputs.file c.args.inputs.now) start (told ++ old.text) h steps behind xs (ap (λ (f : List ℕ → HeldFile). f c.word_at.result.now) files ∙ holds)));
      };
    }

pub returns-in-Err-clause-gives : goal.returns-in-Err-clause-gives
returns-in-Err-clause-gives g c =
    let files = c.loop-index.invariant.files in
    let old = c.loop-index.invariant.goes in
    let new = c.in-Err.ensures.gives in
    let place : files_trouble (c.generated_count-first.result + c.loop-index.index) c.in-Err.trouble ≡ files_trouble (generated_count c.args.command.now + c.loop-index.index) c.in-Err.trouble =
    ap (λ (n : ℕ). files_trouble (n + c.loop-index.index) c.in-Err.trouble) c.generated_count-first.ensures in
    record {
      text = old.text ++ new.text;
      written = written_behind _ _ _ old.text new.text old.written new.written;
      holds = λ told read. subst (λ (t : FilesTrouble). FilesTroubleGives c.args.command.now (g.I.Inputs.file c.args.inputs.now) (g.I.Inputs.rest c.args.inputs.now) (told ++ (old.text ++ new.text)) t (g.I.Inputs.rest c.read_file.new.inputs)) (sym (c.at_place.ensures ∙ place))
          (subst (λ (l : List ℕ). FilesTroubleGives c.args.command.now (g.I.Inputs.file c.args.inputs.now) (g.I.Inputs.rest c.args.inputs.now) l (files_trouble (generated_count c.args.command.now + c.loop-index.index) c.in-Err.trouble) (g.I.Inputs.rest c.read_file.new.inputs)) (append_assoc told old.text new.text)
          (named_trouble c.args.command.now (g.I.Inputs.file c.args.inputs.now) (g.I.Inputs.rest c.args.inputs.now) _ c.loop-index.session c.loop-index.index c.loop-index.lines (told ++ old.text) new.text c.word_at.result.now
          (c.word_at.ensures ∙ ap (λ (l : List (List ℕ)). file_name_at l c.loop-index.index) c.as_slice-words.ensures) (omega (arith, ap length c.as_slice-words.ensures)) c.loop-index.invariant.limits (old.holds told read)
          _ c.in-Err.trouble (λ started. rw files at (c.in-Err.ensures.there (λ e. started (cc (e)))))
          (λ start. (new.holds.0 (ap Err start), (c.in-Err.ensures.unstarted (ap Err start)).1))
          (λ start h steps behind xs holds. new.holds.1 (generated_count c.args.command.now + c.loop-index.index) (g.I.Inputs.file c.args.inputs.now) start (told ++ old.text) h steps behind xs (ap (λ (f : List ℕ → HeldFile). f c.word_at.result.now) files ∙ holds))));
    }

pub returns-in-Err-clause-cause : goal.returns-in-Err-clause-cause
returns-in-Err-clause-cause g c =
    let files = c.loop-index.invariant.files in
    let e = c.in-Err.ensures in
    let place : files_trouble (c.generated_count-first.result + c.loop-index.index) c.in-Err.trouble ≡ files_trouble (generated_count c.args.command.now + c.loop-index.index) c.in-Err.trouble =
    ap (λ (n : ℕ). files_trouble (n + c.loop-index.index) c.in-Err.trouble) c.generated_count-first.ensures in
    subst (λ (t : FilesTrouble). HasBrokenAt (helds_of c.args.command.now (g.I.Inputs.file c.args.inputs.now)) (Rose (g.I.Inputs.faults c.args.inputs.now) (g.I.Inputs.faults c.read_file.new.inputs)) t) (sym (c.at_place.ensures ∙ place))
    (named_cause c.args.command.now (g.I.Inputs.file c.args.inputs.now) c.loop-index.index c.word_at.result.now (Err c.in-Err.trouble) c.in-Err.trouble (g.I.Inputs.faults c.args.inputs.now) (g.I.Inputs.faults c.loop-index.inputs) (g.I.Inputs.faults c.read_file.new.inputs) refl
    (c.word_at.ensures ∙ ap (λ (l : List (List ℕ)). file_name_at l c.loop-index.index) c.as_slice-words.ensures) (omega (arith, ap length c.as_slice-words.ensures)) c.loop-index.invariant.later
    (rw files at e.there) (rw files at e.start) e.read)

pub returns-clause-gives : goal.returns-clause-gives
returns-clause-gives g c =
    let old = c.loop-index.invariant.goes in
    let place : generated_count c.args.command.now + c.loop-index.index ≡ length (file_names c.args.command.now) = omega (arith, names_length c.args.command.now, ap length c.as_slice-words.ensures) in
    record {
      text = old.text;
      written = old.written;
      holds = λ told read. subst (λ (n : ℕ). AreReadTo c.args.command.now (g.I.Inputs.file c.args.inputs.now) (g.I.Inputs.rest c.args.inputs.now) (g.I.Inputs.rest c.loop-index.inputs) c.loop-index.session (room_of c.loop-index.lines) n (told ++ old.text)) place (old.holds told read);
    }
