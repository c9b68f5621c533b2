use Rattle.std.proofs.Common.{rules, subst, sym, ◌∙◌, ◌≡◌, ◌++◌, ℕ, List, [], Bool, true, false, IfSome, Result, Ok, Err, refl, ap, append_assoc}
use Rattle.std.proofs.lemmas.List.{append-nil}
use Rattle.dk_lines.specs.Reading.{left_of}
use Rattle.dk_blocks.specs.History.{History}
use Rattle.dk_core.specs.Selecting.{SelectsBy}
use Rattle.dk_core.specs.Standing.{SessionReadsFor, left_with_answer, over_of}
use Rattle.dk_core.specs.Steps.{NextBlock}
use Rattle.dk_base.specs.declared.faults.Fault.{Fault}
use Rattle.dk_io.specs.declared.outside.Stream.TheVariants.{Report}
use Rattle.dk_driver.proofs.Filing.{not_begun}
use Rattle.dk_driver.specs.WholeFile.{FileGoesOn}
use Rattle.dk_run.specs.Commands.{is_selected}
use Rattle.dk_run.specs.Starts.{Begins}
use Rattle.dk_run.specs.WholeFile.{IsBehind, TroubleGives, trouble_of_halt}
use Rattle.dk_run.specs.declared.reading.Trouble.{Trouble}
use Rattle.dk_run.specs.declared.reading.Trouble.TheVariants as t
use Rattle.dk_run.proofs.Filing.{alike_on, alike_same, counted_end, counted_on, faulted_calm, faulted_read, faulted_started, halted_calm, halted_read, halted_started, ignores_by, reports_on, same_trouble, session_end, session_fault, session_on, session_short, short_gives}
use Rattle.dk_driver.proofs.Running.{rose_since}
use Rattle.dk_run.proofs.Writing.{added_nothing, written_behind}
use Rattle.dk_run.proofs.reading.read_started.Goals as goal

pub steps-init : goal.steps-init
steps-init g c = record {
  started = search rules;
  limits = search rules;
  files = search rules;
  later = search rules;
  calm = search rules;
  alike = alike_same c.args.session;
  reports = c.requires.reports;
  callable = c.requires.callable;
  selects = c.requires.selects;
  goes = record {
    text = [];
    written = sym (added_nothing _ Report);
    holds = λ place file start told h steps behind. not_begun c.args.command.now.ignore_missing_entry place h steps c.args.lines.now _ (IsBehind c.args.command.now (Begins c.args.command.now.resume file start) c.args.session (told ++ [])) _ c.requires.begins
        (subst (λ (l : List ℕ). IsBehind c.args.command.now (Begins c.args.command.now.resume file start) c.args.session l h steps) (sym (append-nil told)) behind);
  };
}

pub steps-preserved : goal.steps-preserved
steps-preserved g c =
    let is : c.block.result ≡ Ok true = search rules in
    let answers = λ (h : History) (reads : SessionReadsFor c.steps.session h).
    subst (λ (a : Result Bool Fault). IfSome (left_of c.steps.lines (g.I.Inputs.rest c.steps.inputs)) (λ ys. NextBlock c.steps.session h c.steps.lines ys (left_with_answer c.block.new.self a) c.block.new.lines (left_of c.block.new.lines (g.I.Inputs.rest c.block.new.inputs)))) is (c.block.ensures.gives h reads) in
    record {
      started = search rules;
      limits = search rules;
      files = search rules;
      later = search rules;
      calm = c.in-Ok.ensures.calm ∙ c.steps.invariant.calm;
      alike = alike_on c.args.session c.steps.session c.block.new.self c.steps.invariant.alike c.block.ensures.alike;
      reports = reports_on c.args.command.now c.steps.session c.block.new.self c.block.ensures.alike c.steps.invariant.reports;
      callable = subst (λ f. goal.F-IsAlwaysCallable g f) (sym c.block.ensures.alike.select) c.steps.invariant.callable;
      selects = subst (λ f. SelectsBy (goal.F-post g f) (is_selected c.args.command.now)) (sym c.block.ensures.alike.select) c.steps.invariant.selects;
      goes = record {
        text = c.steps.invariant.goes.text ++ c.in-Ok.ensures.text;
        written = written_behind _ _ _ c.steps.invariant.goes.text c.in-Ok.ensures.text c.steps.invariant.goes.written c.in-Ok.ensures.written;
        holds = λ place file start told h steps behind.
            subst (λ (l : List ℕ). IfSome (left_of c.args.lines.now (g.I.Inputs.rest c.args.inputs.now)) (λ xs. FileGoesOn c.args.command.now.ignore_missing_entry place h steps c.args.lines.now xs (IsBehind c.args.command.now (Begins c.args.command.now.resume file start) c.block.new.self l) (over_of c.block.new.self) c.block.new.lines (left_of c.block.new.lines (g.I.Inputs.rest c.block.new.inputs))))
            (append_assoc told c.steps.invariant.goes.text c.in-Ok.ensures.text)
            (session_on c.args.command.now (Begins c.args.command.now.resume file start) place h steps c.args.lines.now c.steps.lines c.block.new.lines _ _ _ (told ++ c.steps.invariant.goes.text) c.steps.session c.block.new.self
            (ignores_by c.args.command.now c.steps.session c.steps.invariant.reports) (c.steps.invariant.goes.holds place file start told h steps behind) c.in-Ok.ensures.text answers
            (counted_on c.steps.session c.block.new.self c.steps.lines c.block.new.lines c.block.result is c.block.ensures.counts) c.in-Ok.ensures.holds);
      };
    }

pub returns-in-Err-tell_by_the_way-clause-gives : goal.returns-in-Err-tell_by_the_way-clause-gives
returns-in-Err-tell_by_the_way-clause-gives g c =
    let is : c.block.result ≡ Ok true = search rules in
    let answers = λ (h : History) (reads : SessionReadsFor c.steps.session h).
    subst (λ (a : Result Bool Fault). IfSome (left_of c.steps.lines (g.I.Inputs.rest c.steps.inputs)) (λ ys. NextBlock c.steps.session h c.steps.lines ys (left_with_answer c.block.new.self a) c.block.new.lines (left_of c.block.new.lines (g.I.Inputs.rest c.block.new.inputs)))) is (c.block.ensures.gives h reads) in
    let cut = c.in-Err-tell_by_the_way.ensures in
    record {
      text = c.steps.invariant.goes.text ++ cut.text;
      written = written_behind _ _ _ c.steps.invariant.goes.text cut.text c.steps.invariant.goes.written cut.written;
      holds = λ place file start told h steps behind.
          subst (λ (t : Trouble). IfSome (left_of c.args.lines.now (g.I.Inputs.rest c.args.inputs.now)) (λ xs. TroubleGives c.args.command.now (Begins c.args.command.now.resume file start) place h steps c.args.lines.now xs (told ++ (c.steps.invariant.goes.text ++ cut.text)) t (left_of c.block.new.lines (g.I.Inputs.rest c.block.new.inputs)))) (sym c.trouble_of_halt.ensures)
          (subst (λ (l : List ℕ). IfSome (left_of c.args.lines.now (g.I.Inputs.rest c.args.inputs.now)) (λ xs. TroubleGives c.args.command.now (Begins c.args.command.now.resume file start) place h steps c.args.lines.now xs l (trouble_of_halt c.in-Err-tell_by_the_way.halt) (left_of c.block.new.lines (g.I.Inputs.rest c.block.new.inputs)))) (append_assoc told c.steps.invariant.goes.text cut.text)
          (short_gives c.args.command.now (Begins c.args.command.now.resume file start) place h steps c.args.lines.now _ _ ((told ++ c.steps.invariant.goes.text) ++ cut.text) c.in-Err-tell_by_the_way.halt
          (session_short c.args.command.now (Begins c.args.command.now.resume file start) place h steps c.args.lines.now c.steps.lines c.block.new.lines _ _ _ (told ++ c.steps.invariant.goes.text) c.steps.session c.block.new.self
          (ignores_by c.args.command.now c.steps.session c.steps.invariant.reports) (c.steps.invariant.goes.holds place file start told h steps behind) cut.text answers
          (counted_on c.steps.session c.block.new.self c.steps.lines c.block.new.lines c.block.result is c.block.ensures.counts) cut.holds)));
    }

pub returns-in-Ok-false-clause-gives : goal.returns-in-Ok-false-clause-gives
returns-in-Ok-false-clause-gives g c =
    let is : c.block.result ≡ Ok false = search rules in
    let answers = λ (h : History) (reads : SessionReadsFor c.steps.session h).
    subst (λ (a : Result Bool Fault). IfSome (left_of c.steps.lines (g.I.Inputs.rest c.steps.inputs)) (λ ys. NextBlock c.steps.session h c.steps.lines ys (left_with_answer c.block.new.self a) c.block.new.lines (left_of c.block.new.lines (g.I.Inputs.rest c.block.new.inputs)))) is (c.block.ensures.gives h reads) in
    let ended = counted_end c.steps.session c.block.new.self c.steps.lines c.block.new.lines c.block.result is c.block.ensures.counts in
    record {
      text = c.steps.invariant.goes.text;
      written = c.steps.invariant.goes.written;
      holds = λ place file start told h steps behind. session_end c.args.command.now (Begins c.args.command.now.resume file start) place h steps c.args.lines.now c.steps.lines c.block.new.lines _ _ _ (told ++ c.steps.invariant.goes.text) c.steps.session c.block.new.self
          (ignores_by c.args.command.now c.steps.session c.steps.invariant.reports) (c.steps.invariant.goes.holds place file start told h steps behind) c.end_file.result answers
          (c.end_file.ensures.counts.0 ∙ ended.0) ended.1 c.end_file.ensures.stands c.end_file.ensures.reads;
    }

pub returns-in-Err-clause-gives : goal.returns-in-Err-clause-gives
returns-in-Err-clause-gives g c =
    record {
      text = c.steps.invariant.goes.text;
      written = c.steps.invariant.goes.written;
      holds = λ place file start told h steps behind.
          subst (λ (t : Trouble). IfSome (left_of c.args.lines.now (g.I.Inputs.rest c.args.inputs.now)) (λ xs. TroubleGives c.args.command.now (Begins c.args.command.now.resume file start) place h steps c.args.lines.now xs (told ++ c.steps.invariant.goes.text) t (left_of c.block.new.lines (g.I.Inputs.rest c.block.new.inputs)))) (sym c.trouble_of_fault.ensures)
          (session_fault c.args.command.now (Begins c.args.command.now.resume file start) place h steps c.args.lines.now c.steps.lines _ _ _ (told ++ c.steps.invariant.goes.text) c.steps.session c.in-Err.fault
          (ignores_by c.args.command.now c.steps.session c.steps.invariant.reports) (c.steps.invariant.goes.holds place file start told h steps behind) c.in-Err.ensures.gives);
    }

pub returns-in-Err-tell_by_the_way-clause-calm : goal.returns-in-Err-tell_by_the_way-clause-calm
returns-in-Err-tell_by_the_way-clause-calm g c =
    halted_calm c.in-Err-tell_by_the_way.halt c.trouble_of_halt.result (g.S.Sinks.faults c.args.sinks.now) (g.S.Sinks.faults c.steps.sinks) (g.S.Sinks.faults c.tell_by_the_way.new.sinks)
    c.trouble_of_halt.ensures c.steps.invariant.calm c.in-Err-tell_by_the_way.ensures.cause

pub returns-in-Err-tell_by_the_way-clause-started : goal.returns-in-Err-tell_by_the_way-clause-started
returns-in-Err-tell_by_the_way-clause-started g c = λ e. halted_started c.in-Err-tell_by_the_way.halt c.trouble_of_halt.result c.trouble_of_halt.ensures (same_trouble c.trouble_of_halt.result t.Start _ refl e)

pub returns-in-Err-tell_by_the_way-clause-emptied : goal.returns-in-Err-tell_by_the_way-clause-emptied
returns-in-Err-tell_by_the_way-clause-emptied g c = λ e. absurd (halted_read c.in-Err-tell_by_the_way.halt c.trouble_of_halt.result c.trouble_of_halt.ensures (same_trouble c.trouble_of_halt.result t.Read _ refl e))

pub returns-in-Err-tell_by_the_way-clause-cause : goal.returns-in-Err-tell_by_the_way-clause-cause
returns-in-Err-tell_by_the_way-clause-cause g c = λ e. absurd (halted_read c.in-Err-tell_by_the_way.halt c.trouble_of_halt.result c.trouble_of_halt.ensures (same_trouble c.trouble_of_halt.result t.Read _ refl e))

pub returns-in-Err-clause-calm : goal.returns-in-Err-clause-calm
returns-in-Err-clause-calm g c = faulted_calm c.in-Err.fault c.trouble_of_fault.result (g.S.Sinks.faults c.args.sinks.now) (g.S.Sinks.faults c.steps.sinks) c.trouble_of_fault.ensures c.steps.invariant.calm

pub returns-in-Err-clause-started : goal.returns-in-Err-clause-started
returns-in-Err-clause-started g c = λ e. faulted_started c.in-Err.fault c.trouble_of_fault.result c.trouble_of_fault.ensures (same_trouble c.trouble_of_fault.result t.Start _ refl e)

pub returns-in-Err-clause-emptied : goal.returns-in-Err-clause-emptied
returns-in-Err-clause-emptied g c = λ e. let (file, is) = faulted_read c.in-Err.fault c.trouble_of_fault.result c.trouble_of_fault.ensures (same_trouble c.trouble_of_fault.result t.Read _ refl e) in c.in-Err.ensures.emptied file (ap (λ (f : Fault). Err f) is)

pub returns-in-Err-clause-cause : goal.returns-in-Err-clause-cause
returns-in-Err-clause-cause g c = λ e. let (file, is) = faulted_read c.in-Err.fault c.trouble_of_fault.result c.trouble_of_fault.ensures (same_trouble c.trouble_of_fault.result t.Read _ refl e) in
    rose_since (g.I.Inputs.faults c.args.inputs.now) (g.I.Inputs.faults c.steps.inputs) (g.I.Inputs.faults c.block.new.inputs) c.steps.invariant.later (c.in-Err.ensures.cause file (ap (λ (f : Fault). Err f) is))
