use Rattle.std.proofs.Common.{rules, subst, sym, ◌≡◌, Bool, true, false, List, IfSome, Result, Ok, Err, refl, ap}
use Rattle.dk_base.specs.declared.faults.Fault.{Fault}
use Rattle.dk_blocks.specs.History.{History}
use Rattle.dk_blocks.specs.Standing.{left_with_answer}
use Rattle.dk_events.specs.Standing.{ignores_of, over_of}
use Rattle.dk_lines.specs.Reading.{left_of}
use Rattle.dk_driver.proofs.Running.{rose_since}
use Rattle.dk_driver.proofs.Filing.{faulted_read, faulted_started, feed_end, feed_fault, feed_on, not_begun, same_fault}
use Rattle.dk_driver.specs.Consuming.{Record}
use Rattle.dk_driver.specs.Standing.{StandsBehind, StandsFor}
use Rattle.dk_driver.specs.Steps.{NextBlock}
use Rattle.dk_driver.specs.WholeFile.{FaultGives}
use Rattle.dk_driver.specs.declared.fault.FileFault.{FileFault}
use Rattle.dk_driver.specs.declared.fault.FileFault.TheVariants as t
use Rattle.dk_driver.proofs.reading.read_started.Goals as goal

pub steps-init : goal.steps-init
steps-init g c = record {
  fits = c.requires.fits;
  started = search rules;
  limits = search rules;
  ignores = search rules;
  files = search rules;
  later = search rules;
  given = search rules;
  goes = λ h steps stands. not_begun (ignores_of c.args.feed.events) c.args.place h steps c.args.lines.now _ (StandsBehind g.C.Consumer.stands c.args.feed) _ c.requires.begins stands;
}

pub steps-preserved : goal.steps-preserved
steps-preserved g c =
    let is : c.next.result ≡ Ok true = search rules in
    let answers = λ (h : History) (records : List Record) (stands : StandsFor g.C.Consumer.stands c.steps.feed h records).
    subst (λ (a : Result Bool Fault). IfSome (left_of c.steps.lines (g.I.Inputs.rest c.steps.inputs)) (λ ys. NextBlock g.C.Consumer.stands c.steps.feed c.args.place h records c.steps.lines ys (left_with_answer c.next.new.self a) c.next.new.lines (left_of c.next.new.lines (g.I.Inputs.rest c.next.new.inputs)))) is (c.next.ensures.gives h records stands) in
    record {
      fits = search rules;
      started = search rules;
      limits = search rules;
      ignores = search rules;
      files = search rules;
      later = search rules;
      given = search rules;
      goes = λ h steps stands. feed_on g.C.Consumer.stands (ignores_of c.args.feed.events) c.args.place h steps c.args.lines.now c.steps.lines c.next.new.lines _ _ c.steps.feed c.next.new.self c.steps.invariant.ignores _ (c.steps.invariant.goes h steps stands) answers;
    }

pub returns-in-Ok-false-clause-gives : goal.returns-in-Ok-false-clause-gives
returns-in-Ok-false-clause-gives g c h steps stands =
    let is : c.next.result ≡ Ok false = search rules in
    let answers = λ (h : History) (records : List Record) (stands : StandsFor g.C.Consumer.stands c.steps.feed h records).
    subst (λ (a : Result Bool Fault). IfSome (left_of c.steps.lines (g.I.Inputs.rest c.steps.inputs)) (λ ys. NextBlock g.C.Consumer.stands c.steps.feed c.args.place h records c.steps.lines ys (left_with_answer c.next.new.self a) c.next.new.lines (left_of c.next.new.lines (g.I.Inputs.rest c.next.new.inputs)))) is (c.next.ensures.gives h records stands) in
    let over : over_of c.next.new.self.events ≡ true = search rules in
    feed_end g.C.Consumer.stands (ignores_of c.args.feed.events) c.args.place h steps c.args.lines.now c.steps.lines c.next.new.lines _ _ c.steps.feed c.next.new.self c.steps.invariant.ignores _ c.end_file.result
    (c.steps.invariant.goes h steps stands) answers over c.end_file.ensures.stands

pub returns-in-Err-clause-gives : goal.returns-in-Err-clause-gives
returns-in-Err-clause-gives g c h steps stands =
    subst (λ (t : FileFault). IfSome (left_of c.args.lines.now (g.I.Inputs.rest c.args.inputs.now)) (λ xs. FaultGives (ignores_of c.args.feed.events) c.args.place h steps c.args.lines.now xs t (left_of c.next.new.lines (g.I.Inputs.rest c.next.new.inputs)))) (sym c.from.ensures)
    (feed_fault g.C.Consumer.stands (ignores_of c.args.feed.events) c.args.place h steps c.args.lines.now c.steps.lines _ _ _ c.steps.feed c.in-Err.fault c.steps.invariant.ignores (c.steps.invariant.goes h steps stands) c.in-Err.ensures.gives)

pub returns-in-Err-clause-started : goal.returns-in-Err-clause-started
returns-in-Err-clause-started g c = λ e. faulted_started c.in-Err.fault c.from.result c.from.ensures (same_fault c.from.result t.Start _ refl e)

pub returns-in-Err-clause-emptied : goal.returns-in-Err-clause-emptied
returns-in-Err-clause-emptied g c = λ e. let (file, is) = faulted_read c.in-Err.fault c.from.result c.from.ensures (same_fault c.from.result t.Read _ refl e) in c.in-Err.ensures.emptied file (ap (λ (f : Fault). Err f) is)

pub returns-in-Err-clause-cause : goal.returns-in-Err-clause-cause
returns-in-Err-clause-cause g c = λ e. let (file, is) = faulted_read c.in-Err.fault c.from.result c.from.ensures (same_fault c.from.result t.Read _ refl e) in
    rose_since (g.I.Inputs.faults c.args.inputs.now) (g.I.Inputs.faults c.steps.inputs) (g.I.Inputs.faults c.next.new.inputs) c.steps.invariant.later (c.in-Err.ensures.cause file (ap (λ (f : Fault). Err f) is))
