use Rattle.std.proofs.Common.{rules, arith, ap, subst, sym, refl, ◌∙◌, ◌≡◌, ◌<◌, ℕ, Bool, List, length, Err}
use Rattle.dk_io.specs.Outside.{HeldFile}
use Rattle.dk_lines.specs.Reading.{room_of}
use Rattle.dk_driver.specs.Files.{file_name_at}
use Rattle.dk_driver.specs.WholeFile.{fresh_reading}
use Rattle.dk_driver.proofs.Running.{named_cause, named_fault, named_on, placed}
use Rattle.dk_driver.specs.Reads.{FaultSays, HasCause, IsPlaced}
use Rattle.dk_driver.specs.declared.fault.FilesFault.{FilesFault}
use Rattle.dk_io.specs.Outside.{Rose}
use Rattle.dk_driver.specs.AllFiles.{TracesAreReadTo}
use Rattle.dk_driver.specs.Standing.{StandsBehind}
use Rattle.dk_driver.specs.WholeFile.{ComesToEnd, FileFaultGives}
use Rattle.dk_driver.proofs.reading.read_all.Goals as goal

pub loop-place-init : goal.loop-place-init
loop-place-init g c = record {
  fits = c.requires.fits;
  begins = search rules;
  limits = search rules;
  ignores = search rules;
  files = search rules;
  later = search rules;
  given = search rules;
  goes = λ room read. read;
}

pub loop-place-preserved : goal.loop-place-preserved
loop-place-preserved g c =
    let files = c.loop-place.invariant.files in
    let e = c.in-Ok.ensures in
    let there = rw files at (e.there (λ e. cc e)) in
    let named : c.name_at.result.now ≡ file_name_at c.args.traces.now.names c.loop-place.place =
    c.name_at.ensures ∙ ap (λ (l : List (List ℕ)). file_name_at l c.loop-place.place) c.as_slice-names.ensures in
    let within : c.loop-place.place < length c.args.traces.now.names = omega (arith, ap length c.as_slice-names.ensures) in
    record {
      fits = search rules;
      begins = search rules;
      limits = search rules;
      ignores = search rules;
      files = search rules;
      later = search rules;
      given = c.in-Ok.ensures.given ∙ c.loop-place.invariant.given;
      goes = λ room read. named_on g.C.Consumer.stands c.args.traces.now room (g.I.Inputs.file c.args.inputs.now) _ _ c.loop-place.feed c.loop-place.place c.loop-place.lines c.name_at.result.now
          named within c.loop-place.invariant.limits (c.loop-place.invariant.goes room read) _ c.in-Ok.next c.read_file.new.lines there
          (λ h steps stands xs holds. subst (λ (b : Bool). ComesToEnd b c.loop-place.place h steps (fresh_reading c.loop-place.lines) xs (StandsBehind g.C.Consumer.stands c.in-Ok.next) c.read_file.new.lines (g.I.Inputs.rest c.read_file.new.inputs)) c.loop-place.invariant.ignores
          (e.gives h steps stands xs (ap (λ (f : List ℕ → HeldFile). f c.name_at.result.now) files ∙ holds)));
    }

pub returns-in-Err-clause-gives : goal.returns-in-Err-clause-gives
returns-in-Err-clause-gives g c room read =
    let files = c.loop-place.invariant.files in
    let e = c.in-Err.ensures in
    let named : c.name_at.result.now ≡ file_name_at c.args.traces.now.names c.loop-place.place =
    c.name_at.ensures ∙ ap (λ (l : List (List ℕ)). file_name_at l c.loop-place.place) c.as_slice-names.ensures in
    let within : c.loop-place.place < length c.args.traces.now.names = omega (arith, ap length c.as_slice-names.ensures) in
    subst (λ (f : FilesFault). FaultSays c.args.traces.now room (g.I.Inputs.file c.args.inputs.now) (g.I.Inputs.rest c.args.inputs.now) f (g.I.Inputs.rest c.read_file.new.inputs)) (sym c.at.ensures)
    (named_fault g.C.Consumer.stands c.args.traces.now room (g.I.Inputs.file c.args.inputs.now) _ _ c.loop-place.feed c.loop-place.place c.loop-place.lines c.name_at.result.now
    named within c.loop-place.invariant.limits (c.loop-place.invariant.goes room read) _ c.in-Err.fault (λ started. rw files at (e.there (λ e. started (cc (e))))) (λ start. e.unstarted (ap Err start))
    (λ h steps stands xs holds. subst (λ (b : Bool). FileFaultGives b c.loop-place.place h steps c.loop-place.lines xs c.in-Err.fault (g.I.Inputs.rest c.read_file.new.inputs)) c.loop-place.invariant.ignores
    (e.gives h steps stands xs (ap (λ (f : List ℕ → HeldFile). f c.name_at.result.now) files ∙ holds))))

pub returns-in-Err-clause-placed : goal.returns-in-Err-clause-placed
returns-in-Err-clause-placed g c =
    let within : c.loop-place.place < length c.args.traces.now.names = omega (arith, ap length c.as_slice-names.ensures) in
    subst (λ (f : FilesFault). IsPlaced (length c.args.traces.now.names) f) (sym c.at.ensures) (placed _ c.loop-place.place c.in-Err.fault within)

pub returns-in-Err-clause-cause : goal.returns-in-Err-clause-cause
returns-in-Err-clause-cause g c =
    let files = c.loop-place.invariant.files in
    let e = c.in-Err.ensures in
    let named : c.name_at.result.now ≡ file_name_at c.args.traces.now.names c.loop-place.place =
    c.name_at.ensures ∙ ap (λ (l : List (List ℕ)). file_name_at l c.loop-place.place) c.as_slice-names.ensures in
    let within : c.loop-place.place < length c.args.traces.now.names = omega (arith, ap length c.as_slice-names.ensures) in
    subst (λ (f : FilesFault). HasCause c.args.traces.now (g.I.Inputs.file c.args.inputs.now) (Rose (g.I.Inputs.faults c.args.inputs.now) (g.I.Inputs.faults c.read_file.new.inputs)) f) (sym c.at.ensures)
    (named_cause c.args.traces.now (g.I.Inputs.file c.args.inputs.now) c.loop-place.place c.name_at.result.now (Err c.in-Err.fault) c.in-Err.fault (g.I.Inputs.faults c.args.inputs.now) (g.I.Inputs.faults c.loop-place.inputs) (g.I.Inputs.faults c.read_file.new.inputs) refl
    named within c.loop-place.invariant.later (rw files at e.there) (rw files at e.start) e.read)

pub returns-clause-gives : goal.returns-clause-gives
returns-clause-gives g c room read =
    let all : c.loop-place.place ≡ length c.args.traces.now.names = omega (arith, ap length c.as_slice-names.ensures) in
    subst (λ (n : ℕ). TracesAreReadTo g.C.Consumer.stands c.args.traces.now room (g.I.Inputs.file c.args.inputs.now) (g.I.Inputs.rest c.args.inputs.now) (g.I.Inputs.rest c.loop-place.inputs) c.loop-place.feed (room_of c.loop-place.lines) n) all (c.loop-place.invariant.goes room read)
