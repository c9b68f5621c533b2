use Rattle.std.proofs.Common.{arith, ap, subst, refl, ◌∙◌, ◌≡◌, ◌<◌, ℕ, List, length}
use Rattle.dk_io.specs.Outside.{HeldFile, Rose}
use Rattle.dk_driver.specs.Files.{file_name_at}
use Rattle.dk_merge.proofs.Taking.{read_none, read_on, fault_on}
use Rattle.dk_merge.specs.Gathering.{AreReadTo, HasTaken, NotTaken}
use Rattle.dk_merge.proofs.gathering.gather.Goals as goal

pub loop-place-init : goal.loop-place-init
loop-place-init g c = record {
  files = refl;
  later = omega arith;
  goes = read_none c.args.command.now (g.I.Inputs.file c.args.inputs.now) (g.I.Inputs.rest c.args.inputs.now) (record { gathered = c.nothing.result; room = 1073741824 }) c.nothing.ensures.turns c.nothing.ensures.nothing refl;
}

pub loop-place-preserved : goal.loop-place-preserved
loop-place-preserved g c =
    let files = c.loop-place.invariant.files in
    let named : c.name_at.result.now ≡ file_name_at c.args.command.now.files c.loop-place.place =
    c.name_at.ensures ∙ ap (λ (l : List (List ℕ)). file_name_at l c.loop-place.place) c.as_slice-names.ensures in
    let within : c.loop-place.place < length c.args.command.now.files = omega (arith, ap length c.as_slice-names.ensures) in
    record {
      files = c.take_file.ensures.files ∙ files;
      later = omega (arith, c.loop-place.invariant.later, c.take_file.ensures.later);
      goes = read_on c.args.command.now (g.I.Inputs.file c.args.inputs.now) (g.I.Inputs.rest c.args.inputs.now) (g.I.Inputs.rest c.loop-place.inputs) (g.I.Inputs.rest c.take_file.new.inputs) c.loop-place.gathering c.in-Ok.next
          c.loop-place.place c.name_at.result.now named within c.loop-place.invariant.goes
          (subst (λ (f : List ℕ → HeldFile). HasTaken c.loop-place.gathering c.in-Ok.next (f c.name_at.result.now) (g.I.Inputs.rest c.take_file.new.inputs)) files c.in-Ok.ensures.taken);
    }

pub returns-in-Err-clause-gives : goal.returns-in-Err-clause-gives
returns-in-Err-clause-gives g c =
    let files = c.loop-place.invariant.files in
    let named : c.name_at.result.now ≡ file_name_at c.args.command.now.files c.loop-place.place =
    c.name_at.ensures ∙ ap (λ (l : List (List ℕ)). file_name_at l c.loop-place.place) c.as_slice-names.ensures in
    let within : c.loop-place.place < length c.args.command.now.files = omega (arith, ap length c.as_slice-names.ensures) in (
      within,
      fault_on c.args.command.now (g.I.Inputs.file c.args.inputs.now) (g.I.Inputs.rest c.args.inputs.now) (g.I.Inputs.rest c.loop-place.inputs) (g.I.Inputs.rest c.take_file.new.inputs) c.loop-place.gathering c.loop-place.gathering
          c.loop-place.place c.name_at.result.now named within c.loop-place.invariant.goes (g.I.Inputs.rest c.take_file.new.inputs)
          (g.I.Inputs.faults c.args.inputs.now) (g.I.Inputs.faults c.loop-place.inputs) (g.I.Inputs.faults c.take_file.new.inputs) c.in-Err.fault c.loop-place.invariant.later
          (subst (λ (f : List ℕ → HeldFile). NotTaken c.loop-place.gathering (f c.name_at.result.now) (Rose (g.I.Inputs.faults c.loop-place.inputs) (g.I.Inputs.faults c.take_file.new.inputs)) (g.I.Inputs.rest c.loop-place.inputs) (g.I.Inputs.rest c.take_file.new.inputs) c.in-Err.fault)
          files c.in-Err.ensures.fault),
    )

pub returns-clause-gives : goal.returns-clause-gives
returns-clause-gives g c =
    let all : c.loop-place.place ≡ length c.args.command.now.files = omega (arith, ap length c.as_slice-names.ensures) in
    subst (λ (n : ℕ). AreReadTo c.args.command.now (g.I.Inputs.file c.args.inputs.now) (g.I.Inputs.rest c.args.inputs.now) (g.I.Inputs.rest c.loop-place.inputs) c.loop-place.gathering n) all c.loop-place.invariant.goes
