use Rattle.std.proofs.Common.{[], ◌≤◌, ◌<◌, ◌∙◌, arith, length, List, ℕ, refl, subst, sym}
use Rattle.std.proofs.lemmas.List.{take_all}
use Rattle.dk_io.specs.Outside.{HeldFile, Rose}
use Rattle.dk_table.proofs.Contents.{fault_at, helds_length, read_more, rose_since}
use Rattle.dk_table.specs.Tables.Contents.{AreReadAs, OwnFaultSays, ReadAs, helds_of}
use Rattle.dk_table.proofs.reading.read_texts.Goals as goal

pub loop-place-init : goal.loop-place-init
loop-place-init g c = record { read = subst (AreReadAs []) (sym c.new-texts.ensures) tt; files = refl; later = omega arith }

pub loop-place-preserved : goal.loop-place-preserved
loop-place-preserved g c =
    let names = c.args.names.now in
    let files = c.loop-place.invariant.files in
    let within : c.loop-place.place < length names = omega arith in
    record {
      read = read_more names (g.I.Inputs.file c.args.inputs.now) c.loop-place.texts c.push.new.self c.loop-place.place c.name_at.result.now c.in-Ok.text within c.name_at.ensures
          c.loop-place.invariant.read (subst (λ (f : List ℕ → HeldFile). ReadAs (f c.name_at.result.now) c.in-Ok.text) files c.in-Ok.ensures.read) c.in_ok-push-in-Ok.ensures.ok;
      files = c.read_text.ensures.files ∙ files;
      later = omega (arith, c.loop-place.invariant.later, c.read_text.ensures.later);
    }

pub returns-in-Err-clause-fault : goal.returns-in-Err-clause-fault
returns-in-Err-clause-fault g c =
    let names = c.args.names.now in
    let file : List ℕ → HeldFile = g.I.Inputs.file c.args.inputs.now in
    let before : ℕ = g.I.Inputs.faults c.args.inputs.now in
    let between : ℕ = g.I.Inputs.faults c.loop-place.inputs in
    let after : ℕ = g.I.Inputs.faults c.read_text.new.inputs in
    let within : c.loop-place.place < length names = omega arith in
    fault_at names file (Rose before after) (Rose between after) c.loop-place.place c.name_at.result.now c.loop-place.texts c.in-Err.fault within c.name_at.ensures
    c.loop-place.invariant.read (rose_since before between after 18446744073709551615 c.loop-place.invariant.later)
    (subst (λ (f : List ℕ → HeldFile). OwnFaultSays (f c.name_at.result.now) (Rose between after) c.loop-place.place c.in-Err.fault) c.loop-place.invariant.files c.in-Err.ensures.fault)

pub returns-clause-read : goal.returns-clause-read
returns-clause-read g c =
    let helds : List HeldFile = helds_of c.args.names.now (g.I.Inputs.file c.args.inputs.now) in
    let past : length helds ≤ c.loop-place.place = omega (arith, helds_length c.args.names.now (g.I.Inputs.file c.args.inputs.now)) in
    subst (λ (l : List HeldFile). AreReadAs l c.loop-place.texts) (take_all c.loop-place.place helds past) c.loop-place.invariant.read
