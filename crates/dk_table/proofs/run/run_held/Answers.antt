use Rattle.std.proofs.Common.{List, ℕ, rules, subst, sym}
use Rattle.dk_io.specs.Outside.{HeldFile, Rose}
use Rattle.dk_program.specs.Ending.{EndsBy}
use Rattle.dk_table.proofs.Contents.{fault_placed}
use Rattle.dk_table.proofs.Saying.{fault_completes, fault_says, read_completes, read_says}
use Rattle.dk_table.specs.Tables.Contents.{AreReadAs, FaultSays, helds_of}
use Rattle.dk_table.proofs.run.run_held.Goals as goal

pub tell_fault-requires : goal.tell_fault-requires
tell_fault-requires g c = fault_placed c.as_slice-names.result.now _ _ c.in-Err.fault c.in-Err.ensures.fault

pub returns-in-Ok : goal.returns-in-Ok
returns-in-Ok g c =
    let a = c.args.arguments.now in
    let file : List ℕ → HeldFile = g.I.Inputs.file c.args.inputs.now in
    let read : AreReadAs (helds_of a.files file) c.as_slice.result.now =
    subst (AreReadAs (helds_of a.files file)) (sym c.as_slice.ensures)
    (subst (λ (n : List (List ℕ)). AreReadAs (helds_of n file) c.in-Ok.texts) c.as_slice-names.ensures c.in-Ok.ensures.read) in
    record {
      says = read_says a c.as_slice.result.now _ _ c.tell_texts.result c.requires read c.tell_texts.ensures;
      complete = read_completes a c.as_slice.result.now _ _ c.tell_texts.result c.requires read c.tell_texts.ensures;
      files = search rules;
    }

pub returns-in-Err : goal.returns-in-Err
returns-in-Err g c =
    let a = c.args.arguments.now in
    let file : List ℕ → HeldFile = g.I.Inputs.file c.args.inputs.now in
    let rose : Type 0 = Rose (g.I.Inputs.faults c.args.inputs.now) (g.I.Inputs.faults c.read_texts.new.inputs) in
    let says : FaultSays a.files file rose c.in-Err.fault =
    subst (λ (n : List (List ℕ)). FaultSays n file rose c.in-Err.fault) c.as_slice-names.ensures c.in-Err.ensures.fault in
    let ends : EndsBy a.files c.in-Err.fault (g.S.Sinks.written c.args.sinks.now) (g.S.Sinks.written c.tell_fault.new.sinks) (g.S.Sinks.faults c.args.sinks.now) (g.S.Sinks.faults c.tell_fault.new.sinks) c.tell_fault.result =
    subst (λ (n : List (List ℕ)). EndsBy n c.in-Err.fault (g.S.Sinks.written c.args.sinks.now) (g.S.Sinks.written c.tell_fault.new.sinks) (g.S.Sinks.faults c.args.sinks.now) (g.S.Sinks.faults c.tell_fault.new.sinks) c.tell_fault.result)
    c.as_slice-names.ensures c.tell_fault.ensures in
    record {
      says = fault_says a _ _ c.in-Err.fault c.tell_fault.result c.requires says ends;
      complete = fault_completes a _ _ c.in-Err.fault c.tell_fault.result says ends;
      files = search rules;
    }
