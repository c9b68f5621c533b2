use Rattle.std.proofs.Common.{◌≡◌, ◌∙◌, ap, List, ℕ}
use Rattle.dk_driver.specs.Files.{file_name_at}
use Rattle.dk_program.specs.Moments.{Outside, outside}
use Rattle.dk_merge.proofs.Saying.{fault_says, gathered_says}
use Rattle.dk_merge.proofs.top.run_command.Goals as goal

pub returns-in-Ok-clause-says : goal.returns-in-Ok-clause-says
returns-in-Ok-clause-says g c =
    let before : Outside = outside (g.I.Inputs.file c.args.inputs.now) (g.I.Inputs.rest c.args.inputs.now) (g.I.Inputs.faults c.args.inputs.now) (g.S.Sinks.written c.args.sinks.now) (g.S.Sinks.faults c.args.sinks.now) in
    let after : Outside = outside (g.I.Inputs.file c.gather.new.inputs) (g.I.Inputs.rest c.gather.new.inputs) (g.I.Inputs.faults c.gather.new.inputs) (g.S.Sinks.written c.tell_gathered.new.sinks) (g.S.Sinks.faults c.tell_gathered.new.sinks) in
    gathered_says c.args.command.now before after c.in-Ok.gathering c.tell_gathered.result c.in-Ok.ensures.gives c.tell_gathered.ensures

pub returns-in-Err-clause-says : goal.returns-in-Err-clause-says
returns-in-Err-clause-says g c =
    let before : Outside = outside (g.I.Inputs.file c.args.inputs.now) (g.I.Inputs.rest c.args.inputs.now) (g.I.Inputs.faults c.args.inputs.now) (g.S.Sinks.written c.args.sinks.now) (g.S.Sinks.faults c.args.sinks.now) in
    let after : Outside = outside (g.I.Inputs.file c.gather.new.inputs) (g.I.Inputs.rest c.gather.new.inputs) (g.I.Inputs.faults c.gather.new.inputs) (g.S.Sinks.written c.tell_file_fault.new.sinks) (g.S.Sinks.faults c.tell_file_fault.new.sinks) in
    let named : c.name_at-name.result.now ≡ file_name_at c.args.command.now.files c.in-Err.field-0.place =
    c.name_at-name.ensures ∙ ap (λ (l : List (List ℕ)). file_name_at l c.in-Err.field-0.place) c.as_slice.ensures in
    fault_says c.args.command.now before after c.in-Err.field-0.place c.tell_file_fault.result c.in-Err.ensures.gives.0 c.in-Err.field-0.fault c.name_at-name.result.now named c.in-Err.ensures.gives.1 c.tell_file_fault.ensures
