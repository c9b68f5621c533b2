use Rattle.std.proofs.Common.{subst, ◌∙◌, ℕ, List, length}
use Rattle.dk_io.specs.Outside.{HeldFile, Rose}
use Rattle.dk_run.specs.AllFiles.{AreReadTo, FilesTroubleGives, HasBrokenAt}
use Rattle.dk_run.specs.Commands.{file_names, helds_of}
use Rattle.dk_run.proofs.Saying.{behind_of, cut_says, done_says, state_says, trouble_placed, trouble_says}
use Rattle.dk_run.proofs.top.run_files.Goals as goal

pub returns-in-Ok-tell_state-clause-says : goal.returns-in-Ok-tell_state-clause-says
returns-in-Ok-tell_state-clause-says g c before come first =
    let told = c.in-Ok.ensures.gives in
    let read = subst (λ (f : List ℕ → HeldFile). AreReadTo c.args.command.now f (g.I.Inputs.rest c.args.inputs.now) (g.I.Inputs.rest c.read_run.new.inputs) c.in-Ok.session told.holds.0 (length (file_names c.args.command.now)) told.text) come.file told.holds.1 in
    done_says c.args.command.now before _ _ c.in-Ok.session told.holds.0 _ _ _ _ _ told.text (behind_of c.args.command.now before _ c.args.beginning come) first told.written
    (c.in-Ok.ensures.calm ∙ come.calm) read c.in-Ok-tell_last.ensures c.in-Ok-tell_state.ensures

pub returns-in-Ok-tell_last-clause-says : goal.returns-in-Ok-tell_last-clause-says
returns-in-Ok-tell_last-clause-says g c before come first =
    let told = c.in-Ok.ensures.gives in
    let read = subst (λ (f : List ℕ → HeldFile). AreReadTo c.args.command.now f (g.I.Inputs.rest c.args.inputs.now) (g.I.Inputs.rest c.read_run.new.inputs) c.in-Ok.session told.holds.0 (length (file_names c.args.command.now)) told.text) come.file told.holds.1 in
    rw c.status.ensures (state_says c.args.command.now before _ _ c.in-Ok.session told.holds.0 _ _ _ _ _ told.text c.in-Err-tell_state.halt (behind_of c.args.command.now before _ c.args.beginning come)
    first told.written (c.in-Ok.ensures.calm ∙ come.calm) read c.in-Ok-tell_last.ensures c.in-Err-tell_state.ensures)

pub returns-in-Ok-clause-says : goal.returns-in-Ok-clause-says
returns-in-Ok-clause-says g c before come first =
    let told = c.in-Ok.ensures.gives in
    let read = subst (λ (f : List ℕ → HeldFile). AreReadTo c.args.command.now f (g.I.Inputs.rest c.args.inputs.now) (g.I.Inputs.rest c.read_run.new.inputs) c.in-Ok.session told.holds.0 (length (file_names c.args.command.now)) told.text) come.file told.holds.1 in
    rw c.status-in-Err-tell_last.ensures (cut_says c.args.command.now before _ _ c.in-Ok.session told.holds.0 _ _ _ told.text c.in-Err-tell_last.halt (behind_of c.args.command.now before _ c.args.beginning come)
    first told.written (c.in-Ok.ensures.calm ∙ come.calm) read c.in-Err-tell_last.ensures)

pub tell_trouble-requires : goal.tell_trouble-requires
tell_trouble-requires g c = trouble_placed c.args.command.now (g.I.Inputs.file c.args.inputs.now) (g.I.Inputs.rest c.args.inputs.now) (g.I.Inputs.rest c.read_run.new.inputs) c.in-Err.ensures.gives.text c.in-Err.trouble c.in-Err.ensures.gives.holds

pub returns-clause-says : goal.returns-clause-says
returns-clause-says g c before come first =
    let told = c.in-Err.ensures.gives in
    let gives = subst (λ (f : List ℕ → HeldFile). FilesTroubleGives c.args.command.now f (g.I.Inputs.rest c.args.inputs.now) told.text c.in-Err.trouble (g.I.Inputs.rest c.read_run.new.inputs)) come.file told.holds in
    let cause = subst (λ (f : List ℕ → HeldFile). HasBrokenAt (helds_of c.args.command.now f) (Rose (g.I.Inputs.faults c.args.inputs.now) (g.I.Inputs.faults c.read_run.new.inputs)) c.in-Err.trouble) come.file c.in-Err.ensures.cause in
    trouble_says c.args.command.now before _ _ _ _ _ _ _ told.text c.in-Err.trouble c.tell_trouble.result (behind_of c.args.command.now before _ c.args.beginning come) come.later come.calm first told.written gives c.in-Err.ensures.calm cause c.tell_trouble.ensures

pub returns-in-Ok-tell_state-clause-files : goal.returns-in-Ok-tell_state-clause-files
returns-in-Ok-tell_state-clause-files g c = c.in-Ok.ensures.files

pub returns-in-Ok-tell_last-clause-files : goal.returns-in-Ok-tell_last-clause-files
returns-in-Ok-tell_last-clause-files g c = c.in-Ok.ensures.files

pub returns-in-Ok-clause-files : goal.returns-in-Ok-clause-files
returns-in-Ok-clause-files g c = c.in-Ok.ensures.files
