use Rattle.std.proofs.Common.{◌≡◌, ◌∙◌, ◌∷◌, sym, subst}
use Rattle.dk_calls.specs.Records.{call_of}
use Rattle.dk_calls.specs.Standing.{CallsStandForRecords}
use Rattle.dk_calls.specs.Waiting.{Call, other}
use Rattle.dk_trace.specs.RecordsResumed.{shown}
use Rattle.dk_blocks.proofs.Keeping.{other_call}
use Rattle.dk_blocks.proofs.kept.wait.Goals as goal

pub returns-clause-ok : goal.returns-clause-ok
returns-clause-ok c earlier stands =
    let is : call_of c.args.points.now (shown c.args.sample.now) ≡ other =
    other_call c.args.points.now (shown c.args.sample.now) c.requires.no_exit (sym c.is_entry.ensures ∙ c.if-is_entry.false) in
    subst (λ (call : Call). CallsStandForRecords c.args.calls.now (call ∷ earlier)) (sym is) stands
