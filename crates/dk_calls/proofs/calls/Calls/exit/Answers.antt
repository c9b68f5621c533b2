use Rattle.std.proofs.Common.{◌≡◌, ◌∙◌, ◌∷◌, List, Some, ap, sym, subst}
use Rattle.dk_base.specs.Values.{values_of}
use Rattle.dk_base.specs.declared.values.Value.{Value}
use Rattle.dk_trace.specs.RecordsResumed.{shown}
use Rattle.dk_calls.specs.Standing.{CallsStandForRecords, Holds}
use Rattle.dk_calls.specs.Waiting.{Call, waiting_of}
use Rattle.dk_calls.proofs.Holding.{call_of_exit, exit_given, exit_refused, some_taken}
use Rattle.dk_calls.proofs.Waits.{taken_point}
use Rattle.dk_calls.specs.Waiting.{taken_by}
use Rattle.dk_calls.proofs.calls.Calls.exit.Goals as goal

pub returns-in-None-clause-values : goal.returns-in-None-clause-values
returns-in-None-clause-values c = λ (earlier : List Call) (s : CallsStandForRecords c.args.self.now earlier).
    rw c.unmatched_exit.ensures
    (exit_refused c.args.points.now (shown c.args.sample.now) earlier c.in-Some.entry.0 (sym c.in-Some.ensures.entry) (c.in-None.ensures earlier s))

pub returns-clause-values : goal.returns-clause-values
returns-clause-values c = λ (earlier : List Call) (s : CallsStandForRecords c.args.self.now earlier).
    let kept : List Value = c.as_slice.result.now in
    let some : Some kept ≡ Some c.in-Some-latest.kept.now = ap (λ (vs : List Value). Some vs) c.as_slice.ensures in
    exit_given c.args.points.now (shown c.args.sample.now) earlier c.in-Some.entry.0 kept (values_of c.in_ok-values-in-Some-latest.values.now) (sym c.in-Some.ensures.entry)
    (some ∙ c.in-Some-latest.ensures earlier s)
    (taken_point c.in-Some.entry.0 c.args.sample.now.nonce (waiting_of earlier))
    c.in_ok-values-in-Some-latest.ensures

pub returns-clause-ok : goal.returns-clause-ok
returns-clause-ok c = λ (earlier : List Call) (s : CallsStandForRecords c.args.self.now earlier).
    let Q : Call → Type 0 = λ call. Holds c.take.new.self (waiting_of (call ∷ earlier)) in
    subst Q (sym (call_of_exit c.args.points.now (shown c.args.sample.now) c.in-Some.entry.0 (sym c.in-Some.ensures.entry)))
    (c.take.ensures earlier s (some_taken (taken_by c.in-Some.entry.0 c.args.sample.now.nonce (waiting_of earlier)) c.in-Some-latest.kept.now (c.in-Some-latest.ensures earlier s)))
