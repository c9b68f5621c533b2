use Rattle.std.proofs.Common.{◌≡◌, ◌∙◌, ◌∷◌, ℕ, ℤ, List, Option, Some, None, ap, refl, rules, subst, sym, of_z, to_z, w64, if◌then◌else◌}
use Rattle.dk_base.specs.declared.values.Value.{Value}
use Rattle.dk_trace.specs.RecordsResumed.{shown}
use Rattle.dk_calls.specs.Nonces.{same_key, values_under}
use Rattle.dk_calls.specs.Records.{entry_with}
use Rattle.dk_calls.specs.Standing.{CallsStandForRecords, Holds}
use Rattle.dk_calls.specs.Waiting.{Call, Entry, waiting_of}
use Rattle.dk_calls.specs.declared.calls.Calls.{Calls}
use Rattle.dk_calls.proofs.Holding.{call_of_entry, entered_nonced, entered_plain, on_ok}
use Rattle.dk_calls.proofs.Waits.{entry}
use Rattle.dk_calls.proofs.calls.Calls.enter.Goals as goal

pub returns-in-None-clause-ok : goal.returns-in-None-clause-ok
returns-in-None-clause-ok c = on_ok c.push.result
    (λ pushed. λ (earlier : List Call) (s : CallsStandForRecords c.args.self.now earlier).
    let after : Calls = record { alloc = c.args.self.now.alloc; plain = c.push.new.self; nonces = c.args.self.now.nonces } in
    let own : entry c.args.sample.now.point.0 None c.in_ok-values.values ≡ entry_with (shown c.args.sample.now) =
    ap (λ (n : Option ℤ). entry c.args.sample.now.point.0 n c.in_ok-values.values) (sym c.in-None.is)
    ∙ ap (λ (vs : List Value). entry c.args.sample.now.point.0 c.args.sample.now.nonce vs) c.in_ok-values.ensures in
    let P : Entry → Type 0 = λ w. Holds after (w ∷ waiting_of earlier) in
    let Q : Call → Type 0 = λ call. Holds after (waiting_of (call ∷ earlier)) in
    subst Q (sym (call_of_entry c.args.points.now (shown c.args.sample.now) c.requires))
    (subst P own (entered_plain c.args.self.now after c.args.sample.now.point.0 c.in_ok-values.values (waiting_of earlier) pushed (λ (q : ℕ) (m : ℤ). refl) s)))
    c.push.ensures.ok

pub returns-in-Some-clause-ok : goal.returns-in-Some-clause-ok
returns-in-Some-clause-ok c = on_ok c.push-in-Some.result
    (λ pushed. λ (earlier : List Call) (s : CallsStandForRecords c.args.self.now earlier).
    let after : Calls = record { alloc = c.args.self.now.alloc; plain = c.args.self.now.plain; nonces = c.push-in-Some.new.self } in
    let n : ℤ = c.in-Some.nonce in
    let back : to_z w64 (of_z w64 n) ≡ n = search rules in
    let own : entry c.args.sample.now.point.0 (Some n) c.in_ok-values.values ≡ entry_with (shown c.args.sample.now) =
    ap (λ (k : Option ℤ). entry c.args.sample.now.point.0 k c.in_ok-values.values) (sym c.in-Some.is)
    ∙ ap (λ (vs : List Value). entry c.args.sample.now.point.0 c.args.sample.now.nonce vs) c.in_ok-values.ensures in
    let P : Entry → Type 0 = λ w. Holds after (w ∷ waiting_of earlier) in
    let Q : Call → Type 0 = λ call. Holds after (waiting_of (call ∷ earlier)) in
    subst Q (sym (call_of_entry c.args.points.now (shown c.args.sample.now) c.requires))
    (subst P own (entered_nonced c.args.self.now after c.args.sample.now.point.0 n c.in_ok-values.values (waiting_of earlier) refl
    (λ (q : ℕ) (m : ℤ). pushed q m
    ∙ ap (λ (k : ℤ). if same_key (c.args.sample.now.point.0, k) (q, m) then c.in_ok-values.values ∷ values_under q m c.args.self.now.nonces else values_under q m c.args.self.now.nonces) back) s)))
    c.push-in-Some.ensures.ok
