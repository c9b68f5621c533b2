use Rattle.std.proofs.Common.{◌≡◌, ◌∙◌, ℕ, ℤ, List, ap, drop, refl, rules, of_z, to_z, w64, if◌then◌else◌}
use Rattle.dk_calls.specs.Nonces.{same_key, values_under}
use Rattle.dk_calls.specs.Standing.{CallsStandForRecords}
use Rattle.dk_calls.specs.Waiting.{Call, waiting_of}
use Rattle.dk_calls.specs.declared.calls.Calls.{Calls}
use Rattle.dk_calls.proofs.Holding.{took_nonced, took_plain}
use Rattle.dk_calls.proofs.calls.Calls.take.Goals as goal

pub returns-in-None : goal.returns-in-None
returns-in-None c = λ (earlier : List Call) (s : CallsStandForRecords c.args.self.now earlier).
    let after : Calls = record { alloc = c.args.self.now.alloc; plain = c.cut.new.self; nonces = c.args.self.now.nonces } in
    rw c.in-None.is (λ taken. took_plain c.args.self.now after c.args.entry.0 (waiting_of earlier) c.cut.ensures (λ (q : ℕ) (m : ℤ). refl) taken s)

pub returns-in-Some : goal.returns-in-Some
returns-in-Some c = λ (earlier : List Call) (s : CallsStandForRecords c.args.self.now earlier).
    let after : Calls = record { alloc = c.args.self.now.alloc; plain = c.args.self.now.plain; nonces = c.pop.new.self } in
    let n : ℤ = c.in-Some.nonce in
    let back : to_z w64 (of_z w64 n) ≡ n = search rules in
    rw c.in-Some.is (λ taken. took_nonced c.args.self.now after c.args.entry.0 n (waiting_of earlier) refl
    (λ (q : ℕ) (m : ℤ). c.pop.ensures q m
    ∙ ap (λ (k : ℤ). if same_key (c.args.entry.0, k) (q, m) then drop 1 (values_under q m c.args.self.now.nonces) else values_under q m c.args.self.now.nonces) back) s)
