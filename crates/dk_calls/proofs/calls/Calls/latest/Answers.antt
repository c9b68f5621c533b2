use Rattle.std.proofs.Common.{◌≡◌, ◌∙◌, ℤ, List, ap, find, option_map, rules, slice_get, of_z, to_z, w64}
use Rattle.dk_base.specs.declared.values.Value.{Value}
use Rattle.dk_calls.specs.Nonces.{values_under}
use Rattle.dk_calls.specs.Stacks.{Plain, is_at}
use Rattle.dk_calls.specs.Standing.{CallsStandForRecords}
use Rattle.dk_calls.specs.Waiting.{Call, waiting_of}
use Rattle.dk_calls.proofs.Waits.{taken_nonce, taken_plain}
use Rattle.dk_calls.proofs.calls.Calls.latest.Goals as goal

pub returns-in-None : goal.returns-in-None
returns-in-None c = λ (earlier : List Call) (s : CallsStandForRecords c.args.self.now earlier).
    rw c.in-None.is
    (c.latest.ensures
    ∙ ap (λ (l : List Plain). option_map (λ (w : Plain). w.values) (find (is_at c.args.entry.0) l)) s.plain
    ∙ taken_plain c.args.entry.0 (waiting_of earlier))

pub returns-in-Some : goal.returns-in-Some
returns-in-Some c = λ (earlier : List Call) (s : CallsStandForRecords c.args.self.now earlier).
    let n : ℤ = c.in-Some.nonce in
    let back : to_z w64 (of_z w64 n) ≡ n = search rules in
    rw c.in-Some.is
    (c.latest-in-Some.ensures
    ∙ ap (λ (m : ℤ). slice_get (values_under c.args.entry.0 m c.args.self.now.nonces) 0) back
    ∙ ap (λ (l : List (List Value)). slice_get l 0) (s.nonces c.args.entry.0 n)
    ∙ taken_nonce c.args.entry.0 n (waiting_of earlier))
