use Rattle.std.proofs.Common.{◌≡◌, ℕ, ℤ, List, get_or, take, drop, length, ◌-◌, w64, SFits, sym, subst, arith, rules}
use Rattle.std.proofs.lemmas.Int.{to_z-of_z}
use Rattle.dk_trace.specs.Whole.{NumberStands}
use Rattle.dk_trace.proofs.Digits.{number_stands}
use Rattle.dk_base.proofs.Digits.{one_front}
use Rattle.dk_trace.proofs.whole.number_line.Goals as goal

pub returns-in-10 : goal.returns-in-10
returns-in-10 c =
    let lf : get_or c.in-Some.behind.now 0 0 ≡ 10 = search rules in
    let fits : SFits w64 c.in-Some.number = search rules in
    let rest : List ℕ = take (length c.in-Some.behind.now - 1) (drop 1 c.in-Some.behind.now) in
    subst (λ (z : ℤ). NumberStands c.args.bytes.now z rest) (sym (to_z-of_z w64 c.in-Some.number fits))
    (number_stands c.args.bytes.now c.in-Some.behind.now rest c.in-Some.number (search rules)
    (one_front c.in-Some.behind.now 10 (omega (arith, c.in-10.len_at_least)) lf))
