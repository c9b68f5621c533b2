use Rattle.std.proofs.Common.{◌≡◌, ◌⊎◌, ◌<◌, inl, inr, arith, rules, ◌-◌, length, take, drop}
use Rattle.dk_base.proofs.Digits.{are_short, no_digits, to_end}
use Rattle.dk_base.proofs.numbers.short_digits.Goals as goal
use Rattle.dk_base.proofs.numbers.short_digits.Goals.{then-len-eq0-via-then-len-eq0, then-len-eq0-via-else-len-eq0+then-len-gt18}

pub returns-then-len-eq0 : goal.returns-then-len-eq0
returns-then-len-eq0 c =
    let out : (c.read_digits-len.result.0 ≡ 0) ⊎ (18 < c.read_digits-len.result.0) = elim c.then-len-eq0.branch [
      | then-len-eq0-via-then-len-eq0 w ↦ inl w.if-len-eq0.true
      | then-len-eq0-via-else-len-eq0+then-len-gt18 w ↦ inr w.if-len-gt18.true
    ] in
    no_digits c.args.bytes.now c.read_digits-len.result.0 (search rules) out

pub returns : goal.returns
returns c =
    are_short c.args.bytes.now (take (length c.args.bytes.now - c.read_digits-len.result.0) (drop c.read_digits-len.result.0 c.args.bytes.now)) c.read_digits-len.result.0 c.read_digits-len.result.1
    (search rules) (omega arith) (omega arith) (search rules) (to_end c.args.bytes.now c.read_digits-len.result.0)
