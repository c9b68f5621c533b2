use Rattle.std.proofs.Common.{arith, rules}
use Rattle.dk_trace.proofs.Tidy.{not_true, tidy_ends}
use Rattle.dk_trace.proofs.whole.is_tidy.Goals as goal

pub returns : goal.returns
returns c = λ is one.
    let first = c.is_blank_or_cr.ensures (search rules) in
    let last = c.is_blank_or_cr-2.ensures (not_true c.is_blank_or_cr-2.result is) in
    tidy_ends c.args.line.now (omega arith) one first.0 first.1 last.0 last.1 last.2
