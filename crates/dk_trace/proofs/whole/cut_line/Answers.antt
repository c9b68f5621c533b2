use Rattle.std.proofs.Common.{◌+◌, List, ℕ, take, sym, subst, rules}
use Rattle.dk_base.proofs.Digits.{to_end}
use Rattle.dk_trace.proofs.Tidy.{first_cut}
use Rattle.dk_trace.specs.Whole.{IsCut}
use Rattle.dk_trace.proofs.whole.cut_line.Goals as goal

pub returns-then-is_tidy : goal.returns-then-is_tidy
returns-then-is_tidy c =
    subst (λ (l : List ℕ). IsCut c.args.bytes.now (take c.in-Some.len c.args.bytes.now) l) (sym (to_end c.args.bytes.now (c.in-Some.len + 1)))
    (first_cut c.args.bytes.now c.in-Some.len c.in-Some.ensures.0 c.in-Some.ensures.1 (c.is_tidy.ensures (search rules)))
