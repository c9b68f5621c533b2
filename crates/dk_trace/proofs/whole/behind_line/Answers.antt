use Rattle.std.proofs.Common.{◌∙◌, ◌∷◌, ◌++◌, ◌+◌, List, ℕ, length, sym, ap, arith, rules}
use Rattle.dk_base.proofs.Digits.{to_end}
use Rattle.dk_trace.proofs.Tidy.{differs, follows}
use Rattle.dk_trace.proofs.whole.behind_line.Goals as goal

pub returns-then-not-same_bytes : goal.returns-then-not-same_bytes
returns-then-not-same_bytes c = differs c.args.bytes.now c.args.line.now c.same_bytes.result (search rules) (search rules)

pub returns : goal.returns
returns c =
    follows c.args.bytes.now c.args.line.now c.same_bytes.result (search rules) (search rules) (omega arith) (search rules)
    ∙ ap (λ (l : List ℕ). c.args.line.now ++ 10 ∷ l) (sym (to_end c.args.bytes.now (length c.args.line.now + 1)))
