use Rattle.std.proofs.Common.{◌≡◌, ◌+◌, ◌<◌, ◌∷◌, length, min, take, drop, arith, rules}
use Rattle.std.proofs.lemmas.Grind.{common_steps}
use Rattle.dk_base.specs.Words.{trim_blanks}
use Rattle.dk_lines.specs.Left.{without_cr}
use Rattle.dk_turns.specs.Reading.{trimmed_lines}
use Rattle.dk_turns.proofs.Lining.{first_line}
use Rattle.dk_turns.proofs.lines.next_line.Goals as goal

pub returns-clause-first : goal.returns-clause-first
returns-clause-first c =
    let some : 0 < length c.args.bytes.now = search rules in
    let behind : c.min-behind.result ≡ min (length c.args.bytes.now) (c.lf_place-len.result + 1) = search rules in
    let all : trimmed_lines c.args.bytes.now
    ≡ trim_blanks (without_cr (take c.lf_place-len.result c.args.bytes.now)) ∷ trimmed_lines (drop c.min-behind.result c.args.bytes.now) =
    first_line c.args.bytes.now c.lf_place-len.result c.min-behind.result some c.lf_place-len.ensures.len behind in
    let line : c.trim_blanks.result.now ≡ trim_blanks (without_cr (take c.lf_place-len.result c.args.bytes.now)) = grind (arith, common_steps) in
    grind (arith, common_steps)
