use Rattle.std.proofs.Common.{sym, ◌∙◌}
use Rattle.dk_claims.proofs.Counting.{no_digit_last, nothing_last, without_all}
use Rattle.dk_claims.proofs.counts.without_digits.Goals as goal

pub returns-then-not-is_ascii_digit : goal.returns-then-not-is_ascii_digit
returns-then-not-is_ascii_digit c =
    let i = c.digits.invariant in
    without_all _ _ i.0 i.1 i.2 (no_digit_last _ c.in-len1-up.len_at_least (sym c.is_ascii_digit.ensures.value ∙ c.if-not-is_ascii_digit.true))

pub returns : goal.returns
returns c = let i = c.digits.invariant in without_all _ _ i.0 i.1 i.2 (nothing_last _ c.in_default.len_below)
