use Rattle.dk_base.proofs.Digits.{size_below}
use Rattle.dk_base.proofs.numbers.short_number.Goals as goal

pub with_sign-requires : goal.with_sign-requires
with_sign-requires c = size_below _ _ _ c.in-Some.ensures
