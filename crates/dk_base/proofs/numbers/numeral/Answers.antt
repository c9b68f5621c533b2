use Rattle.std.proofs.Common.{◌∙◌, ◌<◌, get_or, arith}
use Rattle.std.specs.Char.{digit_value}
use Rattle.dk_base.proofs.Numerals.{one_digit_more, others_decide}
use Rattle.dk_base.proofs.numbers.numeral.Goals as goal

pub loop-byte-preserved : goal.loop-byte-preserved
loop-byte-preserved c =
    let below : digit_value (get_or c.args.text.now c.loop-byte.byte-index 0) < c.args.radix = omega (arith, c.digit_value-digit.ensures) in
    record {
      so_far = one_digit_more c.args.radix c.args.text.now c.loop-byte.byte-index c.loop-byte.total c.with_digit-total.result c.digit_value-digit.result
          c.requires c.loop-byte-test.true c.loop-byte.invariant.so_far c.digit_value-digit.ensures c.with_digit-total.ensures;
      others = others_decide c.args.radix c.args.text.now c.loop-byte.byte-index c.loop-byte-test.true below ∙ c.loop-byte.invariant.others;
    }
