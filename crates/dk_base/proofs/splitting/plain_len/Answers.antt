use Rattle.std.proofs.Common.{◌≡◌, get_or, false, rules}
use Rattle.std.specs.Prelude.{◌==◌}
use Rattle.dk_base.specs.Pieces.{is_blank}
use Rattle.dk_base.proofs.Splits.{no_quote, plain_longer}
use Rattle.dk_base.proofs.splitting.plain_len.Goals as goal

pub loop-i-preserved : goal.loop-i-preserved
loop-i-preserved c =
    let blank : is_blank (get_or c.args.text.now c.loop-i.i 0) ≡ false = search rules in
    let quote : (get_or c.args.text.now c.loop-i.i 0 == 34) ≡ false = no_quote _ (search rules) in
    plain_longer c.args.cut c.args.text.now c.loop-i.i c.loop-i-test.true blank quote c.loop-i.invariant
