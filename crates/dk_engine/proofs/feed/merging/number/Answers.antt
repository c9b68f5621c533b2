use Rattle.std.specs.Prelude.{◌≡◌}
use Rattle.std.proofs.Common.{rules}
use Rattle.dk_engine.specs.Feeding.Merged.{slot_number, var_in}
use Rattle.dk_engine.proofs.feed.merging.number.Goals as goal

pub returns : goal.returns
unfolding slot_number
returns c =
    let vars = c.args.slot.now.leaders in
    let a : c.var_in.result ≡ var_in vars 0 = search rules in
    let b : c.var_in-2.result ≡ var_in vars 1 = search rules in
    let d : c.var_in-3.result ≡ var_in vars 2 = search rules in
    search rules
