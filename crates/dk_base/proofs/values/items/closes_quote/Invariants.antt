use Rattle.std.proofs.Common.{◌≡◌, drop, false}
use Rattle.dk_base.specs.Values.Items.{closes_quote}
use Rattle.dk_base.proofs.values.items.closes_quote.Given as goal

abbrev pub invariant-loop-i : goal.invariant-loop-i
invariant-loop-i l = closes_quote l.escaped (drop l.i l.text) ≡ closes_quote false l.text
