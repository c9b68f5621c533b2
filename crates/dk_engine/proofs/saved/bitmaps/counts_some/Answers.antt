use Rattle.std.proofs.Common.{◌≡◌, subst}
use Rattle.dk_engine.specs.Saved.Bitmaps.{are_together}
use Rattle.dk_engine.proofs.BitmapFacts.{counted_if}
use Rattle.dk_engine.proofs.saved.bitmaps.counts_some.Goals as goal

pub returns : goal.returns
returns c =
    let held = c.args.presence.now in
    let same : c.held.result.now ≡ held = c.held.ensures.all in
    counted_if held c.held.ensures.held c.args.vars.now c.some_has_each.result (subst (λ hs. c.some_has_each.result ≡ are_together hs c.args.vars.now) same c.some_has_each.ensures)
