use Rattle.std.proofs.Common.{◌≡◌, rules, subst}
use Rattle.dk_presence.specs.Patterns.{AreHeld}
use Rattle.dk_engine.proofs.BitmapFacts.{one_alike, one_long, three_alike, three_long, two_alike, two_long}
use Rattle.dk_engine.proofs.saved.bitmaps.Bitmaps.are_together.Goals as goal

pub returns-in-len1 : goal.returns-in-len1
returns-in-len1 c =
    let view : c.self.inside.presence.now ≡ c.args.self.now = search rules in
    one_alike c.args.self.now (subst AreHeld view c.self.invariant.0) c.args.vars.now _ c.have_all.result (one_long c.args.vars.now _ c.in-len1.len_at_least c.in-len1.len_below) c.have_all.ensures

pub returns-in-len2 : goal.returns-in-len2
returns-in-len2 c =
    let view : c.self.inside.presence.now ≡ c.args.self.now = search rules in
    two_alike c.args.self.now (subst AreHeld view c.self.invariant.0) c.args.vars.now _ _ c.have_all-in-len2.result (two_long c.args.vars.now _ _ c.in-len2.len_at_least c.in-len2.len_below) c.have_all-in-len2.ensures

pub returns-in-len3 : goal.returns-in-len3
returns-in-len3 c =
    three_alike c.args.self.now c.args.vars.now _ _ _ c.have_all-in-len3.result (three_long c.args.vars.now _ _ _ c.in-len3.len_at_least c.in-len3.len_below) c.have_all-in-len3.ensures
