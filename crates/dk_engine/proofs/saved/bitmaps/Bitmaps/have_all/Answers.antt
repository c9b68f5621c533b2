use Rattle.std.proofs.Common.{◌≡◌, ◌∷◌, [], rules, subst}
use Rattle.dk_presence.specs.Patterns.{AreHeld}
use Rattle.dk_engine.proofs.BitmapFacts.{counted_if}
use Rattle.dk_engine.proofs.saved.bitmaps.Bitmaps.have_all.Goals as goal

pub returns-in-Some-Some-Some : goal.returns-in-Some-Some-Some
returns-in-Some-Some-Some c =
    let held = c.args.self.now in
    let view : c.self.inside.presence.now ≡ held = search rules in
    let maps = c.in-Some-Some-Some in
    counted_if held (subst AreHeld view c.self.invariant.0) (c.args.x ∷ c.args.y ∷ c.args.z ∷ []) c.have_common_bit.result
    (c.have_common_bit.ensures held c.args.x c.args.y c.args.z maps.ensures maps.ensures' maps.ensures'')
