use Rattle.std.proofs.Common.{◌≡◌, rules, subst}
use Rattle.dk_engine.specs.Saved.Bitmaps.{IsBitmap}
use Rattle.dk_engine.proofs.MappingFacts.{bitmap_of}
use Rattle.dk_engine.proofs.saved.bitmaps.Bitmaps.map.Goals as goal

pub returns-in-Some : goal.returns-in-Some
returns-in-Some c =
    let patterns = c.self.inside.presence.now in
    let words = c.as_slice.result.now in
    let view : patterns ≡ c.args.self.now = search rules in
    subst (λ hs. IsBitmap hs c.args.v words) view
    (bitmap_of patterns c.self.inside.leaders.now c.self.inside.maps.now c.args.v c.in-Some.place c.index-self-place.result words c.self.invariant.1 c.in-Some.ensures (search rules) (search rules))
