use Rattle.std.proofs.Common.{◌+◌, List, ℕ, subst, sym}
use Rattle.std.specs.Global.{Vec}
use Rattle.dk_presence.specs.declared.held.Held.{Held}
use Rattle.dk_bitmaps.specs.Bitmaps.{AreMaps, is_one_at}
use Rattle.dk_bitmaps.proofs.Making.{maps_more}
use Rattle.dk_bitmaps.proofs.maps.digit_maps.Goals as goal

pub loop-place-preserved : goal.loop-place-preserved
loop-place-preserved c =
    let held = c.args.held.now in
    let place = c.loop-place.place in
    let test = λ (k : ℕ) (h : Held). is_one_at k h.count in
    subst (λ (maps : List (Vec ℕ)). AreMaps held test (place + 1) maps) (sym c.in_ok-push.ensures.items)
    (maps_more held test place c.loop-place.maps.items c.in_ok-bitmap.field-0 c.loop-place.invariant c.in_ok-bitmap.ensures)
