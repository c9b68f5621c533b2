use Rattle.std.proofs.Common.{◌≡◌, ◌+◌, ◌-◌, ◌<◌, ◌&&◌, ◌∙◌, ℕ, Bool, ap, arith, get_or, length, subst, sum_by, sym}
use Rattle.std.specs.Global.{Vec}
use Rattle.dk_presence.specs.Patterns.{capped}
use Rattle.dk_presence.specs.declared.held.Held.{Held}
use Rattle.dk_bitmaps.specs.Bitmaps.{IsBitmap, is_one_at}
use Rattle.dk_bitmaps.proofs.Counts.{all_places, none_before, place_more, rest_at}
use Rattle.dk_bitmaps.proofs.counting.common_sum.Goals as goal

pub loop-place-init : goal.loop-place-init
loop-place-init c = record {
  within = omega arith;
  summed = λ held p q r are ia ib ic. let none = none_before (λ h. p h && (q h && r h)) held (length c.args.digits.now) are.whole in omega (arith, none);
}

pub loop-place-preserved : goal.loop-place-preserved
loop-place-preserved c =
    let place = c.loop-place.place - 1 in
    let some = c.loop-place-test.true in
    let next : c.loop-place.place ≡ place + 1 = omega (arith, some) in
    let most = c.loop-place.invariant.within in
    let within : place < length c.args.digits.now = omega (arith, most, next) in
    record {
      within = omega (arith, most);
      summed = λ held p q r are ia ib ic.
          let test : Held → Bool = λ h. p h && (q h && r h) in
          let one : Held → Bool = λ h. is_one_at place h.count in
          let digit : Vec ℕ = c.index-digits-place.result in
          let at : digit ≡ get_or c.args.digits.now place digit = c.index-digits-place.is in
          let words : c.as_slice.result.now ≡ (get_or c.args.digits.now place digit).items = c.as_slice.ensures.value ∙ ap (λ (m : Vec ℕ). m.items) at in
          let is : IsBitmap held one c.as_slice.result.now = subst (IsBitmap held one) (sym words) (are.maps_are.each place digit within) in
          let ones = c.common-ones.ensures held p q r one ia ib ic is in
          let before = c.loop-place.invariant.summed held p q r are ia ib ic in
          let same : sum_by (rest_at test c.loop-place.place) held ≡ sum_by (rest_at test (place + 1)) held = ap (λ n. sum_by (rest_at test n) held) next in
          let more = place_more test held place in
          omega (arith, ones, before, same, more, c.saturating_mul.ensures, c.saturating_add-sum.ensures);
    }

pub returns : goal.returns
returns c = λ held p q r are ia ib ic.
    let test : Held → Bool = λ h. p h && (q h && r h) in
    let past = c.loop-place-test.false in
    let first : c.loop-place.place ≡ 0 = omega (arith, past) in
    c.loop-place.invariant.summed held p q r are ia ib ic ∙ (ap (λ n. capped (sum_by (rest_at test n) held)) first ∙ ap capped (all_places test held))
