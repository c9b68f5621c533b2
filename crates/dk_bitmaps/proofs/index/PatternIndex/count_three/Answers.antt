use Rattle.std.proofs.Common.{rules, ◌≡◌, ◌∙◌, List, subst, sym}
use Rattle.dk_presence.specs.Patterns.{has}
use Rattle.dk_presence.specs.declared.held.Held.{Held}
use Rattle.dk_bitmaps.specs.Bitmaps.{AreDigitMaps, Indexed}
use Rattle.dk_bitmaps.proofs.Counts.{three_counted, three_told}
use Rattle.dk_bitmaps.proofs.index.PatternIndex.count_three.Goals as goal

pub returns : goal.returns
returns c =
    let index : Indexed = c.args.self.now in
    let x = c.args.x in
    let y = c.args.y in
    let z = c.args.z in
    let view : c.self.inside.presence.now ≡ index.held = search rules in
    let digits = subst (λ (held : List Held). AreDigitMaps held c.self.inside.digits.items) view c.self.invariant.2 in
    let here = subst (AreDigitMaps index.held) (sym c.as_slice.ensures.value) digits in
    let counted =
    c.common_sum.ensures index.held (λ h. has h.leaders x) (λ h. has h.leaders y) (λ h. has h.leaders z) here c.in_ok-a.ensures.map c.in_ok-b.ensures.map c.in_ok-c.ensures.map
    ∙ three_counted index.held x y z
    in
    three_told index x y z c.common_sum.result (sym c.in_ok-a.ensures.there) (sym c.in_ok-b.ensures.there) (sym c.in_ok-c.ensures.there) counted
