use Rattle.std.proofs.Common.{arith, ap, refl, w64, to_z}
use Rattle.std.proofs.lemmas.Bool.Decides.{Decides-int_eq}
use Rattle.std.proofs.lemmas.Int.{to_z-of_z}
use Rattle.std.specs.Int.{int_wrapping_sub}
use Rattle.dk_lanes.proofs.BlockLemmas.{left_decides}
use Rattle.dk_lanes.proofs.OffsetLemmas.{apart, below_exact, above_exact, below_yes, below_no}
use Rattle.dk_lanes.proofs.offsets.is_above_alike.Goals as goal

pub returns-then-b-a : goal.returns-then-b-a
returns-then-b-a c =
    let low = rw (to_z-of_z w64 c.args.y c.ranges.y, to_z-of_z w64 c.args.x c.ranges.x) at c.if-y-x.true in
    let wraps = (Decides-int_eq (int_wrapping_sub w64 c.args.b c.args.a) (int_wrapping_sub w64 c.args.y c.args.x)).1 (ap (to_z w64) c.if-b-a.true) in
    rw (to_z-of_z w64 c.args.b c.ranges.b, to_z-of_z w64 c.args.a c.ranges.a)
    (left_decides _ wraps (below_exact c.args.x c.args.y c.ranges.x c.ranges.y (below_yes c.args.x c.args.y low) c.args.a c.args.b c.ranges.a c.ranges.b))

pub returns-then-b-a-2 : goal.returns-then-b-a-2
returns-then-b-a-2 c =
    let high = rw (to_z-of_z w64 c.args.y c.ranges.y, to_z-of_z w64 c.args.x c.ranges.x) at c.if-y-x.false in
    let wraps = (Decides-int_eq (int_wrapping_sub w64 c.args.b c.args.a) (int_wrapping_sub w64 c.args.y c.args.x)).1 (ap (to_z w64) c.if-b-a-2.true) in
    rw (to_z-of_z w64 c.args.b c.ranges.b, to_z-of_z w64 c.args.a c.ranges.a)
    (left_decides _ wraps (above_exact c.args.x c.args.y c.ranges.x c.ranges.y (below_no c.args.x c.args.y high) c.args.a c.args.b c.ranges.a c.ranges.b))

pub returns-else-b-a-2 : goal.returns-else-b-a-2
returns-else-b-a-2 c = apart c.args.x c.args.y c.ranges.x c.ranges.y c.args.a c.args.b c.ranges.a c.ranges.b _ _ (omega arith) (omega arith) refl refl c.if-b-a-2.false
