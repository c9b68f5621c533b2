use Rattle.std.proofs.Common.{◌≡◌, length, pos, arith, w64, sym}
use Rattle.std.proofs.lemmas.Int.{to_z-of_z}
use Rattle.std.specs.FinMap.{int_cmp-IsAntisymmetric}
use Rattle.std.proofs.lemmas.Cmp.{int_cmp_total}
use Rattle.std.proofs.Math.Seq.{drop-length}
use Rattle.dk_forms.proofs.Putting.{put_at_equal, put_at_less, put_at_greater, put_at_end}
use Rattle.dk_forms.proofs.few.ints.find_place.Goals as goal

pub returns-in-Less : goal.returns-in-Less
returns-in-Less c =
    let so_far = rw (to_z-of_z w64 c.args.x c.ranges.x) at c.loop-i.invariant.1 in
    let is = rw (to_z-of_z w64 c.args.x c.ranges.x) at c.in-Less.ensures in
    (omega arith, put_at_less int_cmp_total int_cmp-IsAntisymmetric (pos 0) _ _ _ c.loop-i-test.true (sym is) so_far)

pub returns-in-Equal : goal.returns-in-Equal
returns-in-Equal c =
    let so_far = rw (to_z-of_z w64 c.args.x c.ranges.x) at c.loop-i.invariant.1 in
    let is = rw (to_z-of_z w64 c.args.x c.ranges.x) at c.in-Equal.ensures in
    put_at_equal int_cmp_total int_cmp-IsAntisymmetric (pos 0) _ _ _ c.loop-i-test.true (sym is) so_far

pub loop-i-preserved : goal.loop-i-preserved
loop-i-preserved c =
    let so_far = rw (to_z-of_z w64 c.args.x c.ranges.x) at c.loop-i.invariant.1 in
    let is = rw (to_z-of_z w64 c.args.x c.ranges.x) at c.in-Greater.ensures in
    (omega arith, rw (to_z-of_z w64 c.args.x c.ranges.x) (put_at_greater int_cmp_total int_cmp-IsAntisymmetric (pos 0) _ _ _ c.loop-i-test.true (sym is) so_far))

pub returns : goal.returns
returns c =
    let so_far = rw (to_z-of_z w64 c.args.x c.ranges.x) at c.loop-i.invariant.1 in
    let at_end : c.loop-i.i ≡ length c.args.items.now = omega arith in
    (omega arith, put_at_end int_cmp_total int_cmp-IsAntisymmetric (pos 0) _ _ _ (drop-length c.args.items.now) (rw at_end at so_far))
