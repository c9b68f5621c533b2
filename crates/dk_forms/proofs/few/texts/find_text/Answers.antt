use Rattle.std.proofs.Common.{◌≡◌, length, [], arith, sym, ap, ◌∙◌}
use Rattle.std.proofs.Math.Seq.{drop-length}
use Rattle.std.specs.Ordering.{nat_cmp}
use Rattle.std.specs.Cmp.Lexicographic.{slice_cmp, nat_list_cmp_total}
use Rattle.std.specs.FinMap.{nat_cmp-IsAntisymmetric, slice_cmp-IsAntisymmetric}
use Rattle.dk_forms.proofs.Putting.{put_at_equal, put_at_less, put_at_greater, put_at_end}
use Rattle.dk_forms.proofs.few.texts.find_text.Goals as goal

pub returns-in-Less : goal.returns-in-Less
returns-in-Less c =
    let y = c.index-items-i.result in
    let is = ap (slice_cmp nat_cmp c.args.x.now) (sym c.index-items-i.is ∙ sym c.as_slice.ensures) ∙ sym c.in-Less.ensures in
    (omega arith, put_at_less nat_list_cmp_total (slice_cmp-IsAntisymmetric nat_cmp-IsAntisymmetric) y _ _ _ c.loop-i-test.true is c.loop-i.invariant.1)

pub returns-in-Equal : goal.returns-in-Equal
returns-in-Equal c =
    let y = c.index-items-i.result in
    let is = ap (slice_cmp nat_cmp c.args.x.now) (sym c.index-items-i.is ∙ sym c.as_slice.ensures) ∙ sym c.in-Equal.ensures in
    put_at_equal nat_list_cmp_total (slice_cmp-IsAntisymmetric nat_cmp-IsAntisymmetric) y _ _ _ c.loop-i-test.true is c.loop-i.invariant.1

pub loop-i-preserved : goal.loop-i-preserved
loop-i-preserved c =
    let y = c.index-items-i.result in
    let is = ap (slice_cmp nat_cmp c.args.x.now) (sym c.index-items-i.is ∙ sym c.as_slice.ensures) ∙ sym c.in-Greater.ensures in
    (omega arith, put_at_greater nat_list_cmp_total (slice_cmp-IsAntisymmetric nat_cmp-IsAntisymmetric) y _ _ _ c.loop-i-test.true is c.loop-i.invariant.1)

pub returns : goal.returns
returns c =
    let at_end : c.loop-i.i ≡ length c.args.items.now = omega arith in
    (omega arith, put_at_end nat_list_cmp_total (slice_cmp-IsAntisymmetric nat_cmp-IsAntisymmetric) [] _ _ _ (drop-length c.args.items.now) (rw at_end at c.loop-i.invariant.1))
