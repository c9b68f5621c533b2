use Rattle.std.proofs.Common.{rules, ◌<◌, ◌+◌, length, drop, get_or, pos, arith, sym, ap, ◌∙◌, SFits, w64}
use Rattle.std.proofs.lemmas.Int.{to_z-of_z}
use Rattle.std.specs.Ordering.{int_cmp}
use Rattle.std.specs.FinMap.{int_cmp-IsAntisymmetric}
use Rattle.std.proofs.lemmas.Cmp.{int_cmp_total}
use Rattle.dk_forms.specs.Ints.{ints_state}
use Rattle.dk_forms.specs.Known.Distinct.{put, put_all}
use Rattle.dk_forms.proofs.DistinctLaws.{length-all_right, at_most-many}
use Rattle.dk_forms.proofs.Putting.{put_all_step}
use Rattle.dk_forms.proofs.few.ints.union.Goals as goal

pub returns-in-None : goal.returns-in-None
returns-in-None c =
    let x = get_or c.args.xs.now c.loop-x.x-index (pos 0) in
    let fits : SFits w64 x = search rules in
    let rest = drop (c.loop-x.x-index + 1) c.args.xs.now in
    let many = rw (to_z-of_z w64 x fits) at c.in-None.ensures in
    let step = put_all_step int_cmp_total int_cmp-IsAntisymmetric (pos 0) c.args.xs.now c.loop-x.all c.loop-x.x-index c.loop-x-test.true in
    let longer = length-all_right int_cmp_total int_cmp-IsAntisymmetric rest (put int_cmp x c.loop-x.all) in
    let same = ap length (sym step ∙ c.loop-x.invariant.1) in
    let h : 3 < length (put_all int_cmp c.args.xs.now c.args.ys) = omega (arith, many, longer, same) in
    sym (ap ints_state (at_most-many int_cmp_total int_cmp-IsAntisymmetric 3 (put_all int_cmp c.args.xs.now c.args.ys) h))

pub loop-x-preserved : goal.loop-x-preserved
loop-x-preserved c =
    let x = get_or c.args.xs.now c.loop-x.x-index (pos 0) in
    let fits : SFits w64 x = search rules in
    let rest = drop (c.loop-x.x-index + 1) c.args.xs.now in
    let more = rw (to_z-of_z w64 x fits) at c.in-Some.ensures.0 in
    let step = put_all_step int_cmp_total int_cmp-IsAntisymmetric (pos 0) c.args.xs.now c.loop-x.all c.loop-x.x-index c.loop-x-test.true in
    (c.in-Some.ensures.1, ap (put_all int_cmp rest) more ∙ sym step ∙ c.loop-x.invariant.1)
