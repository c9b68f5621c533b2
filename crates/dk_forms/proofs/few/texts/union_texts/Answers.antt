use Rattle.std.proofs.Common.{rules, sym, ap, ◌∙◌, ◌≡◌, ◌<◌, ◌≤◌, length}
use Rattle.std.specs.Ordering.{nat_cmp}
use Rattle.std.specs.Cmp.Lexicographic.{nat_list_cmp_total, slice_cmp}
use Rattle.std.specs.FinMap.{nat_cmp-IsAntisymmetric, slice_cmp-IsAntisymmetric}
use Rattle.dk_forms.specs.Known.Distinct.{put, put_all}
use Rattle.dk_forms.specs.Texts.{texts_state}
use Rattle.dk_forms.proofs.Gathering.{gathered_more, gathered_too_many}
use Rattle.dk_forms.proofs.few.texts.union_texts.Goals as goal

pub returns-in-None : goal.returns-in-None
returns-in-None c =
    let x = c.as_slice.result.now in
    let many : 3 < length (put (slice_cmp nat_cmp) x c.loop-x.all) = search rules in
    sym (ap texts_state (gathered_too_many nat_list_cmp_total (slice_cmp-IsAntisymmetric nat_cmp-IsAntisymmetric) c.x-item.result 3 c.args.xs.now c.loop-x.all
    (put_all (slice_cmp nat_cmp) c.args.xs.now c.args.ys) c.loop-x.x-index x c.loop-x-test.true (c.as_slice.ensures ∙ c.x-item.is) c.loop-x.invariant.1 many))

pub loop-x-preserved : goal.loop-x-preserved
loop-x-preserved c =
    let x = c.as_slice.result.now in
    let more = c.in-Some.more in
    let told : (more ≡ put (slice_cmp nat_cmp) x c.loop-x.all) × (length more ≤ 3) = search rules in
    gathered_more nat_list_cmp_total (slice_cmp-IsAntisymmetric nat_cmp-IsAntisymmetric) c.x-item.result 3 c.args.xs.now c.loop-x.all
    (put_all (slice_cmp nat_cmp) c.args.xs.now c.args.ys) c.loop-x.x-index x c.loop-x-test.true (c.as_slice.ensures ∙ c.x-item.is) c.loop-x.invariant.1 more told
