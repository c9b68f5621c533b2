use Rattle.dk_template.proofs.Listing.{listed_more, proper_more}
use Rattle.dk_template.proofs.laws.state_of_list.Goals as goal

pub loop-tuple-preserved : goal.loop-tuple-preserved
loop-tuple-preserved g c =
    let laws = g.met.R.Row.laws c.args.row.now in
    let i = c.loop-tuple.tuple-index in
    let so_far = c.loop-tuple.invariant.0 in
    let point = c.in_ok-one.ensures.state in
    let join = c.in_ok-state.ensures.state in (
      listed_more laws c.args.tuples.now c.requires i _ c.loop-tuple-test.true _ _ _ so_far point join,
      proper_more laws c.args.tuples.now c.requires i _ c.loop-tuple-test.true _ _ _ so_far point join c.loop-tuple.invariant.1,
    )
