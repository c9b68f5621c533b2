use Rattle.std.proofs.Common.{◌<◌, length, sym, ◌∙◌, below_more, arith}
use Rattle.std.proofs.lemmas.Bool.{false≢true}
use Rattle.dk_classes.proofs.OfKind.{kind_read}
use Rattle.dk_classes.proofs.steps.first_of_kind.Goals as goal

pub loop-w-preserved : goal.loop-w-preserved
loop-w-preserved c = below_more _ _ c.loop-w.invariant (λ e.
    let lw : c.loop-w.w < length c.args.vars.now = omega arith in
    let w = kind_read c.args.vars.now c.loop-w.w c.index-vars-w.result lw in
    let v = kind_read c.args.vars.now c.args.v c.index-vars-v.result c.requires in
    false≢true (c.if-is_same_kind.ensures.1 (sym w ∙ (e ∙ v))))
