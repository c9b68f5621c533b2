use Rattle.std.proofs.lemmas.Bool.{ltb-true}
use Rattle.std.proofs.Common.{◌∙◌, ◌<◌, [], length, Some, ap, sym}
use Rattle.dk_base.specs.Values.{values_of as shown_by}
use Rattle.dk_trace.specs.Values.{then_values}
use Rattle.dk_trace.proofs.Left.{cut_in_front}
use Rattle.dk_trace.proofs.values.finish_values.Goals as goal

pub returns-in-Some : goal.returns-in-Some
returns-in-Some c =
    let within : c.in_ok-index.index < length c.args.vars.now = ltb-true _ _ (sym c.in-Some.ensures.lookup.0) in
    rw c.refuse.ensures
    (c.in_ok-index.ensures.same [] (Some c.args.line)
    ∙ ap (then_values (shown_by c.past_constants.new.values.items)) (cut_in_front c.args.vars.now c.in_ok-index.index c.args.line c.in_ok-index.ensures.in_records within))
