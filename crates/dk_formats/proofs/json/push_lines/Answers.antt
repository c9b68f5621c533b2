use Rattle.std.proofs.Common.{subst}
use Rattle.std.proofs.lemmas.List.{take_all}
use Rattle.dk_formats.specs.Steps.{AddsJson}
use Rattle.dk_formats.proofs.Adding.{more_json, no_json, says_by}
use Rattle.dk_formats.proofs.json.push_lines.Goals as goal

pub loop-told-init : goal.loop-told-init
loop-told-init c = no_json c.args.vars.now c.args.point.now c.args.text.now

pub loop-told-preserved : goal.loop-told-preserved
loop-told-preserved c =
    let says = says_by c.args.vars.now c.told-item.result.text c.as_slice.result.now c.in_ok-says.says c.as_slice.ensures c.in_ok-says.ensures.read c.in_ok-says.ensures.none in
    more_json c.args.vars.now c.args.lines.now c.loop-told.told-index c.told-item.result c.loop-told-test.true c.told-item.is c.in_ok-says.says says
    c.args.point.now c.args.text.now c.loop-told.text c.push_object.new.text c.loop-told.invariant c.in_ok-push_object.ensures

pub returns : goal.returns
returns c =
    subst (λ lines. AddsJson c.args.vars.now c.args.point.now lines c.args.text.now c.loop-told.text)
    (take_all c.loop-told.told-index c.args.lines.now c.loop-told-test.false) c.loop-told.invariant
