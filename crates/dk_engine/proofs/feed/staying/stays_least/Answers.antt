use Rattle.std.specs.Prelude.{◌≡◌, []}
use Rattle.std.proofs.Common.{◌∙◌, rules, sym}
use Rattle.dk_base.specs.Values.{values_of}
use Rattle.dk_base.specs.declared.values.Value.TheVariants as value
use Rattle.dk_samples.specs.Samples.{value_in}
use Rattle.dk_engine.proofs.Bounding.{least_kept, lower_slot, slot_of_missing}
use Rattle.dk_engine.specs.Idle.Bounding.{keeps_least}
use Rattle.dk_engine.proofs.feed.staying.stays_least.Goals as goal

pub returns-in-Int : goal.returns-in-Int
returns-in-Int c h =
    let slot = c.args.slot.now in
    let sample = values_of c.args.sample.now in
    let x = c.in-Int.x in
    let at : value_in sample c.args.v ≡ value.Int x = search rules in
    let kept : c.keeps_least.result ≡ keeps_least slot.state x = search rules in
    sym (lower_slot slot c.requires.row c.args.v c.requires.leaders sample x at) ∙ least_kept slot.state x (sym kept ∙ h)

pub returns-in-Missing : goal.returns-in-Missing
returns-in-Missing c h =
    let sample = values_of c.args.sample.now in
    let at : value_in sample c.args.v ≡ value.Missing = search rules in
    slot_of_missing c.args.slot.now sample c.args.v [] c.requires.leaders at
