use Rattle.std.specs.Prelude.{◌≡◌}
use Rattle.std.proofs.Common.{◌∙◌, rules, sym}
use Rattle.dk_base.specs.Values.{values_of}
use Rattle.dk_base.specs.declared.values.Value.TheVariants as value
use Rattle.dk_samples.specs.Samples.{value_in}
use Rattle.dk_engine.proofs.Bounding.{compared_slot, compared_so, holds_of}
use Rattle.dk_engine.specs.Idle.Bounding.{compares}
use Rattle.dk_engine.proofs.feed.staying.stays_compared.Goals as goal

pub returns-then-holds : goal.returns-then-holds
returns-then-holds c h =
    let slot = c.args.slot.now in
    let sample = values_of c.args.sample.now in
    let u = c.args.u in
    let v = c.args.v in
    let low = c.requires.from in
    let high = c.requires.to in
    let x = c.in-Int-Int.x in
    let y = c.in-Int-Int.y in
    let at_u : value_in sample u ≡ value.Int x = search rules in
    let at_v : value_in sample v ≡ value.Int y = search rules in
    let so : c.is_so.result ≡ compares slot.row.0 x y = search rules in
    let holds = holds_of slot.state (sym c.holds.ensures ∙ c.if-holds.true) in
    compared_slot slot low high u v c.requires.leaders holds sample x y at_u at_v (compared_so slot.row x y low high (sym so ∙ h))
