use Rattle.std.specs.Prelude.{◌≡◌, ◌∷◌, []}
use Rattle.std.proofs.Common.{rules, subst}
use Rattle.dk_base.specs.Values.{values_of}
use Rattle.dk_base.specs.declared.values.Value.TheVariants as value
use Rattle.dk_forms.specs.Plane.{plane_join, plane_of}
use Rattle.dk_forms.specs.declared.states.State.{State}
use Rattle.dk_samples.specs.Samples.{value_in}
use Rattle.dk_engine.proofs.Stretches.{planar_slot}
use Rattle.dk_engine.specs.Feeding.Narrow.{IsSeen}
use Rattle.dk_engine.proofs.feed.growing.seen_by.Goals as goal

pub returns-in-Some-Some-Some : goal.returns-in-Some-Some-Some
returns-in-Some-Some-Some c =
    let slot = c.args.slot.now in
    let place = c.args.place in
    let sample = values_of c.args.sample.now in
    let n = c.in-Some-Some-Some in
    let at_u : value_in sample c.args.u ≡ value.Int n.x = search rules in
    let at_v : value_in sample c.args.v ≡ value.Int n.y = search rules in
    let at_w : value_in sample c.args.w ≡ value.Int n.z = search rules in
    let seen : IsSeen slot (plane_join slot.state (plane_of ((n.x, n.y, n.z) ∷ []))) place c.seen_at.result = search rules in
    subst (λ (made : State). IsSeen slot made place c.seen_at.result) (planar_slot slot c.requires.row c.args.u c.args.v c.args.w c.requires.leaders sample n.x n.y n.z at_u at_v at_w) seen
