use Rattle.std.specs.Prelude.{◌≡◌, ◌∷◌, [], IfSome}
use Rattle.std.proofs.Common.{◌∙◌, rules}
use Rattle.std.proofs.lemmas.Option.{IfSome_then}
use Rattle.dk_base.specs.Values.{values_of}
use Rattle.dk_base.specs.declared.values.Value.TheVariants as value
use Rattle.dk_forms.specs.Greatest.{greatest_join, greatest_of}
use Rattle.dk_samples.specs.Samples.{value_in}
use Rattle.dk_engine.proofs.Raising.{upper_slot}
use Rattle.dk_engine.proofs.feed.rising.raise_by.Goals as goal

pub returns-in-Some : goal.returns-in-Some
returns-in-Some c =
    let sample = values_of c.args.sample.now in
    let n = c.in-Some in
    let at : value_in sample c.args.v ≡ value.Int n.x = search rules in
    let told : IfSome c.raise.result (λ s. s ≡ greatest_join c.args.slot.now.state (greatest_of (n.x ∷ []))) = search rules in
    IfSome_then c.raise.result told (λ t e. e ∙ upper_slot c.args.slot.now c.requires.row c.args.v c.requires.leaders sample n.x at)
