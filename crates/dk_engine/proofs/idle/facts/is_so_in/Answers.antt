use Rattle.std.specs.Prelude.{◌≡◌}
use Rattle.std.proofs.Common.{◌∙◌, ap, rules, sym}
use Rattle.dk_base.specs.Values.{values_of}
use Rattle.dk_base.specs.declared.values.Value.TheVariants as value
use Rattle.dk_samples.specs.Samples.{value_in}
use Rattle.dk_engine.specs.Idle.{compares_first, compares_values}
use Rattle.dk_engine.specs.Idle.Bounding.{compares}
use Rattle.dk_engine.proofs.idle.facts.is_so_in.Goals as goal

pub returns-in-Some-Some : goal.returns-in-Some-Some
returns-in-Some-Some c =
    let one = c.args.one.now in
    let sample = values_of c.args.sample.now in
    let x = c.in-Some-Some.x in
    let y = c.in-Some-Some.y in
    let at_first : value_in sample one.first ≡ value.Int x = search rules in
    let at_second : value_in sample one.second ≡ value.Int y = search rules in
    let so : c.is_so.result ≡ compares one.row.0 x y = search rules in
    so ∙ sym (ap (λ i. compares_values one.row.0 i (value_in sample one.second)) at_first ∙ ap (compares_first one.row.0 x) at_second)
