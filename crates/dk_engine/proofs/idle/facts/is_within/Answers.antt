use Rattle.std.specs.Prelude.{◌≡◌, ◌&&◌, int_le}
use Rattle.std.proofs.Common.{◌∙◌, ap, rules, sym}
use Rattle.dk_base.specs.Values.{values_of}
use Rattle.dk_base.specs.declared.values.Value.TheVariants as value
use Rattle.dk_samples.specs.Samples.{value_in}
use Rattle.dk_engine.specs.Idle.{is_between}
use Rattle.dk_engine.proofs.idle.facts.is_within.Goals as goal

pub returns-in-Some : goal.returns-in-Some
returns-in-Some c =
    let range = c.args.range.now in
    let x = c.in-Some.x in
    let at : value_in (values_of c.args.sample.now) range.var ≡ value.Int x = search rules in
    let includes : c.includes.result ≡ (int_le range.least x && int_le x range.greatest) = search rules in
    includes ∙ sym (ap (is_between range.least range.greatest) at)
