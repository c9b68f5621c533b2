use Rattle.std.specs.Prelude.{◌≡◌}
use Rattle.std.proofs.Common.{◌∙◌, ap, rules, sym}
use Rattle.dk_base.specs.Values.{values_of}
use Rattle.dk_base.specs.declared.values.Value.TheVariants as value
use Rattle.dk_samples.specs.Samples.{value_in}
use Rattle.dk_engine.specs.Idle.{is_over, rises}
use Rattle.dk_engine.proofs.idle.chain.goes_on.Goals as goal

pub returns-in-Some : goal.returns-in-Some
returns-in-Some c =
    let at : value_in (values_of c.args.sample.now) c.args.v ≡ value.Int c.in-Some.x = search rules in
    let over : c.is_over.result ≡ is_over c.args.last c.in-Some.x = search rules in
    over ∙ sym (ap (rises c.args.last) at)
