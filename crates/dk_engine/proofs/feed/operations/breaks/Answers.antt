use Rattle.std.specs.Prelude.{◌≡◌, false, not}
use Rattle.std.proofs.Common.{◌∙◌, rules, sym}
use Rattle.std.proofs.lemmas.Bool.{not-true}
use Rattle.dk_base.specs.Values.{values_of}
use Rattle.dk_base.specs.declared.values.Value.TheVariants as value
use Rattle.dk_samples.specs.Samples.{value_in}
use Rattle.dk_ternary.specs.Rows.{is_result}
use Rattle.dk_engine.proofs.Breaking.{operation_breaks}
use Rattle.dk_engine.proofs.feed.operations.breaks.Goals as goal

pub returns-in-Some-Some-Some : goal.returns-in-Some-Some-Some
returns-in-Some-Some-Some c breaks =
    let sample = values_of c.args.sample.now in
    let n = c.in-Some-Some-Some in
    let at_v : value_in sample c.args.v ≡ value.Int n.a = search rules in
    let at_w : value_in sample c.args.w ≡ value.Int n.b = search rules in
    let at_x : value_in sample c.args.x ≡ value.Int n.c = search rules in
    let told : c.isnt_result.result ≡ not (is_result c.args.operation n.a n.b n.c) = search rules in
    let isnt : is_result c.args.operation n.a n.b n.c ≡ false = not-true (is_result c.args.operation n.a n.b n.c) (sym told ∙ breaks) in
    operation_breaks c.args.operation c.args.v c.args.w c.args.x sample n.a n.b n.c at_v at_w at_x isnt
