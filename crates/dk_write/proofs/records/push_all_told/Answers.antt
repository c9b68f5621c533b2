use Rattle.std.proofs.Common.{◌<◌, ◌++◌, ◌∙◌, List, ap, arith, flat_map, get_or, length}
use Rattle.std.proofs.lemmas.List.{get_or_default}
use Rattle.dk_base.specs.Values.{value_of}
use Rattle.dk_base.specs.declared.values.View.{View}
use Rattle.dk_base.specs.declared.values.View.TheVariants as view
use Rattle.dk_decl.specs.declared.decls.VarDecl.{VarDecl}
use Rattle.dk_base.specs.declared.values.Value.{Value}
use Rattle.dk_lines.specs.Passing.{joined}
use Rattle.dk_write.specs.Records.{told_lines}
use Rattle.dk_write.proofs.Loops.{all_pairs, pair_more}
use Rattle.dk_write.proofs.records.push_all_told.Goals as goal

pub loop-i-preserved : goal.loop-i-preserved
loop-i-preserved c =
    let vars = c.args.vars.now in
    let values = c.args.values.now in
    let i = c.loop-i.i in
    let lt : i < length vars = omega (arith, c.loop-i-test.true, c.min-i-end.ensures) in
    let more : i < length values = omega (arith, c.loop-i-test.true, c.min-i-end.ensures) in
    let y : View = get_or values i view.Missing in
    pair_more value_of told_lines vars values i c.index-vars-i.result y c.args.text.now c.loop-i.text c.push_told.new.text lt more c.index-vars-i.is (get_or_default values i view.Missing y more)
    c.loop-i.invariant c.in_ok-push_told.ensures

pub returns : goal.returns
returns c =
    c.loop-i.invariant
    ∙ ap (λ (es : List (VarDecl × Value)). c.args.text.now ++ joined (flat_map told_lines es))
    (all_pairs value_of c.args.vars.now c.args.values.now c.loop-i.i (omega (arith, c.loop-i-test.false, c.min-i-end.ensures)))
