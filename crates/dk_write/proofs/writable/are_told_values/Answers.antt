use Rattle.std.proofs.Common.{◌≡◌, ◌<◌, ◌+◌, ◌&&◌, ◌∙◌, Bool, true, false, ap, arith, drop, get_or, length, sym}
use Rattle.std.specs.List.{list_all, zip}
use Rattle.std.proofs.lemmas.List.{get_or_default}
use Rattle.dk_base.specs.Values.{value_of, values_of}
use Rattle.dk_base.specs.declared.values.View.{View}
use Rattle.dk_base.specs.declared.values.View.TheVariants as view
use Rattle.dk_write.specs.Writable.{is_told_value}
use Rattle.dk_write.proofs.Loops.{pair_passes, pairs_end}
use Rattle.dk_write.proofs.writable.are_told_values.Goals as goal

pub returns-then-not-branch : goal.returns-then-not-branch
returns-then-not-branch c =
    let vars = c.args.vars.now in
    let values = c.args.values.now in
    let i = c.loop-i.i in
    let lt : i < length vars = omega (arith, c.loop-i-test.true, c.min-i-end.ensures) in
    let more : i < length values = omega (arith, c.loop-i-test.true, c.min-i-end.ensures) in
    let y : View = get_or values i view.Missing in
    let here : is_told_value (c.index-vars-i.result, value_of y) ≡ false = sym c.in_ok-is_told_value.ensures ∙ c.if-not-branch.true in
    sym (sym c.loop-i.invariant
    ∙ pair_passes value_of is_told_value vars values i c.index-vars-i.result y lt more c.index-vars-i.is (get_or_default values i view.Missing y more)
    ∙ ap (λ (b : Bool). b && list_all is_told_value (drop (i + 1) (zip vars (values_of values)))) here)

pub loop-i-preserved : goal.loop-i-preserved
loop-i-preserved c =
    let vars = c.args.vars.now in
    let values = c.args.values.now in
    let i = c.loop-i.i in
    let lt : i < length vars = omega (arith, c.loop-i-test.true, c.min-i-end.ensures) in
    let more : i < length values = omega (arith, c.loop-i-test.true, c.min-i-end.ensures) in
    let y : View = get_or values i view.Missing in
    let here : is_told_value (c.index-vars-i.result, value_of y) ≡ true = sym c.in_ok-is_told_value.ensures ∙ c.if-not-branch.false in
    sym (sym c.loop-i.invariant
    ∙ pair_passes value_of is_told_value vars values i c.index-vars-i.result y lt more c.index-vars-i.is (get_or_default values i view.Missing y more)
    ∙ ap (λ (b : Bool). b && list_all is_told_value (drop (i + 1) (zip vars (values_of values)))) here)

pub returns : goal.returns
returns c =
    sym (sym c.loop-i.invariant
    ∙ pairs_end value_of is_told_value c.args.vars.now c.args.values.now c.loop-i.i (omega (arith, c.loop-i-test.false, c.min-i-end.ensures)))
