use Rattle.std.proofs.Common.{◌≡◌, ◌++◌, ◌<◌, ◌≤◌, ◌+◌, List, drop, length, sym, arith}
use Rattle.std.proofs.lemmas.Bool.{ltb-true}
use Rattle.dk_base.specs.Values.{values_of}
use Rattle.dk_base.specs.declared.kinds.VarInfo.{VarInfo}
use Rattle.dk_base.specs.declared.values.Value.{Value}
use Rattle.dk_points.specs.Vars.{orig_vars}
use Rattle.dk_calls.specs.Origs.{orig_values}
use Rattle.dk_calls.proofs.Passing.{at_place, whole_by_values, whole_by_vars}
use Rattle.dk_calls.proofs.origs.with_origs.Goals as goal

pub loop-i-preserved : goal.loop-i-preserved
loop-i-preserved c = λ (exit : List VarInfo) (e : c.args.origs.now ≡ orig_vars c.args.entry.now exit).
    let whole : List Value = values_of c.args.values.items ++ orig_values c.args.entry.now exit c.args.kept.now in
    let i = c.loop-i.i in
    let in_entry : i < length c.args.entry.now = omega arith in
    let in_kept : i < length c.args.kept.now = ltb-true _ _ (sym c.in-Some.ensures.lookup.0) in
    c.in_ok-more.ensures exit (drop (i + 1) c.args.entry.now) (drop (i + 1) c.args.kept.now) whole
    (at_place exit c.args.entry.now c.args.kept.now i c.index-entry-i.result c.in-Some.value.now (drop c.loop-i.place c.args.origs.now) (values_of c.loop-i.more.items) whole
    in_entry c.index-entry-i.is in_kept c.in-Some.ensures.lookup.1 (c.loop-i.invariant exit e))

pub returns : goal.returns
returns c = λ (exit : List VarInfo) (e : c.args.origs.now ≡ orig_vars c.args.entry.now exit).
    let past : length c.args.entry.now ≤ c.loop-i.i = omega arith in
    whole_by_vars exit c.args.entry.now c.args.kept.now c.loop-i.i (drop c.loop-i.place c.args.origs.now) (values_of c.loop-i.more.items)
    (values_of c.args.values.items ++ orig_values c.args.entry.now exit c.args.kept.now) past (c.loop-i.invariant exit e)

pub returns-in_default : goal.returns-in_default
returns-in_default c = λ (exit : List VarInfo) (e : c.args.origs.now ≡ orig_vars c.args.entry.now exit).
    whole_by_values exit c.args.entry.now c.args.kept.now c.loop-i.i (drop c.loop-i.place c.args.origs.now) (values_of c.loop-i.more.items)
    (values_of c.args.values.items ++ orig_values c.args.entry.now exit c.args.kept.now) c.in_default.ensures.lookup.3 (c.loop-i.invariant exit e)
