use Rattle.std.proofs.Common.{ap, map, sym, subst, ◌∙◌, ◌∷◌, []}
use Rattle.std.proofs.lemmas.List.{take_all}
use Rattle.dk_base.specs.Values.{values_of}
use Rattle.dk_base.specs.declared.kinds.VarId.{VarId}
use Rattle.dk_base.specs.declared.values.Value.{Value}
use Rattle.dk_samples.specs.Samples.{value_in}
use Rattle.dk_constants.specs.Known.{EntriesAscend}
use Rattle.dk_constants.specs.Constants.{AreConstants}
use Rattle.dk_constants.proofs.Feeding.{ascend_first, constants_first}
use Rattle.dk_constants.proofs.constants.Constants.first.Goals as goal

pub invariant_of-result : goal.invariant_of-result
invariant_of-result c =
    let first : VarId → VarId × Value = λ v. (v, value_in (values_of c.args.sample.now) v) in
    let all = c.loop-v.invariant ∙ ap (map first) (take_all c.loop-v.v-index c.args.leaders.now c.loop-v-test.false) in
    subst EntriesAscend (sym all) (ascend_first c.args.leaders.now (values_of c.args.sample.now) c.requires)

pub returns-clause-stands : goal.returns-clause-stands
returns-clause-stands c =
    let first : VarId → VarId × Value = λ v. (v, value_in (values_of c.args.sample.now) v) in
    let all = c.loop-v.invariant ∙ ap (map first) (take_all c.loop-v.v-index c.args.leaders.now c.loop-v-test.false) in
    subst (AreConstants c.args.leaders.now (values_of c.args.sample.now ∷ [])) (sym all) (constants_first c.args.leaders.now (values_of c.args.sample.now) c.requires)
