use Rattle.std.proofs.Common.{◌≡◌, sym, ◌∙◌, subst, refl}
use Rattle.std.specs.List.{All}
use Rattle.std.proofs.lemmas.List.{take_all}
use Rattle.std.proofs.lemmas.List.Elements.{All-more}
use Rattle.dk_base.specs.Values.{values_of}
use Rattle.dk_base.specs.declared.kinds.VarId.{VarId}
use Rattle.dk_base.specs.declared.values.Value.{Value}
use Rattle.dk_samples.specs.Samples.{value_in}
use Rattle.dk_constants.proofs.steps.are_still.Goals as goal

pub loop-v-preserved : goal.loop-v-preserved
loop-v-preserved c =
    let known = c.args.known.now in
    let item = c.loop-v-item.result in
    let Has : VarId × Value → Type 0 = λ k. value_in (values_of c.args.sample.now) k.0 ≡ k.1 in
    All-more Has known c.loop-v.v-index item c.loop-v-test.true c.loop-v.invariant
    (subst Has c.loop-v-item.is (sym c.value_at.ensures ∙ c.if-not-shows.ensures.0 refl))

pub returns : goal.returns
returns c =
    let Has : VarId × Value → Type 0 = λ k. value_in (values_of c.args.sample.now) k.0 ≡ k.1 in
    (λ t. subst (All Has) (take_all c.loop-v.v-index c.args.known.now c.loop-v-test.false) c.loop-v.invariant, λ all. refl)
