use Rattle.std.proofs.Common.{◌≡◌, ◌≢◌, sym, subst, ◌∙◌, ◌∷◌, [], ◌++◌, refl}
use Rattle.std.proofs.lemmas.Bool.{false≢true}
use Rattle.dk_base.specs.Values.{values_of}
use Rattle.dk_base.specs.declared.kinds.VarId.{VarId}
use Rattle.dk_base.specs.declared.values.Value.{Value}
use Rattle.dk_samples.specs.Samples.{value_in}
use Rattle.dk_constants.specs.Known.{IsParted}
use Rattle.dk_constants.proofs.Parting.{parted_first, parted_second}
use Rattle.dk_constants.proofs.steps.split_constants.Goals as goal

pub loop-v-preserved-in-Continue-1 : goal.loop-v-preserved-in-Continue-1
loop-v-preserved-in-Continue-1 c =
    let P : VarId × Value → Type 0 = λ k. value_in (values_of c.args.sample.now) k.0 ≡ k.1 in
    let Q : VarId × Value → Type 0 = λ k. value_in (values_of c.args.sample.now) k.0 ≢ k.1 in
    let e : VarId × Value = (c.in-Some.v, c.in-Some.value) in
    subst (λ ks. IsParted P Q (c.loop-v.yielded ++ e ∷ []) ks c.loop-v.over) (sym c.in_ok-push.ensures.items)
    (parted_first P Q c.loop-v.yielded c.loop-v.still.items c.loop-v.over e c.loop-v.invariant (sym c.value_at.ensures ∙ c.if-shows.ensures.0 refl))

pub loop-v-preserved : goal.loop-v-preserved
loop-v-preserved c =
    let P : VarId × Value → Type 0 = λ k. value_in (values_of c.args.sample.now) k.0 ≡ k.1 in
    let Q : VarId × Value → Type 0 = λ k. value_in (values_of c.args.sample.now) k.0 ≢ k.1 in
    let e : VarId × Value = (c.in-Some.v, c.in-Some.value) in
    subst (λ ks. IsParted P Q (c.loop-v.yielded ++ e ∷ []) c.loop-v.still.items ks) (sym c.in_ok-push-2.ensures.ok)
    (parted_second P Q c.loop-v.yielded c.loop-v.still.items c.loop-v.over e c.loop-v.invariant (λ same. false≢true (c.if-shows.ensures.1 (c.value_at.ensures ∙ same))))
