use Rattle.std.specs.Prelude.{◌≡◌, All}
use Rattle.std.proofs.Common.{arith, subst}
use Rattle.std.proofs.lemmas.List.{take_all}
use Rattle.dk_base.specs.declared.kinds.VarId.{VarId}
use Rattle.dk_engine.specs.Reading.Parts.{leader_of}
use Rattle.dk_join.proofs.Unruled.{all_more}
use Rattle.dk_join.proofs.threes.all_lead.Goals as goal

pub loop-v-preserved : goal.loop-v-preserved
loop-v-preserved c =
    let Leads : VarId → Type 0 = λ v. leader_of c.args.engine.now.kept.leaders v ≡ v in
    all_more Leads c.args.vars.now c.loop-v.v-index (record { 0 = 0 }) c.loop-v-test.true c.loop-v.invariant (c.leads.ensures c.if-not-leads.false)

pub returns : goal.returns
returns c = λ _.
    let Leads : VarId → Type 0 = λ v. leader_of c.args.engine.now.kept.leaders v ≡ v in
    let over = c.loop-v-test.false in
    subst (All Leads) (take_all c.loop-v.v-index c.args.vars.now (omega (arith, over))) c.loop-v.invariant
