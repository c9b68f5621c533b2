use Rattle.std.proofs.Common.{◌∙◌, arith, sym}
use Rattle.std.proofs.lemmas.Bool.{eq-eqb, eqb-true, ltb-true}
use Rattle.dk_classes.proofs.OwnLeaders.{leads_from_own, own_from_leads}
use Rattle.dk_engine.proofs.saved.conditions.leads.Goals as goal

pub returns-then-v-count : goal.returns-then-v-count
returns-then-v-count c =
    let leaders = c.args.classes.now in
    let v = c.args.v in
    let within = c.if-v-count.true in
    let long = c.requires in (
      λ t. own_from_leads leaders v (omega (arith, within, long)) (sym c.leader.ensures ∙ eqb-true c.leader.result.0 v.0 t),
      λ h. eq-eqb c.leader.result.0 v.0 (c.leader.ensures ∙ (leads_from_own leaders v h).1),
    )

pub returns-else-v-count : goal.returns-else-v-count
returns-else-v-count c =
    let past = c.if-v-count.false in
    let long = c.requires in (
      λ t. let within = ltb-true c.args.v.0 c.args.count t in absurd (omega (arith, past, within)),
      λ h. let within = (leads_from_own c.args.classes.now c.args.v h).0 in absurd (omega (arith, past, within, long)),
    )
