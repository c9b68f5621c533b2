use Rattle.std.specs.Prelude.{◌≡◌, Contains, refl}
use Rattle.std.proofs.Common.{◌∙◌, arith, get_or, inl, inr, subst, sym}
use Rattle.std.proofs.lemmas.Bool.{cases_lt, false≢true}
use Rattle.std.proofs.lemmas.List.{get_or_default}
use Rattle.dk_classes.specs.Leaders.{own_leaders, var}
use Rattle.dk_engine.proofs.saved.conditions.all_lead.Goals as goal

pub returns-then-not-leads : goal.returns-then-not-leads
returns-then-not-leads c = (
  λ f. absurd (false≢true f),
  λ all. absurd (false≢true (sym c.if-not-leads.true ∙ c.leads.ensures.1 (all c.loop-v.v-index (var 0) c.loop-v-test.true))),
)

pub loop-v-preserved : goal.loop-v-preserved
loop-v-preserved c =
    let own = own_leaders c.args.classes.now in
    let vars = c.args.vars.now in
    let i = c.loop-v.v-index in
    let here : Contains own (get_or vars i (var 0)) = c.leads.ensures.0 c.if-not-leads.false in
    λ k d l. elim (cases_lt k i) as (λ _. Contains own (get_or vars k d)) [
      | inl below ↦ c.loop-v.invariant k d below
      | inr up ↦ let same : i ≡ k = omega (arith, l, up) in subst (λ n. Contains own (get_or vars n d)) same (subst (Contains own) (get_or_default vars i (var 0) d c.loop-v-test.true) here)
    ]

pub returns : goal.returns
returns c = let past = c.loop-v-test.false in (λ t k d l. c.loop-v.invariant k d (omega (arith, past, l)), λ all. refl)
