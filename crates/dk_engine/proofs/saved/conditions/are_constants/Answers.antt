use Rattle.std.specs.Prelude.{◌≡◌, ◌<◌, refl}
use Rattle.std.proofs.Common.{◌∙◌, ap, arith, get_or, inl, inr, subst}
use Rattle.std.proofs.lemmas.Bool.{cases_lt}
use Rattle.std.proofs.lemmas.List.{get_or_default}
use Rattle.std.specs.Prelude.{length}
use Rattle.dk_constants.specs.Known.{Entries}
use Rattle.dk_engine.specs.Saved.Restored.{IsConstant}
use Rattle.dk_engine.proofs.saved.conditions.are_constants.Goals as goal

pub loop-entry-preserved : goal.loop-entry-preserved
loop-entry-preserved c =
    let known = c.args.kept.now.known in
    let i = c.loop-entry.entry-index in
    let entry = c.entry-item.result in
    let all = c.entries-entry-items.ensures.all in
    let within : i < length known = subst (λ (es : Entries). i < length es) all c.loop-entry-test.true in
    λ k d l. elim (cases_lt k i) as (λ _. IsConstant c.args.infos.now c.args.kept.now (get_or known k d)) [
      | inl below ↦ c.loop-entry.invariant k d below
      | inr up ↦
          let same : i ≡ k = omega (arith, l, up) in
          let is : entry ≡ get_or known i d = c.entry-item.is ∙ (ap (λ (es : Entries). get_or es i entry) all ∙ get_or_default known i entry d within) in
          subst (λ n. IsConstant c.args.infos.now c.args.kept.now (get_or known n d)) same (subst (IsConstant c.args.infos.now c.args.kept.now) is (c.is_constant.ensures.0 c.if-not-is_constant.false))
    ]

pub returns : goal.returns
returns c =
    let past = c.loop-entry-test.false in
    let all = ap (λ (es : Entries). length es) c.entries-entry-items.ensures.all in
    (λ t k d l. c.loop-entry.invariant k d (omega (arith, past, l, all)), λ are. refl)
