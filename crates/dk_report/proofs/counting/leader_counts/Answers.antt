use Rattle.std.specs.Prelude.{◌+◌, List, [], ◌∷◌, length, take}
use Rattle.std.proofs.Common.{◌∙◌, ap, arith, subst, sym}
use Rattle.std.proofs.lemmas.List.{take_all}
use Rattle.dk_base.specs.declared.kinds.VarId.{VarId}
use Rattle.dk_presence.specs.Patterns.{AreHeld, counted_by}
use Rattle.dk_presence.specs.declared.held.Held.{Held}
use Rattle.dk_report.proofs.Counts.{none-walked, walked}
use Rattle.dk_report.specs.Counting.{AreAt, added}
use Rattle.dk_report.proofs.counting.leader_counts.Goals as goal

pub loop-pattern-init : goal.loop-pattern-init
loop-pattern-init c =
    subst (AreAt (λ v. counted_by (take 0 c.held-held.result.now) (v ∷ []))) (sym c.in_ok-counts.ensures) (none-walked (length c.vars.result.now) c.held-held.result.now)

pub loop-pattern-preserved : goal.loop-pattern-preserved
loop-pattern-preserved c =
    let held = c.held-held.result.now in
    let item = c.pattern-item.result in
    let are : AreHeld held = subst AreHeld (sym c.held-held.ensures.all) c.held-held.ensures.held in
    subst (AreAt (λ v. counted_by (take (c.loop-pattern.pattern-index + 1) held) (v ∷ [])))
    (sym (c.add_count.ensures ∙ ap (λ (vs : List VarId). added vs item.count c.loop-pattern.counts.items) c.as_slice.ensures))
    (walked held are.ascend c.loop-pattern.pattern-index item c.loop-pattern-test.true c.pattern-item.is c.loop-pattern.counts.items c.loop-pattern.invariant)

pub returns : goal.returns
returns c =
    subst (λ (hs : List Held). AreAt (λ v. counted_by hs (v ∷ [])) c.loop-pattern.counts.items)
    (take_all c.loop-pattern.pattern-index c.held-held.result.now (omega (arith, c.loop-pattern-test.false)) ∙ (c.held-held.ensures.all ∙ c.presence.ensures))
    c.loop-pattern.invariant
