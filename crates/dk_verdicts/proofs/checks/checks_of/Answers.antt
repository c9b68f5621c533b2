use Rattle.std.proofs.Common.{◌≡◌, ◌+◌, ap, arith, slice_get, subst, sym, List, Some}
use Rattle.std.specs.Prelude.{[], IfSome, Option}
use Rattle.dk_base.specs.declared.kinds.PointId.{PointId}
use Rattle.dk_base.specs.declared.kinds.VarId.{VarId}
use Rattle.dk_hierarchy.specs.Descent.{IsDescent}
use Rattle.dk_hierarchy.specs.declared.way.Way.{Way}
use Rattle.dk_verdicts.proofs.Checked.{claim_left_out, claim_more, not_asserted, own_by_ways}
use Rattle.dk_verdicts.proofs.Tested.{got_value}
use Rattle.dk_verdicts.specs.Checks.{AreByWaysIf, AreChecksOfFirst, AreWithChecks}
use Rattle.dk_verdicts.specs.Standing.{IsFindingOf}
use Rattle.dk_verdicts.specs.declared.checks.Check.{Check}
use Rattle.dk_verdicts.specs.declared.checks.Descent.{Descent}
use Rattle.dk_verdicts.specs.declared.findings.Finding.{Finding}
use Rattle.dk_verdicts.proofs.checks.checks_of.Goals as goal
use Rattle.dk_verdicts.proofs.checks.checks_of.Goals.{in-Holds+in_ok-here+in_ok-add_checks, in_default}

pub ways_from-requires-clause-point : goal.ways_from-requires-clause-point
ways_from-requires-clause-point c =
    let f : Finding = c.index-findings-claim.result in
    let at : slice_get c.args.findings.now c.loop-claim.claim ≡ Some f = got_value c.args.findings.now c.loop-claim.claim f (omega arith) c.index-findings-claim.is in
    (subst (IsFindingOf c.args.points.now) c.in-Holds.is (c.requires.findings c.loop-claim.claim f at)).0.within

pub loop-claim-preserved : goal.loop-claim-preserved
loop-claim-preserved c =
    let ps = c.args.points.now in
    let findings = c.args.findings.now in
    let n = c.loop-claim.claim in
    let old : List (List Check) = c.loop-claim.checks.items in
    let made : AreChecksOfFirst n ps findings old = c.loop-claim.invariant.made in
    let f : Finding = c.index-findings-claim.result in
    let at : slice_get findings n ≡ Some f = got_value findings n f (omega arith) c.index-findings-claim.is in
    elim c.match-finding.branch [
      | in-Holds+in_ok-here+in_ok-add_checks w ↦
          let new : List (List Check) = w.add_checks.new.checks.items in
          let vars : List VarId = w.in-Holds.assertion.vars in
          let ways : List Way = w.in_ok-here.here.merged.ways in
          let added : AreWithChecks n vars ways old new = subst (λ (ws : List Way). AreWithChecks n vars ws old new) w.ways.ensures.ways
          (subst (λ (vs : List VarId). AreWithChecks n vs w.ways.result.now old new) w.as_slice.ensures.items w.in_ok-add_checks.ensures) in
          let descent : IsDescent ps w.in-Holds.point.0 ways [] = subst (λ (p : PointId). IsDescent ps p.0 ways []) w.in_ok-here.ensures.top w.in_ok-here.ensures.ways in
          let by : AreByWaysIf ps new n f = subst (AreByWaysIf ps new n) (sym w.in-Holds.is) (own_by_ways ps findings n old new made vars ways added w.in-Holds.point.0 descent) in
          record {
            made = subst (AreChecksOfFirst (n + 1) ps findings) (sym (ap (λ v. v.items) w.checks-is)) (claim_more ps findings n old new made vars ways added f at by);
            last = subst (λ (o : Option Descent). IfSome o (λ d. IsDescent ps d.top.0 d.merged.ways [])) (sym w.last-is) w.in_ok-here.ensures.ways;
          }
      | in_default w ↦
          record {
            made = subst (AreChecksOfFirst (n + 1) ps findings) (sym (ap (λ v. v.items) w.checks-is)) (claim_left_out ps findings n old old made f at (not_asserted ps old n f w.in_default.not-Holds));
            last = subst (λ (o : Option Descent). IfSome o (λ d. IsDescent ps d.top.0 d.merged.ways [])) (sym w.last-is) c.loop-claim.invariant.last;
          }
    ]
