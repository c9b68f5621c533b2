use Rattle.std.proofs.Common.{◌≡◌, ◌∙◌, ap, subst, sym, List}
use Rattle.std.specs.Prelude.{map}
use Rattle.std.specs.List.{AllZip}
use Rattle.std.proofs.lemmas.List.{take_all}
use Rattle.dk_claims.specs.declared.claims.Claim.{Claim}
use Rattle.dk_verdicts.proofs.Judged.{verdicts_now}
use Rattle.dk_verdicts.specs.Standing.{claims_of, verdict_of}
use Rattle.dk_verdicts.specs.Verdicts.{IsVerdict}
use Rattle.dk_verdicts.specs.declared.checker.Checker.{Checker}
use Rattle.dk_verdicts.specs.declared.findings.Finding.{Finding}
use Rattle.dk_verdicts.specs.declared.verdicts.Verdict.{Verdict}
use Rattle.dk_verdicts.proofs.checker.Checker.verdicts.Goals as goal

pub returns-clause-verdicts : goal.returns-clause-verdicts
returns-clause-verdicts c rs stands =
    let ps = c.args.points.now in
    let now : Checker = c.keep_up.new.self in
    let items : List Finding = c.deref-finding-items.result.now in
    let all : c.loop-finding.verdicts ≡ map verdict_of now.findings.items =
    c.loop-finding.invariant ∙ ap (map verdict_of) (take_all c.loop-finding.finding-index items c.loop-finding-test.false ∙ c.deref-finding-items.ensures.value) in
    subst (λ (claims : List Claim). AllZip (IsVerdict ps rs) claims c.loop-finding.verdicts) c.in_ok-keep_up.ensures.claims
    (subst (λ (verdicts : List Verdict). AllZip (IsVerdict ps rs) (claims_of now) verdicts) (sym all)
    (verdicts_now ps now rs c.in_ok-keep_up.ensures.known (c.in_ok-keep_up.ensures.stands rs stands)))
