use Rattle.std.proofs.Common.{◌≡◌, length, refl, rules, subst, List, ℕ}
use Rattle.dk_claims.specs.declared.claims.Claim.{Claim}
use Rattle.dk_verdicts.proofs.Growth.{findings_on, stands_now}
use Rattle.dk_verdicts.proofs.Lines.{on_ok}
use Rattle.dk_verdicts.specs.Reading.{AreReread}
use Rattle.dk_verdicts.specs.Standing.{AreUnfed}
use Rattle.dk_verdicts.specs.declared.checker.Checker.{Checker}
use Rattle.dk_verdicts.proofs.checker.Checker.keep_up.Goals as goal

pub read_claims-requires-clause-are_of : goal.read_claims-requires-clause-are_of
read_claims-requires-clause-are_of c = findings_on c.args.points.now c.args.self.now c.requires

pub returns-clause-stands : goal.returns-clause-stands
returns-clause-stands c =
    let ps = c.args.points.now in
    let self : Checker = c.args.self.now in
    let next : Checker = record { alloc = self.alloc; claims = self.claims; findings = c.read_claims.new.findings; engines = c.add_engines.new.engines; checks = c.new.result } in
    let unfed : AreUnfed ps c.add_engines.new.engines.items = c.in_ok-add_engines.ensures in
    let known : c.len-known.result ≡ length self.engines.items = search rules in
    on_ok c.read_claims.result _ _
    (λ reread. stands_now ps self c.requires next refl unfed.are.long
    (subst (λ (n : ℕ). AreReread n ps self.claims self.findings.items c.read_claims.new.findings.items) known
    (subst (λ (claims : List Claim). AreReread c.len-known.result ps claims self.findings.items c.read_claims.new.findings.items) c.as_slice-claims.ensures reread)))
    c.read_claims.ensures.reread
