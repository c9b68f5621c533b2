use Rattle.std.proofs.Common.{◌≡◌, ◌++◌, map, take}
use Rattle.dk_claims.specs.declared.sections.ReportLine.{ReportLine}
use Rattle.dk_claims.proofs.claims.push_claims.Given as goal

abbrev pub invariant-loop-line : goal.invariant-loop-line
invariant-loop-line l = l.claims ≡ l.fn.claims ++ map (λ (line : ReportLine). record { point = l.section.point; text = line.text }) (take l.line-index l.section.lines)
