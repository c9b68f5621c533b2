-- The verdicts that what is found comes to.
use Rattle.std.specs.Prelude.{◌≡◌, List, [], ◌∷◌, length, map}
use Rattle.std.specs.List.{AllZip}
use Rattle.std.proofs.Common.{subst}
use Rattle.dk_claims.specs.declared.claims.Claim.{Claim}
use Rattle.dk_points.specs.Table.{Point}
use Rattle.dk_verdicts.proofs.Growth.{all_known}
use Rattle.dk_verdicts.specs.Records.{Record}
use Rattle.dk_verdicts.specs.Standing.{IsFound, StandsFor, claims_of, verdict_of}
use Rattle.dk_verdicts.specs.Verdicts.{IsVerdict}
use Rattle.dk_verdicts.specs.declared.checker.Checker.{Checker}
use Rattle.dk_verdicts.specs.declared.findings.Finding.{Finding}
use Rattle.dk_verdicts.specs.declared.findings.Finding.TheVariants.{Holds, Violated, Unknown}

module _ (ps : List Point) (rs : List Record) where
  verdict_found : (claim : Claim) (f : Finding) → IsFound ps rs claim f → IsVerdict ps rs claim (verdict_of f)
  verdict_found claim Unknown found = found
  verdict_found claim (Violated x y) found = found
  verdict_found claim (Holds point a n) (read, asserted, so_far) = (point.0, read, asserted, (so_far.holds, so_far.counted))

  pub verdicts_found : (claims : List Claim) (findings : List Finding) → AllZip (IsFound ps rs) claims findings → AllZip (IsVerdict ps rs) claims (map verdict_of findings)
  verdicts_found [] [] all = tt
  verdicts_found [] (f ∷ findings) all = absurd all
  verdicts_found (c ∷ claims) [] all = absurd all
  verdicts_found (c ∷ claims) (f ∷ findings) all = (verdict_found c f all.0, verdicts_found claims findings all.1)

-- of a checker that knows all points
pub verdicts_now : (ps : List Point) (c : Checker) (rs : List Record) → length c.engines.items ≡ length ps → StandsFor c ps rs → AllZip (IsVerdict ps rs) (claims_of c) (map verdict_of c.findings.items)
verdicts_now ps c rs long stands =
    verdicts_found ps rs (claims_of c) c.findings.items (subst (λ (known : List Point). AllZip (IsFound known rs) (claims_of c) c.findings.items) (all_known ps c long) stands.found)
