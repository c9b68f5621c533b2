-- The report: a line for each claim.
use Rattle.std.specs.Prelude.{◌≡◌, ◌++◌, ⊤, ℕ, List, codes, flat_map}
use Rattle.std.specs.Fmt.{decimal}
use Rattle.std.specs.List.{AllZip, zip}
use Rattle.dk_claims.specs.declared.claims.Claim.{Claim}
use Rattle.dk_points.specs.Table.{Point}
use Rattle.dk_verdicts.specs.Records.{Record}
use Rattle.dk_verdicts.specs.Verdicts.{IsVerdict}
use Rattle.dk_verdicts.specs.declared.verdicts.Verdict.{Verdict}
use Rattle.dk_verdicts.specs.declared.verdicts.Verdict.TheVariants.{Holds, Violated, Unknown}

-- the text of a verdict, where the files have these names by their places
abbrev pub verdict_text : (ℕ → List ℕ) → Verdict → List ℕ
verdict_text name (Holds tuples) = codes "ok [" ++ decimal tuples ++ codes "]"
verdict_text name (Violated file line) = codes "violated at " ++ name file ++ codes ":" ++ decimal line
verdict_text name Unknown = codes "unknown"

-- the line of a claim
abbrev pub verdict_line : (ℕ → List ℕ) → Claim → Verdict → List ℕ
verdict_line name claim verdict = claim.point ++ codes ": " ++ claim.text ++ codes ": " ++ verdict_text name verdict ++ codes "\n"

-- the line of each claim, one behind another
abbrev pub verdict_lines : (ℕ → List ℕ) → List Claim → List Verdict → List ℕ
verdict_lines name claims verdicts = flat_map (λ c. verdict_line name c.0 c.1) (zip claims verdicts)

-- The report on claims, of the table behind all blocks and all their records: the verdict on each claim, in their order.
pub record IsReport (name : ℕ → List ℕ) (claims : List Claim) (ps : List Point) (rs : List Record) (text : List ℕ) : Type 0 where
  pub verdicts : List Verdict
  pub judged : AllZip (IsVerdict ps rs) claims verdicts
  pub is_text : text ≡ verdict_lines name claims verdicts

-- the name that a verdict's line tells is this one
abbrev pub IsNamed : (ℕ → List ℕ) → Verdict → List ℕ → Type 0
IsNamed name (Violated file line) text = name file ≡ text
IsNamed name _ text = ⊤
