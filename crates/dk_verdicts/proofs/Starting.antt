-- A checker before all records.
use Rattle.std.specs.Prelude.{◌≡◌, ℕ, zero, suc, List, [], ◌∷◌, length, replicate, take, refl}
use Rattle.std.specs.List.{AllZip}
use Rattle.std.proofs.Common.{subst, sym}
use Rattle.std.proofs.lemmas.List.Elements.{All-nil}
use Rattle.dk_claims.specs.declared.claims.Claim.{Claim}
use Rattle.dk_graph.specs.Names.{place_of}
use Rattle.dk_points.specs.Table.{Point}
use Rattle.dk_verdicts.specs.Standing.{IsFound, IsOf, StandsFor, claims_of, known_of}
use Rattle.dk_verdicts.specs.Verdicts.{IsUnknown}
use Rattle.dk_verdicts.specs.declared.checker.Checker.{Checker}
use Rattle.dk_verdicts.specs.declared.findings.Finding.TheVariants.{Unknown}

none_known : (n : ℕ) (ps : List Point) → ps ≡ [] → take n ps ≡ []
none_known zero ps e = refl
none_known (suc n) [] e = refl
none_known (suc n) (p ∷ ps) e = absurd (cc e)

unknown : (claim : Claim) → IsUnknown [] claim
unfolding place_of
unknown claim q named = absurd (cc named)

all_unknown : (claims : List Claim) → AllZip (IsFound [] []) claims (replicate (length claims) Unknown)
all_unknown [] = tt
all_unknown (c ∷ claims) = (unknown c, all_unknown claims)

pub none_stands : (c : Checker) → c.findings.items ≡ replicate (length (claims_of c)) Unknown → StandsFor c [] []
none_stands c found = record {
  records = All-nil (IsOf (known_of [] c));
  found = subst (λ (known : List Point). AllZip (IsFound known []) (claims_of c) c.findings.items) (sym (none_known (length c.engines.items) [] refl))
      (subst (AllZip (IsFound [] []) (claims_of c)) (sym found) (all_unknown (claims_of c)));
}
