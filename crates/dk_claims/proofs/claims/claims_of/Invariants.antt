use Rattle.std.proofs.Common.{◌≡◌, take}
use Rattle.std.specs.List.{flat_map}
use Rattle.dk_claims.specs.Sections.{section_claims}
use Rattle.dk_claims.proofs.claims.claims_of.Given as goal

abbrev pub invariant-loop-section : goal.invariant-loop-section
invariant-loop-section l = l.claims ≡ flat_map section_claims (take l.section-index l.sections)
