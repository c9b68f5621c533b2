use Rattle.std.proofs.Common.{refl}
use Rattle.dk_claims.proofs.Sectioning.{stands_for_none}
use Rattle.dk_claims.proofs.sections.Sections.new.Goals as goal

pub returns : goal.returns
returns c = stands_for_none _ c.new.ensures c.front_section.ensures refl
