use Rattle.std.specs.Prelude.{◌∷◌, [], codes, refl}
use Rattle.std.specs.Fmt.{decimal}
use Rattle.std.proofs.Common.{◌∙◌}
use Rattle.dk_base.specs.Names.{escaped}
use Rattle.dk_state.proofs.Onto.{fields_onto, line_onto}
use Rattle.dk_state.proofs.reading.ParentVarEntry.read.Goals as goal

pub returns-clause-read : goal.returns-clause-read
returns-clause-read c p rest fits last is =
    let passed = c.pass.ensures.read (fields_onto (decimal p.edge ∷ escaped p.name ∷ []) (10 ∷ rest)) (is ∙ line_onto (codes "mapped") (decimal p.edge ∷ escaped p.name ∷ []) rest) in
    let edge = c.natural-edge.ensures.read p.edge (fields_onto (escaped p.name ∷ []) (10 ∷ rest)) fits.edge refl passed in
    let name = c.in_ok-name.ensures.read p.name (10 ∷ rest) fits.name refl edge.1 in
    ((λ i. record { edge = edge.0 i; name = name.0 i }), c.pass-2.ensures.read rest name.1)
