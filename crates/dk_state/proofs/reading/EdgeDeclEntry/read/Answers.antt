use Rattle.std.specs.Prelude.{◌∷◌, [], codes, refl}
use Rattle.std.specs.Fmt.{decimal}
use Rattle.std.proofs.Common.{◌∙◌}
use Rattle.dk_base.specs.Names.{escaped}
use Rattle.dk_state.proofs.Onto.{fields_onto, line_onto}
use Rattle.dk_state.proofs.reading.EdgeDeclEntry.read.Goals as goal

pub returns-clause-read : goal.returns-clause-read
returns-clause-read c e rest fits last is =
    let passed = c.pass.ensures.read (fields_onto (decimal e.id ∷ escaped e.parent ∷ []) (10 ∷ rest)) (is ∙ line_onto (codes "edge") (decimal e.id ∷ escaped e.parent ∷ []) rest) in
    let id = c.place-id.ensures.read e.id (fields_onto (escaped e.parent ∷ []) (10 ∷ rest)) fits.id refl passed in
    let parent = c.in_ok-parent.ensures.read e.parent (10 ∷ rest) fits.parent refl id.1 in
    ((λ i. record { parent = parent.0 i; id = id.0 i }), c.pass-2.ensures.read rest parent.1)
