use Rattle.std.specs.Prelude.{◌∷◌, [], refl}
use Rattle.std.specs.Fmt.{signed_decimal}
use Rattle.std.proofs.Common.{◌∙◌}
use Rattle.std.proofs.lemmas.Int.{to_z-of_z}
use mir.Syntax.{w128}
use Rattle.dk_forms.specs.declared.states.State.TheVariants.{Plane}
use Rattle.dk_state.proofs.Onto.{fields_onto, fields_text_onto}
use Rattle.dk_state.proofs.reading_states.plane.Goals as goal

pub returns-clause-read : goal.returns-clause-read
returns-clause-read c a' b' c' d' rest fits is =
    let start = is ∙ fields_text_onto (signed_decimal a' ∷ signed_decimal b' ∷ signed_decimal c' ∷ signed_decimal d' ∷ []) (10 ∷ rest) in
    let r0 = c.wide-a.ensures.read a' (fields_onto (signed_decimal b' ∷ signed_decimal c' ∷ signed_decimal d' ∷ []) (10 ∷ rest)) fits.0 refl start in
    let e0 = to_z-of_z w128 c.wide-a.result (record { sfits = c.wide-a.type_inv }) ∙ r0.0 in
    let r1 = c.wide-b.ensures.read b' (fields_onto (signed_decimal c' ∷ signed_decimal d' ∷ []) (10 ∷ rest)) fits.1 refl r0.1 in
    let e1 = to_z-of_z w128 c.wide-b.result (record { sfits = c.wide-b.type_inv }) ∙ r1.0 in
    let r2 = c.wide-c.ensures.read c' (fields_onto (signed_decimal d' ∷ []) (10 ∷ rest)) fits.2 refl r1.1 in
    let e2 = to_z-of_z w128 c.wide-c.result (record { sfits = c.wide-c.type_inv }) ∙ r2.0 in
    let r3 = c.wide-d.ensures.read d' (10 ∷ rest) fits.3 refl r2.1 in
    let e3 = to_z-of_z w128 c.wide-d.result (record { sfits = c.wide-d.type_inv }) ∙ r3.0 in
    ((λ i. Plane (e0 i) (e1 i) (e2 i) (e3 i)), r3.1)
