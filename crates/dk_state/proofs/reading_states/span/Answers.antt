use Rattle.std.specs.Prelude.{◌∷◌, [], refl}
use Rattle.std.specs.Fmt.{signed_decimal}
use Rattle.std.proofs.Common.{◌∙◌}
use Rattle.std.proofs.lemmas.Int.{to_z-of_z}
use mir.Syntax.{w64}
use Rattle.dk_forms.specs.declared.states.State.TheVariants.{Span}
use Rattle.dk_state.proofs.Onto.{fields_onto, fields_text_onto}
use Rattle.dk_state.proofs.reading_states.span.Goals as goal

pub returns-clause-read : goal.returns-clause-read
returns-clause-read c x1' y1' z1' x2' y2' z2' rest fits is =
    let start = is ∙ fields_text_onto (signed_decimal x1' ∷ signed_decimal y1' ∷ signed_decimal z1' ∷ signed_decimal x2' ∷ signed_decimal y2' ∷ signed_decimal z2' ∷ []) (10 ∷ rest) in
    let r0 = c.integer-x1.ensures.read x1' (fields_onto (signed_decimal y1' ∷ signed_decimal z1' ∷ signed_decimal x2' ∷ signed_decimal y2' ∷ signed_decimal z2' ∷ []) (10 ∷ rest)) fits.0 refl start in
    let e0 = to_z-of_z w64 c.integer-x1.result (record { sfits = c.integer-x1.type_inv }) ∙ r0.0 in
    let r1 = c.integer-y1.ensures.read y1' (fields_onto (signed_decimal z1' ∷ signed_decimal x2' ∷ signed_decimal y2' ∷ signed_decimal z2' ∷ []) (10 ∷ rest)) fits.1 refl r0.1 in
    let e1 = to_z-of_z w64 c.integer-y1.result (record { sfits = c.integer-y1.type_inv }) ∙ r1.0 in
    let r2 = c.integer-z1.ensures.read z1' (fields_onto (signed_decimal x2' ∷ signed_decimal y2' ∷ signed_decimal z2' ∷ []) (10 ∷ rest)) fits.2 refl r1.1 in
    let e2 = to_z-of_z w64 c.integer-z1.result (record { sfits = c.integer-z1.type_inv }) ∙ r2.0 in
    let r3 = c.integer-x2.ensures.read x2' (fields_onto (signed_decimal y2' ∷ signed_decimal z2' ∷ []) (10 ∷ rest)) fits.3 refl r2.1 in
    let e3 = to_z-of_z w64 c.integer-x2.result (record { sfits = c.integer-x2.type_inv }) ∙ r3.0 in
    let r4 = c.integer-y2.ensures.read y2' (fields_onto (signed_decimal z2' ∷ []) (10 ∷ rest)) fits.4 refl r3.1 in
    let e4 = to_z-of_z w64 c.integer-y2.result (record { sfits = c.integer-y2.type_inv }) ∙ r4.0 in
    let r5 = c.integer-z2.ensures.read z2' (10 ∷ rest) fits.5 refl r4.1 in
    let e5 = to_z-of_z w64 c.integer-z2.result (record { sfits = c.integer-z2.type_inv }) ∙ r5.0 in
    ((λ i. Span (e0 i) (e1 i) (e2 i) (e3 i) (e4 i) (e5 i)), r5.1)
