use Rattle.std.specs.Prelude.{◌≡◌, ◌∷◌, [], Bool, true, false, codes, refl}
use Rattle.std.specs.Str.{bytes_eq}
use Rattle.std.proofs.Common.{◌∙◌, ap}
use Rattle.dk_state.specs.Reading.{HasNone, ends_field}
use Rattle.dk_state.specs.Saved.{comparability_text}
use Rattle.dk_state.proofs.Onto.{fields_onto, line_onto}
use Rattle.dk_state.proofs.loading.implicit.Goals as goal

plain : (b : Bool) → HasNone ends_field (comparability_text b)
plain true = refl
plain false = refl

same : (b : Bool) → bytes_eq (comparability_text b) (codes "implicit") ≡ b
same true = refl
same false = refl

pub returns : goal.returns
returns c b rest is =
    let passed = c.pass.ensures.read (fields_onto (comparability_text b ∷ []) (10 ∷ rest)) (is ∙ line_onto (codes "comparability") (comparability_text b ∷ []) rest) in
    let word = c.field-word.ensures.read (comparability_text b) (10 ∷ rest) (plain b) refl passed in
    (c.same_bytes.ensures ∙ ap (λ w. bytes_eq w (codes "implicit")) word.0 ∙ same b, c.pass-2.ensures.read rest word.1)
