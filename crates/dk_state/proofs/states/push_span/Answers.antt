use Rattle.std.specs.Prelude.{◌≡◌, ◌++◌, ◌∷◌, [], ℕ, ℤ, List, OnOk, codes}
use Rattle.std.specs.Fmt.{signed_decimal}
use Rattle.std.proofs.Common.{◌∙◌, ap, of_z, subst, to_z, w64}
use Rattle.std.proofs.lemmas.Int.{to_z-of_z}
use Rattle.dk_state.specs.Lines.{behind_blank, fields_text}
use Rattle.dk_state.proofs.Pieces.{three_and_three}
use Rattle.dk_state.proofs.states.push_span.Goals as goal

-- the field of a number as a call is given it
abbrev passed : ℤ → List ℕ
passed z = signed_decimal (to_z w64 (of_z w64 z))

pub returns : goal.returns
returns c =
    let p = c.args in
    let r = c.ranges in
    let first : List ℕ = behind_blank (passed p.x1) ++ (behind_blank (passed p.y1) ++ behind_blank (passed p.z1)) in
    let second : List ℕ = behind_blank (passed p.x2) ++ (behind_blank (passed p.y2) ++ behind_blank (passed p.z2)) in
    let middle : c.push_place.new.text ≡ c.args.text.now ++ codes " span" ++ first = c.in_ok-push_place.ensures ∙ ap (λ t. t ++ first) c.in_ok-append.ensures.ok in
    let x1 = to_z-of_z w64 p.x1 r.x1 in
    let y1 = to_z-of_z w64 p.y1 r.y1 in
    let z1 = to_z-of_z w64 p.z1 r.z1 in
    let x2 = to_z-of_z w64 p.x2 r.x2 in
    let y2 = to_z-of_z w64 p.y2 r.y2 in
    let z2 = to_z-of_z w64 p.z2 r.z2 in
    subst (λ (t : List ℕ). OnOk c.push_place-2.result (c.push_place-2.new.text ≡ t))
    (ap (λ t. t ++ second) middle
    ∙ three_and_three c.args.text.now (codes " span") (passed p.x1) (passed p.y1) (passed p.z1) (passed p.x2) (passed p.y2) (passed p.z2)
    ∙ (λ i. c.args.text.now ++ (codes " span" ++ fields_text (signed_decimal (x1 i) ∷ signed_decimal (y1 i) ∷ signed_decimal (z1 i) ∷ signed_decimal (x2 i) ∷ signed_decimal (y2 i) ∷ signed_decimal (z2 i) ∷ []))))
    c.push_place-2.ensures
