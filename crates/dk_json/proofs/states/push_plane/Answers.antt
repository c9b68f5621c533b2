use Rattle.std.proofs.Common.{◌∙◌, [], ◌∷◌, ap, ℤ, codes, of_z, to_z}
use Rattle.std.proofs.lemmas.Int.{to_z-of_z}
use Rattle.std.proofs.lemmas.Result.{on_ok_weaker}
use Rattle.std.specs.Int.{w128}
use Rattle.dk_forms.specs.declared.states.State.TheVariants.{Straight}
use Rattle.dk_json.specs.States.{state_fields}
use Rattle.dk_json.specs.Texts.{number_json}
use Rattle.dk_json.specs.Trees.{Field, field_tokens, fields_tokens}
use Rattle.dk_json.proofs.Adding.{fields_behind, one_field, the_same}
use Rattle.dk_json.proofs.states.push_plane.Goals as goal

abbrev kept : ℤ → ℤ
kept z = to_z w128 (of_z w128 z)

pub returns : goal.returns
returns c =
    let a = c.args.a in
    let b = c.args.b in
    let constant : Field = (codes "d", number_json c.args.d) in
    let line_is =
    ap (λ (z : ℤ). fields_tokens (state_fields (Straight z (kept b) (kept c.args.c)))) (to_z-of_z w128 a c.ranges.a)
    ∙ ap (λ (z : ℤ). fields_tokens (state_fields (Straight a z (kept c.args.c)))) (to_z-of_z w128 b c.ranges.b)
    ∙ ap (λ (z : ℤ). fields_tokens (state_fields (Straight a b z))) (to_z-of_z w128 c.args.c c.ranges.c) in
    let constant_is = ap (λ (z : ℤ). field_tokens (codes "d", number_json z)) (to_z-of_z w128 c.args.d c.ranges.d) in
    on_ok_weaker c.push_number_field.result
    (λ last. fields_behind (state_fields (Straight a b c.args.c)) (constant ∷ []) (the_same line_is c.in_ok-push_line.ensures) (one_field constant (the_same constant_is last)))
    c.push_number_field.ensures
