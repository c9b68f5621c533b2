use Rattle.std.proofs.Common.{[], ◌∷◌, ap, ℤ, codes}
use Rattle.std.proofs.lemmas.Int.{to_z-of_z}
use Rattle.std.proofs.lemmas.Result.{on_ok_weaker}
use Rattle.std.specs.Int.{w128}
use Rattle.dk_json.specs.Texts.{number_json}
use Rattle.dk_json.specs.Trees.{Field, field_tokens}
use Rattle.dk_json.proofs.Adding.{fields_behind, one_field, the_same}
use Rattle.dk_json.proofs.states.push_line.Goals as goal

pub returns : goal.returns
returns c =
    let a : Field = (codes "a", number_json c.args.a) in
    let b : Field = (codes "b", number_json c.args.b) in
    let constant : Field = (codes "c", number_json c.args.c) in
    let a_is = ap (λ (z : ℤ). field_tokens (codes "a", number_json z)) (to_z-of_z w128 c.args.a c.ranges.a) in
    let b_is = ap (λ (z : ℤ). field_tokens (codes "b", number_json z)) (to_z-of_z w128 c.args.b c.ranges.b) in
    let constant_is = ap (λ (z : ℤ). field_tokens (codes "c", number_json z)) (to_z-of_z w128 c.args.c c.ranges.c) in
    on_ok_weaker c.push_number_field-3.result
    (λ last. fields_behind (a ∷ b ∷ []) (constant ∷ [])
    (fields_behind (a ∷ []) (b ∷ []) (one_field a (the_same a_is c.in_ok-push_number_field.ensures)) (one_field b (the_same b_is c.in_ok-push_number_field-2.ensures)))
    (one_field constant (the_same constant_is last)))
    c.push_number_field-3.ensures
