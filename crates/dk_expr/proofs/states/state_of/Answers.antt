use Rattle.std.specs.Prelude.{Some, if◌then◌else◌}
use Rattle.std.specs.Int.{w128}
use Rattle.std.proofs.Common.{◌∙◌, FitsSigned, ap, rules}
use Rattle.std.proofs.lemmas.Int.{to_z-of_z}
use Rattle.dk_base.specs.Numbers.{fits_i64}
use Rattle.dk_forms.specs.declared.states.State.TheVariants as state
use Rattle.dk_template.specs.declared.templates.StateForm.TheVariants as form
use Rattle.dk_expr.specs.Readable.{says_null}
use Rattle.dk_expr.proofs.Stated.{made_told}
use Rattle.dk_expr.proofs.states.state_of.Goals as goal
use Rattle.dk_expr.proofs.states.state_of.Goals.{in-Plain, in-Least, in-Greatest, in-Ints+in_ok-ints-in-Ints, in-Truth, in-Code, in-Texts+in_ok-values_in-in-Texts, in-Modulus, in-Line, in-Plane, in-Offset}

pub returns-clause-told : goal.returns-clause-told
returns-clause-told c s =
    let text = c.args.text.now in
    let f = c.args.found in
    let given = c.args.form in
    let r = c.match-form.result in
    let here = c.bytes_from-values.ensures in
    let bound_fits : FitsSigned w128 f.bound = search rules in
    let remainder_fits : FitsSigned w128 f.remainder = search rules in
    let modulus_fits : FitsSigned w128 f.modulus = search rules in
    let first_fits : FitsSigned w128 f.first_factor = search rules in
    let second_fits : FitsSigned w128 f.second_factor = search rules in
    let third_fits : FitsSigned w128 f.third_factor = search rules in
    let constant_fits : FitsSigned w128 f.constant = search rules in
    let offset_fits : FitsSigned w128 f.offset = search rules in
    let bound = to_z-of_z w128 f.bound bound_fits in
    let remainder = to_z-of_z w128 f.remainder remainder_fits in
    let modulus = to_z-of_z w128 f.modulus modulus_fits in
    let first = to_z-of_z w128 f.first_factor first_fits in
    let second = to_z-of_z w128 f.second_factor second_fits in
    let third = to_z-of_z w128 f.third_factor third_fits in
    let constant = to_z-of_z w128 f.constant constant_fits in
    let offset = to_z-of_z w128 f.offset offset_fits in
    elim c.match-form.branch [
      | in-Plain w ↦ made_told text f r given form.Plain s w.in-Plain.is w.result-is
      | in-Least w ↦
          made_told text f r given form.Least s w.in-Least.is (λ h. w.result-is ∙ w.least.ensures.read (ap fits_i64 bound ∙ h) ∙ ap (λ z. Some (state.Least z)) bound)
      | in-Greatest w ↦
          made_told text f r given form.Greatest s w.in-Greatest.is (λ h. w.result-is ∙ w.greatest.ensures.read (ap fits_i64 bound ∙ h) ∙ ap (λ z. Some (state.Greatest z)) bound)
      | in-Ints+in_ok-ints-in-Ints w ↦
          made_told text f r given form.Ints s w.in-Ints.is (λ ks fit some few is. w.result-is ∙ w.in_ok-ints-in-Ints.ensures.read ks fit some few (here ∙ is))
      | in-Truth w ↦ made_told text f r given form.Truth s w.in-Truth.is (λ b is. w.result-is ∙ w.truth.ensures.read b (here ∙ is))
      | in-Code w ↦
          made_told text f r given form.Code s w.in-Code.is
          (w.result-is ∙ ap (λ t. Some t) w.code.ensures ∙ ap (λ l. Some (state.Code (if says_null l then 0 else 1))) w.bytes_from.ensures)
      | in-Texts+in_ok-values_in-in-Texts w ↦
          made_told text f r given form.Texts s w.in-Texts.is
          (λ ts own some few is. w.result-is ∙ ap (λ l. Some (state.Texts l)) (w.in_ok-values_in-in-Texts.ensures ts own some few (here ∙ is)))
      | in-Modulus w ↦
          made_told text f r given form.Modulus s w.in-Modulus.is
          (λ m k small least is left. w.result-is ∙ w.modulus.ensures.read m k small least (modulus ∙ is) (remainder ∙ left))
      | in-Line w ↦ made_told text f r given form.Line s w.in-Line.is (w.result-is ∙ (λ i. Some (state.Straight (first i) (second i) (constant i))))
      | in-Plane w ↦ made_told text f r given form.Plane s w.in-Plane.is (w.result-is ∙ (λ i. Some (state.Plane (first i) (second i) (third i) (constant i))))
      | in-Offset w ↦ made_told text f r given form.Offset s w.in-Offset.is (w.result-is ∙ ap (λ z. Some (state.Offset z)) offset)
    ]
