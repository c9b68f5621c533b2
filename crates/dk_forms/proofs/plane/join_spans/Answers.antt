use Rattle.std.proofs.Common.{ap, ◌∙◌}
use Rattle.std.specs.Prelude.{[], ◌∷◌}
use Rattle.dk_forms.specs.Plane.Points.{triple}
use Rattle.dk_forms.specs.Plane.{plane_from, plane_between, lesser, greater, plane_state}
use Rattle.dk_forms.proofs.plane.join_spans.Goals as goal

pub returns : goal.returns
unfolding plane_from
returns c =
    let p = triple c.args.p in let q = triple c.args.q in let v = triple c.args.v in let w = triple c.args.w in
    let points = p ∷ q ∷ v ∷ w ∷ [] in
    let low = c.lesser-least.ensures.value ∙ ap (λ t. lesser t w) (c.lesser-2.ensures.value ∙ ap (λ t. lesser t v) c.lesser.ensures.value) in
    let high = c.greater-greatest.ensures.value ∙ ap (λ t. greater t w) (c.greater-2.ensures.value ∙ ap (λ t. greater t v) c.greater.ensures.value) in
    c.plane_between.ensures ∙ ap (λ t. plane_state (plane_between t (triple c.greater-greatest.result) points)) low ∙ ap (λ t. plane_state (plane_between (lesser (lesser (lesser p q) v) w) t points)) high
