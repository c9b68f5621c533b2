use Rattle.std.specs.Prelude.{◌≡◌, ◌∷◌, []}
use Rattle.std.proofs.Common.{rules, subst, sym}
use Rattle.dk_forms.specs.Plane.{IsPlaneState, IsSpan, plane_join, plane_of}
use Rattle.dk_forms.specs.declared.states.State.{State}
use Rattle.dk_forms.specs.declared.states.State.TheVariants.{Span}
use Rattle.dk_engine.proofs.feed.growing.stays_at.Goals as goal

pub is_within-requires : goal.is_within-requires
is_within-requires c =
    let k = c.in-Span in
    let fit : IsSpan ((k.x1, k.y1, k.z1), (k.x2, k.y2, k.z2)) = subst IsPlaneState k.is c.requires in
    search (rules, fit)

pub returns-in-Span : goal.returns-in-Span
returns-in-Span c fits =
    let k = c.in-Span in
    let told : plane_join (Span k.x1 k.y1 k.z1 k.x2 k.y2 k.z2) (plane_of ((c.args.x, c.args.y, c.args.z) ∷ [])) ≡ Span k.x1 k.y1 k.z1 k.x2 k.y2 k.z2 = search (rules, c.is_within.ensures fits) in
    subst (λ (t : State). plane_join t (plane_of ((c.args.x, c.args.y, c.args.z) ∷ [])) ≡ t) (sym k.is) told
