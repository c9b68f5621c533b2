use Rattle.std.proofs.Common.{rules, sym, ap, ◌∙◌, subst, SFits}
use Rattle.std.specs.Int.{w128}
use Rattle.std.proofs.lemmas.Int.{to_z-of_z}
use Rattle.dk_arith.specs.Vectors.{minus, cross}
use Rattle.dk_arith.proofs.Parallels.{IsZero}
use Rattle.dk_forms.specs.Plane.Points.{triple, direction}
use Rattle.dk_forms.specs.Plane.{plane_across, plane_through, IsPlane}
use Rattle.dk_forms.proofs.PlaneFacts.{not_aligned, through_fits}
use Rattle.dk_arith.proofs.Registers.{lowest_kept}
use Rattle.dk_arith.specs.Directions.{in_lowest}
use Rattle.dk_forms.proofs.plane.plane_through.Goals as goal

pub lowest-requires-clause-some : goal.lowest-requires-clause-some
lowest-requires-clause-some c z =
    let p = triple c.args.p in let q = triple c.args.q in let v = triple c.args.v in
    let k = c.normal-k.result in
    let fa : SFits w128 k.a = search rules in let fb : SFits w128 k.b = search rules in let fc : SFits w128 k.c = search rules in
    let is = c.normal-k.ensures.value ∙ ap (λ t. cross t (direction c.gap-2.result)) c.gap.ensures.value ∙ ap (cross (minus q p)) c.gap-2.ensures.value in
    not_aligned p q v c.requires.off (subst IsZero is (sym (to_z-of_z w128 k.a fa) ∙ z.0, sym (to_z-of_z w128 k.b fb) ∙ z.1, sym (to_z-of_z w128 k.c fc) ∙ z.2))

pub returns-clause-value : goal.returns-clause-value
unfolding plane_through
returns-clause-value c =
    let p = triple c.args.p in let q = triple c.args.q in let v = triple c.args.v in
    let k = c.normal-k.result in
    let fa : SFits w128 k.a = search rules in let fb : SFits w128 k.b = search rules in let fc : SFits w128 k.c = search rules in
    let is = c.normal-k.ensures.value ∙ ap (λ t. cross t (direction c.gap-2.result)) c.gap.ensures.value ∙ ap (cross (minus q p)) c.gap-2.ensures.value in
    let low = lowest_kept (direction k) (direction c.lowest.result) fa fb fc c.lowest.ensures.a c.lowest.ensures.b c.lowest.ensures.c in
    c.plane_across.ensures ∙ ap (λ t. plane_across t p) (low ∙ ap in_lowest is)

pub returns-clause-proper : goal.returns-clause-proper
returns-clause-proper c =
    let p = triple c.args.p in let q = triple c.args.q in let v = triple c.args.v in
    subst IsPlane (sym (returns-clause-value c)) (through_fits p q v c.requires.off c.requires.p c.requires.q c.requires.v)
