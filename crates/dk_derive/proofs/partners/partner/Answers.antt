use Rattle.std.proofs.Common.{◌∙◌, ◌≤◌, length, option_and_then, refl, ap, subst, sym}
use Rattle.std.proofs.lemmas.Option.{slice_get_read}
use Rattle.dk_points.specs.Vars.{vars_of}
use Rattle.dk_derive.proofs.Deriving.{base_is_among}
use Rattle.dk_derive.specs.Partners.{partner_by_form, partner_with_derived}
use Rattle.dk_derive.proofs.partners.partner.Goals as goal

pub returns-clause-partner : goal.returns-clause-partner
unfolding partner_with_derived
returns-clause-partner c =
    c.partner_by_form.ensures.partner
    ∙ ap (λ v. partner_by_form c.args.points.now c.args.edge c.args.child.now c.args.w.0 v.form) (sym c.index-parent-w.is)
    ∙ ap (option_and_then (λ v. partner_by_form c.args.points.now c.args.edge c.args.child.now c.args.w.0 v.form))
    (sym (slice_get_read c.args.parent.now (length c.args.parent.now) c.args.w.0 c.index-parent-w.result refl c.requires.var c.index-parent-w.is))

pub returns-clause-within : goal.returns-clause-within
returns-clause-within c = λ same.
    c.partner_by_form.ensures.within
    (subst (λ l. length (vars_of c.args.points.now c.args.edge.child.0) ≤ length l) (sym same) (base_is_among (vars_of c.args.points.now c.args.edge.child.0)))
