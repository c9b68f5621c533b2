use Rattle.std.proofs.Common.{sym, ap, ◌∙◌, subst}
use Rattle.std.specs.Ordering.{int_cmp}
use Rattle.std.specs.FinMap.{int_cmp-IsAntisymmetric}
use Rattle.std.proofs.lemmas.Cmp.{int_cmp_total}
use Rattle.dk_forms.specs.declared.states.State.TheVariants.{Ints}
use Rattle.dk_forms.specs.Known.Distinct.{few_meet}
use Rattle.dk_forms.specs.Ints.{IsIntsState, ints_join, ints_state}
use Rattle.dk_forms.proofs.DistinctLaws.{few_laws}
use Rattle.dk_forms.proofs.few.ints.join_ints.Goals as goal

pub returns-in-Ints-left : goal.returns-in-Ints-left
returns-in-Ints-left c =
    let xs = c.in-Ints-left.xs in
    let ys = c.in-Ints.ys in
    let few_x = subst IsIntsState c.in-Ints-left.is c.requires.left in
    let few_y = subst IsIntsState c.in-Ints.is c.requires.right in
    c.union.ensures ∙ ap (λ s. ints_state (few_meet int_cmp 3 s xs)) c.as_slice-in-Ints-left.ensures.items
    ∙ ap ints_state ((few_laws int_cmp_total int_cmp-IsAntisymmetric 3).comm ys xs few_y few_x)
    ∙ sym (ap (λ s. ints_join s c.args.right.now) c.in-Ints-left.is ∙ ap (ints_join (Ints xs)) c.in-Ints.is)
