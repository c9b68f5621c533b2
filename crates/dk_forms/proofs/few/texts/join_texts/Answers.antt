use Rattle.std.proofs.Common.{sym, ap, ◌∙◌, ◌≡◌, subst}
use Rattle.std.specs.Result.{IfOk}
use Rattle.std.specs.Ordering.{nat_cmp}
use Rattle.std.specs.Cmp.Lexicographic.{nat_list_cmp_total, slice_cmp}
use Rattle.std.specs.FinMap.{nat_cmp-IsAntisymmetric, slice_cmp-IsAntisymmetric}
use Rattle.dk_forms.specs.declared.states.State.TheVariants.{Texts}
use Rattle.dk_forms.specs.Known.Distinct.{few_meet}
use Rattle.dk_forms.specs.Texts.{IsTextsState, texts_join, texts_state}
use Rattle.dk_forms.proofs.DistinctLaws.{few_laws}
use Rattle.dk_forms.proofs.few.texts.join_texts.Goals as goal

pub returns-in-Texts-left : goal.returns-in-Texts-left
returns-in-Texts-left c =
    let xs = c.in-Texts-left.xs in
    let ys = c.in-Texts.ys in
    let few_x = subst IsTextsState c.in-Texts-left.is c.requires.left in
    let few_y = subst IsTextsState c.in-Texts.is c.requires.right in
    let meet = few_meet (slice_cmp nat_cmp) 3 in
    let same : texts_state (meet c.as_slice-in-Texts-left.result.now xs) ≡ texts_join c.args.left c.args.right.now =
    ap (λ s. texts_state (meet s xs)) c.as_slice-in-Texts-left.ensures
    ∙ ap texts_state ((few_laws nat_list_cmp_total (slice_cmp-IsAntisymmetric nat_cmp-IsAntisymmetric) 3).comm ys xs few_y few_x)
    ∙ sym (ap (λ s. texts_join s c.args.right.now) c.in-Texts-left.is ∙ ap (texts_join (Texts xs)) c.in-Texts.is) in
    subst (λ t. IfOk c.union_texts.result (λ state. state ≡ t)) same c.union_texts.ensures
