use Rattle.std.specs.Prelude.{◌≡◌, ◌∷◌, [], true, Some}
use Rattle.std.proofs.Common.{ap, subst, sym, ◌∙◌}
use Rattle.std.proofs.lemmas.List.{get_or_default}
use Rattle.dk_base.specs.declared.kinds.VarInfo.{VarInfo}
use Rattle.dk_template.specs.Admitted.{admits}
use Rattle.dk_filters.proofs.OneValues.{one_of_admits}
use Rattle.dk_filters.specs.Facts.{info_at, no_info, one_of_row_for}
use Rattle.dk_filters.proofs.found.has_one_value.Goals as goal

pub answer-requires-clause-vars : goal.answer-requires-clause-vars
answer-requires-clause-vars g c =
    let vars = c.args.vars.now in
    let found : one_of_row_for (info_at vars c.args.v).kind ≡ Some c.in-Some.row =
    ap (λ (i : VarInfo). one_of_row_for i.kind) (get_or_default vars c.args.v.0 no_info c.index-vars-v.result c.requires.within) ∙ sym c.in-Some.ensures in
    subst (λ infos. admits c.in-Some.row infos (c.args.v ∷ []) ≡ true) (sym c.requires.infos) (one_of_admits vars c.args.v c.requires.within c.in-Some.row found)
