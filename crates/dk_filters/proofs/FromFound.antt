-- What is found once for a point tells the facts of its instances.
use Rattle.std.specs.Prelude.{◌≡◌, ◌<◌, true, List, [], length, map}
use Rattle.std.specs.List.{list_all, list_any}
use Rattle.std.proofs.Common.{ap, ◌∙◌}
use Rattle.dk_base.specs.declared.kinds.VarId.{VarId}
use Rattle.dk_base.specs.declared.kinds.VarInfo.{VarInfo}
use Rattle.dk_forms.specs.declared.states.State.{State}
use Rattle.dk_template.specs.Admitted.{admits}
use Rattle.dk_template.specs.Premises.{AreThere}
use Rattle.dk_template.specs.declared.grammar.RowId.{RowId}
use Rattle.dk_filters.proofs.Asked.{admitted-at-parent, admitted-there, ways}
use Rattle.dk_filters.proofs.Firsts.{constant-same, member-same}
use Rattle.dk_filters.proofs.Listed.{firsts-at, listed, one_values-at}
use Rattle.dk_filters.proofs.Lists.{all-true}
use Rattle.dk_filters.specs.Answers.{Answers, Parent}
use Rattle.dk_filters.specs.Choices.{all_from, some_from}
use Rattle.dk_filters.specs.Facts.{first_like, has_one_value, is_at_one_parent, is_constant_instance, is_constant_instance_by, is_further_member, is_further_member_by, one_of_each, stands_there, with_partners}
use Rattle.dk_filters.specs.Found.{by_partner, first_in, firsts_of, listed_at, one_value_in, one_values_of}
use Rattle.dk_filters.specs.Laws.{PartnersAreLike}

pub members_found : (here : Answers) (r : RowId) (vars : List VarId) → AreThere here.infos vars → is_further_member_by (first_in (firsts_of here)) r vars ≡ is_further_member here r vars
members_found here r vars there = member-same (first_in (firsts_of here)) (first_like here) (λ v. v.0 < length here.infos) (firsts-at here) r vars there

pub constants_found : (here : Answers) (r : RowId) (vars : List VarId) → AreThere here.infos vars
    → is_constant_instance_by (first_in (firsts_of here)) (one_value_in (one_values_of here)) r vars ≡ is_constant_instance here r vars
constants_found here r vars there =
    constant-same (first_in (firsts_of here)) (first_like here) (λ v. v.0 < length here.infos) (firsts-at here) (one_value_in (one_values_of here)) (has_one_value here) (one_values-at here) r vars there

module _ (infos : List VarInfo) (p : Parent) (r : RowId) (vars : List VarId) (h : admits r infos vars ≡ true) where
  -- the choices of what is listed are the parent's variables with these partners
  pub at_listed : (s : State) → some_from (stands_there p.answers r s) [] (map (listed_at (by_partner infos p)) vars) ≡ is_at_one_parent r s vars p
  at_listed s = ap (λ lists. list_any (stands_there p.answers r s) (one_of_each lists)) (listed infos p vars (admitted-there infos r vars h))

  -- and the row admits each of them
  pub listed_admitted : PartnersAreLike infos p → all_from (admits r p.answers.infos) [] (map (listed_at (by_partner infos p)) vars) ≡ true
  listed_admitted like =
      ap (λ lists. list_all (admits r p.answers.infos) (one_of_each lists)) (listed infos p vars (admitted-there infos r vars h))
      ∙ all-true (admits r p.answers.infos) (with_partners p vars) (λ i d lt. admitted-at-parent infos p like r vars h _ (ways p vars i d lt))
