-- A search among the parents.
use Rattle.std.specs.Prelude.{◌≡◌, ◌<◌, ℕ, Bool, true, List, [], length, map, slice_index_or}
use Rattle.std.specs.List.{list_any}
use Rattle.std.proofs.Common.{ap, arith, sym, ◌∙◌}
use Rattle.std.proofs.lemmas.List.{get_or-map, length-map}
use Rattle.dk_base.specs.declared.kinds.VarId.{VarId}
use Rattle.dk_base.specs.declared.kinds.VarInfo.{VarInfo}
use Rattle.dk_forms.specs.declared.states.State.{State}
use Rattle.dk_template.specs.Admitted.{admits}
use Rattle.dk_template.specs.declared.grammar.RowId.{RowId}
use Rattle.dk_filters.proofs.Choices.{any-map}
use Rattle.dk_filters.proofs.FromFound.{at_listed, listed_admitted}
use Rattle.dk_filters.specs.Answers.{Parent}
use Rattle.dk_filters.specs.Choices.{all_from, some_from}
use Rattle.dk_filters.specs.Facts.{is_at_one_parent, stands_there}
use Rattle.dk_filters.specs.Found.{by_partner, listed_at}
use Rattle.dk_filters.specs.Laws.{PartnersAreLike}
use Rattle.dk_filters.specs.Parents.{parent_shown}
use Rattle.dk_filters.specs.declared.parents.ParentView.{ParentView}

module _ {P : Type 0} (answered : P → RowId → List VarId → State) (counted : P → List VarId → ℕ) (agreeing : P → VarId → VarId → Bool) where
  abbrev pub is_at_view : RowId → State → List VarId → ParentView P → Bool
  is_at_view r s vars view = is_at_one_parent r s vars (parent_shown answered counted agreeing view)

  pub at_views : (r : RowId) (s : State) (vars : List VarId) (views : List (ParentView P)) → list_any (is_at_one_parent r s vars) (map (parent_shown answered counted agreeing) views) ≡ list_any (is_at_view r s vars) views
  at_views r s vars views = any-map (is_at_one_parent r s vars) (parent_shown answered counted agreeing) views

  module _ (infos : List VarInfo) (views : List (ParentView P)) (partners : List (List (List VarId))) (are : partners ≡ map (by_partner infos) (map (parent_shown answered counted agreeing) views))
      (place : ℕ) (view : ParentView P) (within : place < length views) (is : view ≡ slice_index_or views place view)
    where
      -- what is listed at a place is listed of the view there
      pub listed_here : (listed : List (List VarId)) → listed ≡ slice_index_or partners place listed → listed ≡ by_partner infos (parent_shown answered counted agreeing view)
      listed_here listed at =
          let show : ParentView P → Parent = parent_shown answered counted agreeing in
          let long : place < length (map show views) = let l = length-map views show in omega (arith, l, within) in
          at ∙ (ap (λ ps. slice_index_or ps place listed) are
          ∙ (get_or-map (by_partner infos) (map show views) place (show view) listed long
          ∙ ap (by_partner infos) (get_or-map show views place view (show view) within ∙ ap show (sym is))))

      module _ (r : RowId) (vars : List VarId) (h : admits r infos vars ≡ true) (listed : List (List VarId)) (at : listed ≡ slice_index_or partners place listed) where
        -- the row admits all choices of what is listed
        pub here_admitted : PartnersAreLike infos (parent_shown answered counted agreeing view) → all_from (admits r view.vars.now) [] (map (listed_at listed) vars) ≡ true
        here_admitted like =
            ap (λ ls. all_from (admits r view.vars.now) [] (map (listed_at ls) vars)) (listed_here listed at)
            ∙ listed_admitted infos (parent_shown answered counted agreeing view) r vars h like

        -- and some choice stands there exactly where the view has the row with this state
        pub here_told : (s : State) → some_from (stands_there (parent_shown answered counted agreeing view).answers r s) [] (map (listed_at listed) vars) ≡ is_at_view r s vars view
        here_told s =
            ap (λ ls. some_from (stands_there (parent_shown answered counted agreeing view).answers r s) [] (map (listed_at ls) vars)) (listed_here listed at)
            ∙ at_listed infos (parent_shown answered counted agreeing view) r vars h s
