-- The views of a point's parents show what their samples tell.
use Rattle.std.specs.Prelude.{◌≡◌, ◌<◌, ◌^◌, ℕ, All, IsTrue, List, [], ◌∷◌, length, map, slice_get, Option, Some}
use Rattle.std.specs.List.{AllZip}
use Rattle.std.proofs.Common.{◌∙◌, ap, subst, sym}
use Rattle.std.proofs.lemmas.List.Elements.{All-cons, All-head, All-nil, All-tail}
use Rattle.dk_base.specs.Shapes.{is_base_form}
use Rattle.dk_base.specs.declared.kinds.VarId.{VarId}
use Rattle.dk_base.specs.declared.kinds.VarInfo.{VarInfo}
use Rattle.dk_engine.specs.Reading.Levels.{Whole}
use Rattle.dk_filters.specs.Answers.{Answers, Parent}
use Rattle.dk_filters.specs.Facts.{info_at, is_partner}
use Rattle.dk_filters.specs.Laws.{ShowTheSame, TellTheSame}
use Rattle.dk_filters.specs.Parents.{IsViewOf}
use Rattle.dk_filters.specs.declared.parents.ParentView.{ParentView}
use Rattle.dk_graph.specs.declared.nodes.Edge.{Edge}
use Rattle.dk_hierarchy.specs.Merging.{Joint}
use Rattle.dk_hierarchy.specs.Samples.{OwnSamples, all_vars_of, own_samples_of, partners_of}
use Rattle.dk_hierarchy.specs.Standing.{AreEnginesOf, EnginesStandFor, IsMergedAt}
use Rattle.dk_points.specs.Table.{Point}
use Rattle.dk_report.proofs.Partners.{like}
use Rattle.dk_report.proofs.Telling.{tells}
use Rattle.dk_report.specs.Asked.{answers_of_joint, parent_of_view}
use Rattle.dk_report.specs.Parents.{IsParentBy, IsViewBy}
use Rattle.dk_report.specs.Reports.{answers_of_point}
use Rattle.dk_report.specs.declared.parents.MergedParent.{MergedParent}

-- each variable with a partner is like it
abbrev AreLike : List VarInfo → List VarInfo → List (Option VarId) → Type 0
AreLike infos there partners =
    (v w : VarId) → v.0 < length infos → w.0 < length there → IsTrue (is_partner partners v w)
    → ((info_at there w).kind ≡ (info_at infos v).kind) × (is_base_form (info_at there w).form ≡ is_base_form (info_at infos v).form)

module _ (ps : List Point) (engines : List Whole) (are : AreEnginesOf ps engines) (here : Whole) (p : ℕ) (at : slice_get engines p ≡ Some here) where
  -- what a view is to the edge of its parent
  pub record IsViewThrough (view : ParentView Joint) (edge : Edge) : Type 0 where
    pub grammar : view.answers.now.here.grammar ≡ here.grammar
    pub view_is : IsViewOf view.answers.now.here.infos here.infos (parent_of_view view)
    pub here_is : slice_get engines edge.parent.0 ≡ Some view.answers.now.here
    pub stands : IsMergedAt ps engines edge.parent.0 view.answers.now
    pub vars : view.vars.now ≡ view.answers.now.here.infos
    pub partner : view.partner.now ≡ partners_of ps edge

  module _ (view : ParentView Joint) (parent : MergedParent) (edge : Edge) (is : IsViewBy view parent) (by : IsParentBy ps engines parent edge) (child : edge.child.0 ≡ p) where
    here-is : slice_get engines edge.parent.0 ≡ Some view.answers.now.here
    here-is = by.here ∙ ap (λ (joint : Joint). Some joint.here) (sym is.answers)

    vars : view.vars.now ≡ view.answers.now.here.infos
    vars = is.vars ∙ ap (λ (joint : Joint). joint.here.infos) (sym is.answers)

    there : view.answers.now.here.infos ≡ all_vars_of ps edge.parent.0
    there = (are.variables edge.parent.0 view.answers.now.here here-is).0

    infos : here.infos ≡ all_vars_of ps edge.child.0
    infos = (are.variables p here at).0 ∙ ap (all_vars_of ps) (sym child)

    partner : view.partner.now ≡ partners_of ps edge
    partner = is.partner ∙ by.partners

    alike : AreLike here.infos view.vars.now view.partner.now
    alike =
        subst (λ vs. AreLike vs view.vars.now view.partner.now) (sym infos)
        (subst (λ vs. AreLike (all_vars_of ps edge.child.0) vs view.partner.now) (sym (vars ∙ there))
        (subst (AreLike (all_vars_of ps edge.child.0) (all_vars_of ps edge.parent.0)) (sym partner) (like ps edge)))

    pub through : IsViewThrough view edge
    through = record {
      grammar = are.grammar edge.parent.0 p view.answers.now.here here here-is at;
      view_is = record {
        same = sym vars;
        alike = alike;
        small = subst (λ vs. length vs < 2 ^ 32) (sym vars) (are.variables edge.parent.0 view.answers.now.here here-is).1.few;
      };
      here_is = here-is;
      stands = subst (IsMergedAt ps engines edge.parent.0) (sym is.answers) by.stands;
      vars = vars;
      partner = partner;
    }

  pub all-through : (views : List (ParentView Joint)) (parents : List MergedParent) (edges : List Edge)
      → AllZip IsViewBy views parents → AllZip (IsParentBy ps engines) parents edges → All (λ (e : Edge). e.child.0 ≡ p) edges → AllZip IsViewThrough views edges
  all-through [] [] [] v b c = tt
  all-through [] [] (e ∷ edges) v b c = absurd b
  all-through [] (q ∷ parents) edges v b c = absurd v
  all-through (w ∷ views) [] edges v b c = absurd v
  all-through (w ∷ views) (q ∷ parents) [] v b c = absurd b
  all-through (w ∷ views) (q ∷ parents) (e ∷ edges) v b c =
      let Child : Edge → Type 0 = λ e. e.child.0 ≡ p in
      (through w q e v.0 b.0 (All-head Child e edges c), all-through views parents edges v.1 b.1 (All-tail Child e edges c))

  -- ---- what may be asked
  abbrev CanShow : ParentView Joint → Type 0
  CanShow view = (view.answers.now.here.grammar ≡ here.grammar) × IsViewOf view.answers.now.here.infos here.infos (parent_of_view view)

  pub all-can-show : (views : List (ParentView Joint)) (edges : List Edge) → AllZip IsViewThrough views edges → All CanShow views
  all-can-show [] [] z = All-nil CanShow
  all-can-show [] (e ∷ edges) z = absurd z
  all-can-show (w ∷ views) [] z = absurd z
  all-can-show (w ∷ views) (e ∷ edges) z = All-cons CanShow w views (z.0.grammar, z.0.view_is) (all-can-show views edges z.1)

  abbrev IsSmall : ParentView Joint → Type 0
  IsSmall view = length view.vars.now < 2 ^ 32

  pub all-small : (views : List (ParentView Joint)) (edges : List Edge) → AllZip IsViewThrough views edges → All IsSmall views
  all-small [] [] z = All-nil IsSmall
  all-small [] (e ∷ edges) z = absurd z
  all-small (w ∷ views) [] z = absurd z
  all-small (w ∷ views) (e ∷ edges) z = All-cons IsSmall w views z.0.view_is.small (all-small views edges z.1)

  -- ---- what is shown
  module _ (own : OwnSamples) (stand : EnginesStandFor engines (own_samples_of ps own)) where
    abbrev parent_of : Edge → Parent
    parent_of e = record { answers = answers_of_point ps own e.parent.0; partners = partners_of ps e }

    shows : (view : ParentView Joint) (edge : Edge) → IsViewThrough view edge → ShowTheSame here.grammar here.infos (parent_of_view view) (parent_of edge)
    shows view edge is = record {
      partners = is.partner;
      alike = is.view_is.alike;
      answers =
          let told = tells ps engines are own stand edge.parent.0 view.answers.now is.here_is is.stands in
          let by-infos : List VarInfo → Answers = λ vs. record (answers_of_joint view.answers.now) { infos = vs } in
          subst (λ vs. TellTheSame here.grammar (by-infos vs) (answers_of_point ps own edge.parent.0)) (sym is.vars)
          (subst (λ g. TellTheSame g (answers_of_joint view.answers.now) (answers_of_point ps own edge.parent.0)) is.grammar told);
    }

    pub all-show : (views : List (ParentView Joint)) (edges : List Edge) → AllZip IsViewThrough views edges
        → AllZip (ShowTheSame here.grammar here.infos) (map parent_of_view views) (map parent_of edges)
    all-show [] [] z = tt
    all-show [] (e ∷ edges) z = absurd z
    all-show (w ∷ views) [] z = absurd z
    all-show (w ∷ views) (e ∷ edges) z = (shows w e z.0, all-show views edges z.1)
