-- The parents of a point in a table, with what answers for them.
use Rattle.std.specs.Prelude.{◌≡◌, List, slice_get, Some}
use Rattle.dk_engine.specs.Reading.Levels.{Whole}
use Rattle.dk_filters.specs.Answers.{Parent}
use Rattle.dk_filters.specs.declared.parents.ParentView.{ParentView}
use Rattle.dk_graph.specs.declared.nodes.Edge.{Edge}
use Rattle.dk_hierarchy.specs.Merging.{Joint}
use Rattle.dk_hierarchy.specs.Samples.{partners_of}
use Rattle.dk_hierarchy.specs.Standing.{IsMergedAt}
use Rattle.dk_points.specs.Table.{Point}
use Rattle.dk_report.specs.Asked.{answers_of_joint}
use Rattle.dk_report.specs.declared.parents.MergedParent.{MergedParent}

-- what a merged parent shows
abbrev pub merged_parent : MergedParent → Parent
merged_parent parent = record { answers = answers_of_joint parent.answers; partners = parent.partners }

-- It answers for the parent of an edge, with the edge's partners.
pub record IsParentBy (ps : List Point) (engines : List Whole) (parent : MergedParent) (edge : Edge) : Type 0 where
  pub here : slice_get engines edge.parent.0 ≡ Some parent.answers.here
  pub stands : IsMergedAt ps engines edge.parent.0 parent.answers
  pub partners : parent.partners ≡ partners_of ps edge

-- The view shows the parent.
pub record IsViewBy (view : ParentView Joint) (parent : MergedParent) : Type 0 where
  pub answers : view.answers.now ≡ parent.answers
  pub vars : view.vars.now ≡ parent.answers.here.infos
  pub partner : view.partner.now ≡ parent.partners
