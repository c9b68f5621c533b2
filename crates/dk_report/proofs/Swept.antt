-- A sweep over the variables that may stand in what is kept lists the kept candidates.
use Rattle.std.specs.Prelude.{◌≡◌, false, true, List, filter, flat_map, if◌then◌else◌}
use Rattle.std.proofs.Common.{◌∙◌, ap, sym}
use Rattle.dk_base.specs.declared.kinds.VarId.{VarId}
use Rattle.dk_filters.specs.Candidates.{candidates_kept, candidates_of}
use Rattle.dk_filters.specs.Facts.{is_equality}
use Rattle.dk_filters.specs.declared.found.PointFacts.{PointFacts}
use Rattle.dk_instances.specs.Instances.{rows_of}
use Rattle.dk_template.specs.Templates.{template_of}
use Rattle.dk_template.specs.declared.grammar.Grammar.{Grammar}
use Rattle.dk_template.specs.declared.grammar.RowId.{RowId}
use Rattle.dk_report.proofs.Falling.{merged-falls}
use Rattle.dk_report.proofs.FlatMaps.{flat_map-same}
use Rattle.dk_report.proofs.Instances.{row_by_row}
use Rattle.dk_report.proofs.Rows.{over_standing}
use Rattle.dk_report.specs.Asked.{AreStanding, CanBeAsked, candidates_over, candidates_standing, here_of, listed_candidates_by, vars_for_row, vars_with_enough, views_of}
use Rattle.dk_report.specs.Keeping.{keeps}
use Rattle.dk_report.specs.Listing.{listed_candidates_of_row, may_equal, may_lead, may_stand}
use Rattle.dk_report.specs.Sweeps.{equal_takes}
use Rattle.dk_report.specs.declared.asking.Asking.{Asking}
use Rattle.dk_report.specs.declared.sweeping.Standing.{Standing}

module _ (asking : Asking) (can : CanBeAsked asking) (of : Standing) (are : AreStanding asking of) where
  abbrev enough : List VarId
  enough = vars_with_enough asking

  pub row_swept : (row : RowId) → candidates_standing asking of row ≡ listed_candidates_of_row asking.options.now (here_of asking) (views_of asking) row
  row_swept row =
      ap (λ (f : PointFacts). if is_equality row then equal_takes (listed_candidates_by asking row) (may_equal asking.options.now f) asking.here.now.here.infos (template_of row).takes of.leading of.all
      else candidates_over asking row (vars_for_row of row)) can.found
      ∙ over_standing asking.options.now (here_of asking) (views_of asking) row (λ vars v i. merged-falls asking.here.now vars v i) of.leading of.all of.single of.several
      (are.leading ∙ ap (λ (f : PointFacts). filter (may_lead asking.options.now f) enough) can.found) are.all
      (are.single ∙ ap (λ (f : PointFacts). filter (may_stand asking.options.now f false) enough) can.found)
      (are.several ∙ ap (λ (f : PointFacts). filter (may_stand asking.options.now f true) enough) can.found)

  pub swept_is : (grammar : Grammar) → flat_map (candidates_standing asking of) (rows_of grammar)
      ≡ candidates_kept (keeps asking.options.now) (candidates_of grammar asking.options.now.least (here_of asking) (views_of asking))
  swept_is grammar =
      flat_map-same (candidates_standing asking of) (listed_candidates_of_row asking.options.now (here_of asking) (views_of asking)) row_swept (rows_of grammar)
      ∙ sym (row_by_row asking.options.now (here_of asking) (views_of asking) grammar)
