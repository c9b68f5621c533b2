-- A point whose samples come by one way alone lists the same where its rows are asked about only over what the engine there keeps.
use Rattle.std.specs.Prelude.{◌≡◌, ◌++◌, ℕ, true, false, All, List, [], ◌∷◌, filter, flat_map, if◌then◌else◌, refl, ◌<◌}
use Rattle.std.specs.List.{AllZip}
use Rattle.std.proofs.Common.{◌∙◌, ap, inl, inr, sym}
use Rattle.dk_base.specs.declared.kinds.VarId.{VarId}
use Rattle.dk_base.specs.declared.values.Value.{Value}
use Rattle.dk_engine.specs.Reading.Levels.{Whole}
use Rattle.dk_filters.specs.Answers.{Parent}
use Rattle.dk_filters.specs.Candidates.{candidates_kept, candidates_of}
use Rattle.dk_filters.specs.Facts.{is_equality}
use Rattle.dk_filters.specs.Laws.{ShowTheSame}
use Rattle.dk_filters.specs.declared.found.PointFacts.{PointFacts}
use Rattle.dk_forms.specs.Laws.{IsIn}
use Rattle.dk_hierarchy.specs.Standing.{EnginesStandFor}
use Rattle.dk_hierarchy.specs.declared.way.Way.{Way}
use Rattle.dk_instances.proofs.Listing.{row_of_grammar}
use Rattle.dk_instances.specs.Instances.{rows_of}
use Rattle.dk_template.specs.Templates.{template_of}
use Rattle.dk_template.specs.declared.grammar.RowId.{RowId}
use Rattle.dk_report.proofs.Falling.{merged-falls}
use Rattle.dk_report.proofs.Instances.{row_by_row}
use Rattle.dk_report.proofs.Narrowed.{narrowed_row}
use Rattle.dk_report.proofs.Sole.{admitted_too, kept_is, stands_for}
use Rattle.dk_report.proofs.Telling.{tells_of}
use Rattle.dk_report.specs.Asked.{AreStanding, CanBeAsked, candidates_over, here_of, listed_candidates_by, vars_for_row, vars_with_enough, views_of}
use Rattle.dk_report.specs.Keeping.{keeps}
use Rattle.dk_report.specs.Listing.{listed_candidates_of_row, may_equal, may_lead, may_stand}
use Rattle.dk_report.specs.Narrowing.{CanNarrow, candidates_left, candidates_of_kept, fixed_vars, is_narrow}
use Rattle.dk_report.specs.Sweeps.{equal_takes}
use Rattle.dk_report.specs.declared.asking.Asking.{Asking}
use Rattle.dk_report.specs.declared.sweeping.Standing.{Standing}

pub flat_map-rows : {B : Type 0} (f g : RowId → List B) (rows : List RowId) → ((row : RowId) → IsIn row rows → f row ≡ g row) → flat_map f rows ≡ flat_map g rows
flat_map-rows f g [] same = refl
flat_map-rows f g (row ∷ rows) same =
    ap (λ r. f row ++ r) (flat_map-rows f g rows (λ r i. same r (inr i))) ∙ ap (λ r. r ++ flat_map g rows) (same row (inl refl))

module _ (asking : Asking) (can : CanBeAsked asking) (of : Standing) (standing : AreStanding asking of) (engine : Whole) (narrow : CanNarrow asking.options.now asking.here.now of engine)
    (some : All (λ (way : Way). 0 < way.paths) asking.here.now.ways) (samples : ℕ → List (List Value)) (stand : EnginesStandFor asking.here.now.engines samples)
    (qs : List Parent) (show : AllZip (ShowTheSame asking.here.now.here.grammar asking.here.now.here.infos) (views_of asking) qs)
  where
    abbrev here : Whole
    here = asking.here.now.here

    abbrev point : ℕ
    point = narrow.sole.way.point.0

    abbrev fixed : List VarId
    fixed = fixed_vars engine.kept of

    row_narrowed : (row : RowId) → IsIn row (rows_of here.grammar) → candidates_left engine.kept asking of fixed row ≡ listed_candidates_of_row asking.options.now (here_of asking) (views_of asking) row
    row_narrowed row i =
        ap (λ (f : PointFacts). if is_narrow row then candidates_of_kept engine.kept asking of fixed row
        else if is_equality row then equal_takes (listed_candidates_by asking row) (may_equal asking.options.now f) here.infos (template_of row).takes of.leading of.all
        else candidates_over asking row (vars_for_row of row)) can.found
        ∙ narrowed_row asking.options.now narrow.implied here.grammar (here_of asking) (samples point) here.infos
        (tells_of asking.here.now (samples point) (stands_for asking.here.now some samples stand engine narrow.sole)) (views_of asking) qs show engine.kept engine.infos
        (kept_is asking.here.now some samples stand engine narrow.sole) (admitted_too asking.here.now some samples stand engine narrow.sole)
        (λ vars v i. merged-falls asking.here.now vars v i) of.leading of.all of.single of.several
        (standing.leading ∙ ap (λ (f : PointFacts). filter (may_lead asking.options.now f) (vars_with_enough asking)) can.found) standing.all
        (standing.single ∙ ap (λ (f : PointFacts). filter (may_stand asking.options.now f false) (vars_with_enough asking)) can.found)
        (standing.several ∙ ap (λ (f : PointFacts). filter (may_stand asking.options.now f true) (vars_with_enough asking)) can.found)
        narrow.lead row (row_of_grammar here.grammar row i)

    pub narrowed_is : flat_map (candidates_left engine.kept asking of fixed) (rows_of here.grammar) ≡ candidates_kept (keeps asking.options.now) (candidates_of here.grammar asking.options.now.least (here_of asking) (views_of asking))
    narrowed_is =
        flat_map-rows (candidates_left engine.kept asking of fixed) (listed_candidates_of_row asking.options.now (here_of asking) (views_of asking)) (rows_of here.grammar) row_narrowed
        ∙ sym (row_by_row asking.options.now (here_of asking) (views_of asking) here.grammar)
