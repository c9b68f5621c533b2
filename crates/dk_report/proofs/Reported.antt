-- The report of a point that is merged is the report of its samples.
use Rattle.std.specs.Prelude.{◌≡◌, ◌<◌, ◌^◌, ℕ, false, All, List, [], ◌∷◌, if◌then◌else◌, length, map, slice_get, Option, Some, refl, IfOk, Result, Ok, Err}
use Rattle.std.specs.List.{AllZip}
use Rattle.std.specs.Option.{option_map_or}
use Rattle.std.proofs.Common.{◌∙◌, ap, arith, sym}
use Rattle.dk_base.specs.Pieces.{is_empty}
use Rattle.dk_base.specs.declared.kinds.VarInfo.{VarInfo}
use Rattle.dk_base.specs.declared.values.Value.{Value}
use Rattle.dk_engine.specs.Reading.Levels.{Whole}
use Rattle.dk_filters.specs.Candidates.{candidates_kept, candidates_of}
use Rattle.dk_filters.specs.Laws.{ShowTheSame}
use Rattle.dk_filters.specs.Parents.{IsViewOf}
use Rattle.dk_filters.specs.declared.candidate.Candidate.{Candidate}
use Rattle.dk_filters.specs.declared.parents.ParentView.{ParentView}
use Rattle.dk_instances.proofs.Fitting.{count_of_none}
use Rattle.dk_graph.specs.Graphs.{edges_from}
use Rattle.dk_hierarchy.specs.Merging.{Joint}
use Rattle.dk_hierarchy.specs.Samples.{OwnSamples, all_vars_of, own_samples_of, samples_of}
use Rattle.dk_hierarchy.specs.Standing.{AreEnginesOf, EnginesStandFor, IsMergedAt}
use Rattle.dk_points.specs.Links.{nodes}
use Rattle.dk_points.specs.Table.{Point}
use Rattle.dk_presence.specs.Patterns.{capped, count_of}
use Rattle.dk_template.specs.declared.grammar.Grammar.{Grammar}
use Rattle.dk_template.specs.declared.grammar.Grammar.TheVariants as grammar
use Rattle.dk_print.specs.Sections.{section_text}
use Rattle.dk_report.proofs.Partners.{from-child}
use Rattle.dk_report.proofs.Telling.{same-candidates, tells}
use Rattle.dk_report.proofs.Views.{IsViewThrough, all-can-show, all-show, all-small, all-through}
use Rattle.dk_report.specs.Asked.{answers_of_joint, parent_of_view}
use Rattle.dk_report.specs.Engines.{grammar_at}
use Rattle.dk_report.specs.Keeping.{keeps}
use Rattle.dk_report.specs.Parents.{IsParentBy, IsViewBy}
use Rattle.dk_report.specs.Reports.{answers_of_point, kept_instances, name_in_table, parents_of, section_of}
use Rattle.dk_report.specs.declared.parents.MergedParent.{MergedParent}
use Rattle.dk_report.specs.declared.options.Options.{Options}

-- ---- how many samples there are
counted : (samples : List (List Value)) → count_of [] samples ≡ capped (length samples)
counted samples = count_of_none samples

pub none_counted : (samples : List (List Value)) (count : ℕ) → count ≡ count_of [] samples → count ≡ 0 → samples ≡ []
none_counted [] count is zero = refl
none_counted (s ∷ samples) count is zero = let c = counted (s ∷ samples) in absurd (omega (arith, is, zero, c))

pub some_counted : (samples : List (List Value)) (count : ℕ) → count ≡ count_of [] samples → (count ≡ 0 → ⊥) → is_empty samples ≡ false
some_counted [] count is some = absurd (some (is ∙ counted []))
some_counted (s ∷ samples) count is some = refl

module _ (ps : List Point) (engines : List Whole) (are : AreEnginesOf ps engines) (p : ℕ) (joint : Joint) (at : slice_get engines p ≡ Some joint.here) (merged : IsMergedAt ps engines p joint) where
  pub grammar_is : joint.here.grammar ≡ grammar_at engines p
  grammar_is = sym (ap (λ (o : Option Whole). option_map_or (λ (engine : Whole). engine.grammar) o grammar.Two) at)

  -- what the edges from the point show of its parents
  module _ (views : List (ParentView Joint)) (parents : List MergedParent) (shown : AllZip IsViewBy views parents) (by : AllZip (IsParentBy ps engines) parents (edges_from (nodes ps) p)) where
    through : AllZip (IsViewThrough ps engines are joint.here p at) views (edges_from (nodes ps) p)
    through = all-through ps engines are joint.here p at views parents (edges_from (nodes ps) p) shown by (from-child ps p)

    pub small_views : All (λ (view : ParentView Joint). length view.vars.now < 2 ^ 32) views
    small_views = all-small ps engines are joint.here p at views (edges_from (nodes ps) p) through

    pub views_can_show : All (λ (view : ParentView Joint). (view.answers.now.here.grammar ≡ joint.here.grammar) × IsViewOf view.answers.now.here.infos joint.here.infos (parent_of_view view)) views
    views_can_show = all-can-show ps engines are joint.here p at views (edges_from (nodes ps) p) through

    pub views_show : (own : OwnSamples) → EnginesStandFor engines (own_samples_of ps own) → AllZip (ShowTheSame joint.here.grammar joint.here.infos) (map parent_of_view views) (parents_of ps own p)
    views_show own stand = all-show ps engines are joint.here p at own stand views (edges_from (nodes ps) p) through

    pub reported : (options : Options) (list : List Candidate) → list ≡ candidates_kept (keeps options) (candidates_of joint.here.grammar options.least (answers_of_joint joint) (map parent_of_view views))
        → (own : OwnSamples) → EnginesStandFor engines (own_samples_of ps own) → list ≡ kept_instances (grammar_at engines p) options ps own p
    unfolding kept_instances
    reported options list is own stand =
        is
        ∙ (ap (λ (cs : List Candidate). candidates_kept (keeps options) cs)
        (same-candidates joint.here.grammar (answers_of_joint joint) (answers_of_point ps own p) (tells ps engines are own stand p joint at merged)
        (map parent_of_view views) (parents_of ps own p) (views_show own stand) options.least)
        ∙ ap (λ (g : Grammar). candidates_kept (keeps options) (candidates_of g options.least (answers_of_point ps own p) (parents_of ps own p))) grammar_is)

-- ---- the text
pub section_none : (grammar : Grammar) (options : Options) (ps : List Point) (own : OwnSamples) (p : ℕ) → samples_of ps own p ≡ [] → section_of grammar options ps own p ≡ []
unfolding section_of
section_none grammar options ps own p none =
    ap (λ (ss : List (List Value)). if is_empty ss then [] else section_text (name_in_table ps p) ((answers_of_point ps own p).counted []) (all_vars_of ps p) (kept_instances grammar options ps own p)) none

pub section_some : (grammar : Grammar) (options : Options) (ps : List Point) (own : OwnSamples) (p : ℕ) → is_empty (samples_of ps own p) ≡ false
    → section_of grammar options ps own p ≡ section_text (name_in_table ps p) (count_of [] (samples_of ps own p)) (all_vars_of ps p) (kept_instances grammar options ps own p)
unfolding section_of
section_some grammar options ps own p some =
    ap (λ b. if b then [] else section_text (name_in_table ps p) ((answers_of_point ps own p).counted []) (all_vars_of ps p) (kept_instances grammar options ps own p)) some

pub same_section : (name other : List ℕ) (count number : ℕ) (infos vars : List VarInfo) (list candidates : List Candidate) → name ≡ other → count ≡ number → infos ≡ vars → list ≡ candidates
    → section_text name count infos list ≡ section_text other number vars candidates
same_section name other count number infos vars list candidates n c i l =
    ap (λ (t : List ℕ). section_text t count infos list) n
    ∙ (ap (λ (k : ℕ). section_text other k infos list) c
    ∙ (ap (λ (vs : List VarInfo). section_text other number vs list) i
    ∙ ap (λ (cs : List Candidate). section_text other number vars cs) l))

-- what follows from what an answer that is there comes to
pub if_ok : {A E : Type 0} (r : Result A E) (P Q : A → Type 0) → ((x : A) → P x → Q x) → IfOk r P → IfOk r Q
if_ok (Ok x) P Q f h = f x h
if_ok (Err e) P Q f h = tt
