-- A point that is asked about its instances.
use Rattle.std.specs.Prelude.{◌≡◌, ◌==◌, Bool, true, false, All, List, [], ◌∷◌, filter, if◌then◌else◌, map, nat_le}
use Rattle.dk_base.specs.declared.kinds.VarId.{VarId}
use Rattle.dk_filters.specs.Answers.{Answers, Parent}
use Rattle.dk_filters.specs.Facts.{is_equality}
use Rattle.dk_filters.specs.Found.{found_of}
use Rattle.dk_filters.specs.Parents.{IsViewOf, answers_by, parent_shown}
use Rattle.dk_filters.specs.declared.candidate.Candidate.{Candidate}
use Rattle.dk_filters.specs.declared.parents.ParentView.{ParentView}
use Rattle.dk_hierarchy.specs.Merging.{Joint, merged_agree, merged_count, merged_state}
use Rattle.dk_instances.specs.Instances.{all_vars}
use Rattle.dk_template.specs.Templates.{arity_of, template_of}
use Rattle.dk_template.specs.declared.grammar.RowId.{RowId}
use Rattle.dk_report.specs.Listing.{listed_candidates, may_equal, may_lead, may_stand}
use Rattle.dk_report.specs.Sweeps.{equal_takes, over_takes}
use Rattle.dk_report.specs.declared.asking.Asking.{Asking}
use Rattle.dk_report.specs.declared.sweeping.Standing.{Standing}

-- what a merged point tells
abbrev pub answers_of_joint : Joint → Answers
answers_of_joint joint = answers_by joint.here.infos (merged_state joint) (merged_count joint) (merged_agree joint)

-- what a view shows of a merged parent
abbrev pub parent_of_view : ParentView Joint → Parent
parent_of_view view = parent_shown merged_state merged_count merged_agree view

abbrev pub here_of : Asking → Answers
here_of asking = answers_of_joint asking.here.now

abbrev pub views_of : Asking → List Parent
views_of asking = map parent_of_view asking.parents.now

-- the candidates of a row over variables, as a point that is asked lists them
abbrev pub listed_candidates_by : Asking → RowId → List VarId → List Candidate
listed_candidates_by asking row vars = listed_candidates asking.options.now (here_of asking) (views_of asking) row vars

-- The parents go by the point's grammar and are parents of it, and what is found of the point is all that its facts ask about it.
pub record CanBeAsked (asking : Asking) : Type 0 where
  pub grammar : asking.grammar ≡ asking.here.now.here.grammar
  pub parents : All
      (λ view. (view.answers.now.here.grammar ≡ asking.here.now.here.grammar)
      × IsViewOf view.answers.now.here.infos asking.here.now.here.infos (parent_of_view view)) asking.parents.now
  pub found : asking.found.now ≡ found_of (here_of asking) (views_of asking)

-- ---- the variables that rows are asked about
-- the variable is present in at least as many samples as an instance that is kept
abbrev pub has_enough : Asking → VarId → Bool
has_enough asking v = nat_le asking.options.now.least (merged_count asking.here.now (v ∷ []))

abbrev pub vars_with_enough : Asking → List VarId
vars_with_enough asking = filter (has_enough asking) (all_vars asking.here.now.here.infos)

-- such variables that may stand in an instance of one variable, or of several
abbrev pub standing_vars : Asking → Bool → List VarId
standing_vars asking several = filter (may_stand asking.options.now asking.found.now several) (vars_with_enough asking)

-- such variables that may stand first in an equality
abbrev pub leading_vars : Asking → List VarId
leading_vars asking = filter (may_lead asking.options.now asking.found.now) (vars_with_enough asking)

pub record AreStanding (asking : Asking) (of : Standing) : Type 0 where
  pub all : of.all ≡ vars_with_enough asking
  pub leading : of.leading ≡ leading_vars asking
  pub single : of.single ≡ standing_vars asking false
  pub several : of.several ≡ standing_vars asking true

-- those over which a row is asked about that is no equality
abbrev pub vars_for_row : Standing → RowId → List VarId
vars_for_row standing row = if arity_of row == 1 then standing.single else standing.several

-- the candidates of a row over such variables
abbrev pub candidates_over : Asking → RowId → List VarId → List Candidate
candidates_over asking row of = over_takes (listed_candidates_by asking row) asking.here.now.here.infos (template_of row).takes of

-- those of an equality
abbrev pub candidates_equal : Asking → Standing → RowId → List Candidate
candidates_equal asking standing row =
    equal_takes (listed_candidates_by asking row) (may_equal asking.options.now asking.found.now) asking.here.now.here.infos
    (template_of row).takes standing.leading standing.all

-- those of a row
abbrev pub candidates_standing : Asking → Standing → RowId → List Candidate
candidates_standing asking standing row =
    if is_equality row then candidates_equal asking standing row else candidates_over asking row (vars_for_row standing row)
