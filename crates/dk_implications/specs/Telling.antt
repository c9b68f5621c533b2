-- What engines tell of halves, line by line.
use Rattle.std.specs.Prelude.{◌&&◌, ◌==◌, ℕ, Bool, false, not, List, [], find, flat_map, if◌then◌else◌}
use Rattle.std.specs.List.{list_any}
use Rattle.std.specs.Option.{option_map_or}
use Rattle.dk_base.specs.declared.kinds.VarId.{VarId}
use Rattle.dk_base.specs.declared.kinds.VarInfo.{VarInfo}
use Rattle.dk_base.specs.declared.values.Value.{Value}
use Rattle.dk_engine.specs.Reading.{agree_read, state_read}
use Rattle.dk_engine.specs.Reading.Levels.{Whole}
use Rattle.dk_engine.specs.declared.kept.Kept.{Kept}
use Rattle.dk_filters.specs.Sameness.{same_state}
use Rattle.dk_filters.specs.declared.candidate.Candidate.{Candidate}
use Rattle.dk_report.specs.declared.options.Options.{Options}
use Rattle.dk_template.specs.declared.grammar.Grammar.{Grammar}
use Rattle.dk_implications.specs.Conditions.{is_condition}
use Rattle.dk_implications.specs.Implications.{implication, told_by_halves}
use Rattle.dk_implications.specs.Reports.{implication_line}
use Rattle.dk_implications.specs.declared.halves.Halves.{Halves}

-- all filters are on, with this least number
abbrev pub all_on : ℕ → Options
all_on least = record {
  least = least;
  keep_implied = false;
  keep_incomparable = false;
  keep_members = false;
  keep_constant = false;
  keep_parent = false;
  ignore_missing_entry = false;
}

-- the Bool is the first of those that agree with it, by what is kept of all samples
abbrev pub is_first : Kept → List Halves → VarId → Bool
is_first kept all b =
    option_map_or (λ (h : Halves). h.condition.0 == b.0) (find (λ (h : Halves). agree_read kept h.condition b) all) false

-- an instance of a half says more there, by what is kept of all samples
abbrev pub is_told : Kept → VarId → Candidate → Bool
is_told kept b c = not (list_any (agree_read kept b) c.vars) && not (same_state c.state (state_read kept c.row c.vars))

-- its line, if so
abbrev pub told_line : Whole → VarId → Bool → Candidate → List ℕ
told_line whole b truth c = if is_told whole.kept b c then implication_line whole.infos (implication b truth c) else []

-- the lines of such instances
abbrev pub told_lines : Whole → VarId → Bool → List Candidate → List ℕ
told_lines whole b truth list = flat_map (told_line whole b truth) list

-- the lines of both halves by a Bool, if it is the first of those that agree with it
abbrev pub lines_of : Grammar → ℕ → List VarInfo → List (List Value) → VarId → List ℕ
lines_of grammar least infos samples b =
    if is_condition infos samples b then flat_map (implication_line infos) (told_by_halves grammar least infos samples b) else []
