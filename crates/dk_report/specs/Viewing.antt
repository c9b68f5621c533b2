-- Which variables a row is still asked about, by what one of the ways to a point brings.
use Rattle.std.specs.Prelude.{◌&&◌, ◌||◌, ◌==◌, ◌≡◌, ℕ, zero, suc, Bool, true, false, not, List, [], ◌∷◌, count_by, filter, if◌then◌else◌, is_some, map, nat_lt, slice_get, slice_index_or, Some}
use Rattle.std.specs.List.{list_all, list_any}
use Rattle.std.specs.Option.{option_map_or}
use Rattle.dk_base.specs.Pieces.{is_empty}
use Rattle.dk_base.specs.Shapes.{var}
use Rattle.dk_base.specs.declared.kinds.VarId.{VarId}
use Rattle.dk_constants.specs.Known.{known_at}
use Rattle.dk_engine.specs.Reading.{rank_bound}
use Rattle.dk_engine.specs.Reading.Levels.{Whole}
use Rattle.dk_engine.specs.Reading.Parts.{leader_of}
use Rattle.dk_engine.specs.declared.kept.Kept.{Kept}
use Rattle.dk_engine.specs.declared.slots.slot.Slot.{Slot}
use Rattle.dk_filters.specs.declared.candidate.Candidate.{Candidate}
use Rattle.dk_forms.specs.Laws.{IsIn}
use Rattle.dk_hierarchy.specs.Edges.{partner_at}
use Rattle.dk_hierarchy.specs.Merging.{Joint}
use Rattle.dk_hierarchy.specs.declared.way.Way.{Way}
use Rattle.dk_instances.specs.Instances.{are_distinct, rows_of}
use Rattle.dk_presence.specs.Patterns.{has}
use Rattle.dk_suppress.specs.Rules.{Rule, rules}
use Rattle.dk_template.specs.Premises.{roles_read, row_of}
use Rattle.dk_template.specs.Templates.{arity_of}
use Rattle.dk_template.specs.declared.answers.Premise.{Premise}
use Rattle.dk_template.specs.declared.grammar.Grammar.{Grammar}
use Rattle.dk_template.specs.declared.grammar.RowId.{RowId}
use Rattle.dk_report.specs.Asked.{candidates_over, candidates_standing}
use Rattle.dk_report.specs.Narrowing.{is_narrow, stands_in}
use Rattle.dk_report.specs.declared.asking.Asking.{Asking}
use Rattle.dk_report.specs.declared.sweeping.Standing.{Standing}

-- ---- variables with their leaders
-- the leader of a variable's partner
abbrev pub leader_through : Kept → Way → VarId → VarId
leader_through kept way v = option_map_or (leader_of kept.leaders) (partner_at way.partners v) (var 0)

-- variables, each with the leader of its partner
abbrev pub led_through : Kept → Way → List VarId → List (VarId × VarId)
led_through kept way vars = map (λ v. (v, leader_through kept way v)) vars

-- it is the leader of several of them
abbrev pub leads_several : List (VarId × VarId) → VarId → Bool
leads_several led a = nat_lt 1 (count_by (λ pair. pair.1.0 == a.0) led)

-- ---- what may be told of a row
-- a slot of the row over leaders that can be those of different variables
abbrev pub is_met : List (VarId × VarId) → RowId → Slot → Bool
is_met led row slot = slot.row.0 == row.0 && (are_distinct slot.leaders || list_any (leads_several led) slot.leaders)

-- the variables that a table has for a row
abbrev pub told_at : List (List VarId) → RowId → List VarId
told_at table row = slice_index_or table row.0 []

-- the premise reads the role
abbrev pub reads : Premise → ℕ → Bool
reads p role = list_any (λ r. r == role) (roles_read p)

-- The premise may fit where the variable stands at the role: the table has it for the premise's row, or the premise doesn't read the
-- role and the table has some variable there.
abbrev pub may_fit : List (List VarId) → ℕ → VarId → Premise → Bool
may_fit below role v p = if reads p role then has (told_at below (row_of p)) v else not (is_empty (told_at below (row_of p)))

abbrev pub all_may_fit : List (List VarId) → ℕ → VarId → List Premise → Bool
all_may_fit below role v premises = list_all (may_fit below role v) premises

-- all premises may fit where the variable stands at some role of so many
abbrev pub may_follow_by : List (List VarId) → ℕ → VarId → List Premise → Bool
may_follow_by below arity v premises =
    all_may_fit below 0 v premises
    || (nat_lt 1 arity && all_may_fit below 1 v premises)
    || (nat_lt 2 arity && all_may_fit below 2 v premises)

-- the row may follow by one of its rules
abbrev pub may_follow : List (List VarId) → RowId → VarId → Bool
may_follow below row v = list_any (λ (r : Rule). r.0.0 == row.0 && may_follow_by below (arity_of row) v r.1) rules

-- what the engine keeps says something of a variable with this leader by the row: the leader is constant or stands in a slot of the row
abbrev pub is_shown : Kept → List (VarId × VarId) → RowId → VarId × VarId → Bool
is_shown kept led row pair = is_some (known_at kept.known pair.1) || stands_in (filter (is_met led row) kept.slots) pair.1

-- the row may say something of it: what the engine keeps does, or the row may follow
abbrev pub is_told : Kept → List (VarId × VarId) → List (List VarId) → RowId → VarId × VarId → Bool
is_told kept led below row pair = is_shown kept led row pair || may_follow below row pair.0

abbrev pub told_row : Kept → List (VarId × VarId) → List (List VarId) → RowId → List VarId
told_row kept led below row = map (λ pair. pair.0) (filter (is_told kept led below row) led)

-- for each row from 0 on its variables, where the rows of lower rank have those of the table below
abbrev pub told_level : Grammar → Kept → List (VarId × VarId) → List (List VarId) → List (List VarId)
told_level grammar kept led below = [] ∷ map (told_row kept led below) (rows_of grammar)

-- the rows of a rank below n
unfoldable pub told_rows : ℕ → Grammar → Kept → List (VarId × VarId) → List (List VarId)
told_rows zero grammar kept led = []
told_rows (suc n) grammar kept led = told_level grammar kept led (told_rows n grammar kept led)

-- The same by a table of what the engine shows: for each row from 0 on the variables, each with whether what the engine keeps says
-- something of it.
abbrev pub shown_row : Kept → List (VarId × VarId) → RowId → List (VarId × Bool)
shown_row kept led row = map (λ pair. (pair.0, is_shown kept led row pair)) led

abbrev pub shown_rows : Grammar → Kept → List (VarId × VarId) → List (List (VarId × Bool))
shown_rows grammar kept led = [] ∷ map (shown_row kept led) (rows_of grammar)

abbrev pub left_of_shown : List (List (VarId × Bool)) → List (List VarId) → RowId → List VarId
left_of_shown shown below row =
    map (λ pair. pair.0) (filter (λ pair. pair.1 || may_follow below row pair.0) (slice_index_or shown row.0 []))

abbrev pub shown_level : Grammar → List (List (VarId × Bool)) → List (List VarId) → List (List VarId)
shown_level grammar shown below = [] ∷ map (left_of_shown shown below) (rows_of grammar)

-- ---- the way that is asked
-- each of the variables has a partner
abbrev pub are_mapped : Way → List VarId → Bool
are_mapped way vars = list_all (λ v. is_some (partner_at way.partners v)) vars

-- The way is one of these. It leads to this engine, which has samples, and each of the variables has a partner there.
pub record IsView (engines : List Whole) (ways : List Way) (vars : List VarId) (way : Way) (engine : Whole) : Type 0 where
  pub among : IsIn way ways
  pub there : slice_get engines way.point.0 ≡ Some engine
  pub some : (engine.kept.samples == 0) ≡ false
  pub mapped : are_mapped way vars ≡ true

-- what a view of a merged point tells of the variables that may stand in an instance of several
pub record IsTold (joint : Joint) (vars : List VarId) (table : List (List VarId)) : Type 0 where
  pub way : Way
  pub engine : Whole
  pub view : IsView joint.engines joint.ways vars way engine
  pub rows : table ≡ told_rows rank_bound joint.here.grammar engine.kept (led_through engine.kept way vars)

-- ---- the candidates of a row
abbrev pub candidates_told : List (List VarId) → Asking → Standing → RowId → List Candidate
candidates_told table asking standing row =
    if is_narrow row then candidates_over asking row (told_at table row) else candidates_standing asking standing row
