-- The candidates of a section, instance by instance.
use Rattle.std.specs.Prelude.{◌&&◌, ◌||◌, ◌==◌, Bool, not, List, [], ◌∷◌, flat_map, if◌then◌else◌}
use Rattle.dk_base.specs.declared.kinds.VarId.{VarId}
use Rattle.dk_filters.specs.Answers.{Answers, Parent}
use Rattle.dk_filters.specs.Candidates.{candidate_of, it_holds}
use Rattle.dk_filters.specs.Found.{first_in, one_value_in}
use Rattle.dk_filters.specs.declared.candidate.Candidate.{Candidate}
use Rattle.dk_filters.specs.declared.found.PointFacts.{PointFacts}
use Rattle.dk_instances.specs.Instances.{all_vars, is_asked, tuples_over}
use Rattle.dk_presence.specs.Patterns.{has}
use Rattle.dk_template.specs.Templates.{arity_of}
use Rattle.dk_template.specs.declared.grammar.RowId.{RowId}
use Rattle.dk_report.specs.Keeping.{keeps}
use Rattle.dk_report.specs.declared.options.Options.{Options}

-- ---- one instance
-- the instance is one that the row is asked about, it holds, and no filter that is on drops it
abbrev pub is_listed : Options → Answers → List Parent → RowId → List VarId → Bool
is_listed options here parents row vars =
    is_asked here.infos row vars && (it_holds here (row, vars) && keeps options (candidate_of options.least here parents (row, vars)))

-- its candidate, if so
unfoldable pub listed_candidates : Options → Answers → List Parent → RowId → List VarId → List Candidate
listed_candidates options here parents row vars =
    if is_listed options here parents row vars then candidate_of options.least here parents (row, vars) ∷ [] else []

-- those of a row
abbrev pub listed_candidates_of_row : Options → Answers → List Parent → RowId → List Candidate
listed_candidates_of_row options here parents row =
    flat_map (listed_candidates options here parents row) (tuples_over (arity_of row) (all_vars here.infos))

-- ---- variables that are passed over
-- An instance over the variable may be kept: it is the first of those like it, or members are kept; and where there are several variables
-- it isn't one of one value, or such are kept.
abbrev pub may_stand : Options → PointFacts → Bool → VarId → Bool
may_stand options found several v =
    (options.keep_members || (first_in found.firsts v).0 == v.0)
    && (options.keep_constant || not (several && one_value_in found.one_values v))

-- An equality of v with another variable may be kept: v is the first of those like some variable, or members are kept.
abbrev pub may_lead : Options → PointFacts → VarId → Bool
may_lead options found v = options.keep_members || has found.firsts v

-- An equality of v and w may be kept: v is the first of those like w, or both are the first of those like them, or members are kept.
abbrev pub may_equal : Options → PointFacts → VarId → VarId → Bool
may_equal options found v w =
    options.keep_members
    || ((first_in found.firsts w).0 == v.0 || ((first_in found.firsts v).0 == v.0 && (first_in found.firsts w).0 == w.0))
