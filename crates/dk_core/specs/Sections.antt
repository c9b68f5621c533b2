-- The report of a history: the sections of its points, and their sizes.
use Rattle.std.specs.Prelude.{◌&&◌, ℕ, Bool, List, [], flat_map, Option, Some, None, if◌then◌else◌}
use Rattle.std.specs.List.{enumerate_from}
use Rattle.dk_hierarchy.specs.Having.{has_samples as has_samples_in, have_samples as have_samples_in}
use Rattle.dk_report.specs.Reports.{name_in_table as name_in, section_of as section_in}
use Rattle.dk_report.specs.Sizes.{has_own_samples as has_own_samples_in, stats_of as stats_in}
use Rattle.dk_report.specs.declared.options.Options.{Options}
use Rattle.dk_blocks.specs.History.{History}

abbrev pub name_in_history : History → ℕ → List ℕ
name_in_history h p = name_in h.table p

-- a text where there is one
abbrev pub some_if : Bool → List ℕ → Option (List ℕ)
some_if has text = if has then Some text else None

-- ---- sections
-- a point has samples, its own or its children's
abbrev pub has_samples : History → ℕ → Bool
has_samples h p = has_samples_in h.table h.samples p

-- which points have some, in the order of the table
abbrev pub have_samples : History → List Bool
have_samples h = have_samples_in h.table h.samples

-- it has a section if its name is selected and it has samples
abbrev pub has_section : (List ℕ → Bool) → History → ℕ → Bool
has_section selects h p = selects (name_in_history h p) && has_samples h p

unfoldable pub section_of : Options → (List ℕ → Bool) → History → ℕ → List ℕ
section_of options selects h p = if selects (name_in_history h p) then section_in h.grammar options h.table h.samples p else []

-- the sections of all points, in the order of the table
unfoldable pub report_of : Options → (List ℕ → Bool) → History → List ℕ
report_of options selects h = flat_map (λ e. section_of options selects h e.0) (enumerate_from 0 h.table)

-- ---- sizes
abbrev pub has_own_samples : History → ℕ → Bool
has_own_samples h p = has_own_samples_in h.samples p

-- the line of a point's sizes; a point without own samples has none
abbrev pub stats_of : History → ℕ → List ℕ
stats_of h p = stats_in h.grammar h.table h.samples p

-- those of all points, in the order of the table
unfoldable pub all_stats_of : History → List ℕ
all_stats_of h = flat_map (λ e. stats_of h e.0) (enumerate_from 0 h.table)
