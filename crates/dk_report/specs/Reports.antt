-- The section of a point in a table, with these own samples of its points.
use Rattle.std.specs.Prelude.{ℕ, List, [], map, slice_index_or, if◌then◌else◌}
use Rattle.dk_base.specs.Pieces.{is_empty}
use Rattle.dk_base.specs.declared.values.Value.{Value}
use Rattle.dk_filters.specs.Answers.{Answers, Parent}
use Rattle.dk_filters.specs.Candidates.{candidates_kept, candidates_of}
use Rattle.dk_filters.specs.OfSamples.{answers_of}
use Rattle.dk_filters.specs.declared.candidate.Candidate.{Candidate}
use Rattle.dk_graph.specs.Graphs.{edges_from}
pub use Rattle.dk_hierarchy.specs.Having.{has_samples}
use Rattle.dk_hierarchy.specs.Samples.{OwnSamples, all_vars_of, partners_of, samples_of}
use Rattle.dk_points.specs.Links.{nodes}
use Rattle.dk_points.specs.Table.{Point, names}
use Rattle.dk_print.specs.Sections.{section_text}
use Rattle.dk_template.specs.declared.grammar.Grammar.{Grammar}
use Rattle.dk_report.specs.Keeping.{keeps}
use Rattle.dk_report.specs.declared.options.Options.{Options}

abbrev pub name_in_table : List Point → ℕ → List ℕ
name_in_table ps p = slice_index_or (names ps) p []

-- all samples of the point at a place, those of its children among them
abbrev pub all_samples_of : List Point → OwnSamples → ℕ → List (List Value)
all_samples_of ps own p = samples_of ps own p

-- what they tell
abbrev pub answers_of_point : List Point → OwnSamples → ℕ → Answers
answers_of_point ps own p = answers_of (all_vars_of ps p) (all_samples_of ps own p)

-- the parents of a point, one for each edge from it
abbrev pub parents_of : List Point → OwnSamples → ℕ → List Parent
parents_of ps own p =
    map (λ e. record { answers = answers_of_point ps own e.parent.0; partners = partners_of ps e }) (edges_from (nodes ps) p)

-- the instances of the grammar that hold at a point and that no filter that is on drops, in order
unfoldable pub kept_instances : Grammar → Options → List Point → OwnSamples → ℕ → List Candidate
kept_instances grammar options ps own p =
    candidates_kept (keeps options) (candidates_of grammar options.least (answers_of_point ps own p) (parents_of ps own p))

-- the section of a point; one without samples has none
unfoldable pub section_of : Grammar → Options → List Point → OwnSamples → ℕ → List ℕ
section_of grammar options ps own p =
    if is_empty (all_samples_of ps own p) then []
    else section_text (name_in_table ps p) ((answers_of_point ps own p).counted []) (all_vars_of ps p)
    (kept_instances grammar options ps own p)
