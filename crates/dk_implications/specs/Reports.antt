-- The report of implications.
use Rattle.std.specs.Prelude.{ℕ, List, [], ◌++◌, codes, flat_map, length, slice_index_or, if◌then◌else◌}
use Rattle.std.specs.List.{range_with_len}
use Rattle.dk_base.specs.Pieces.{is_empty}
use Rattle.dk_base.specs.Values.Spelling.{bool_text}
use Rattle.dk_base.specs.declared.kinds.VarInfo.{VarInfo}
use Rattle.dk_base.specs.declared.values.Value.{Value}
use Rattle.dk_filters.specs.Facts.{info_at}
use Rattle.dk_hierarchy.specs.Samples.{OwnSamples, all_vars_of, own_samples_of}
use Rattle.dk_points.specs.Table.{Point}
use Rattle.dk_presence.specs.Patterns.{capped}
use Rattle.dk_print.specs.Sections.{candidate_line, heading}
use Rattle.dk_report.specs.Reports.{name_in_table}
use Rattle.dk_template.specs.declared.grammar.Grammar.{Grammar}
use Rattle.dk_implications.specs.Implications.{Implication, implications_of}

-- `b == true ==> TEXT  [COUNT]`
abbrev pub implication_line : List VarInfo → Implication → List ℕ
implication_line infos i =
    (info_at infos i.condition).name ++ codes " == " ++ bool_text i.truth ++ codes " ==> " ++ candidate_line infos i.instance

-- the section of a point of this name, with these variables and samples: the heading, also without implications, and a line for each
unfoldable pub implications_text : Grammar → ℕ → List ℕ → List VarInfo → List (List Value) → List ℕ
implications_text grammar least name infos samples =
    heading name (capped (length samples)) ++ flat_map (implication_line infos) (implications_of grammar least infos samples)

-- the section of the point at a place, from its own samples alone; a point without any has none
unfoldable pub implications_at : Grammar → ℕ → List Point → OwnSamples → ℕ → List ℕ
implications_at grammar least ps own p =
    if is_empty (slice_index_or own p []) then []
    else implications_text grammar least (name_in_table ps p) (all_vars_of ps p) (own_samples_of ps own p)

-- the sections of all points, in the order of the table
unfoldable pub implications_report : Grammar → ℕ → List Point → OwnSamples → List ℕ
implications_report grammar least ps own = flat_map (implications_at grammar least ps own) (range_with_len 0 (length ps))
