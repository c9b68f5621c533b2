-- The state file of a history.
use Rattle.std.specs.Prelude.{◌≡◌, ℕ, All, Bool, List, length, map}
use Rattle.std.specs.List.{range_with_len}
use Rattle.dk_engine.specs.Reading.Levels.{Whole}
use Rattle.dk_hierarchy.specs.Samples.{OwnSamples, all_vars_of, own_samples_of}
use Rattle.dk_hierarchy.specs.Standing.{AreEnginesOf, EnginesStandFor}
use Rattle.dk_points.specs.Table.{Point}
use Rattle.dk_template.specs.declared.grammar.Grammar.{Grammar}
use Rattle.dk_state.specs.Compact.{compact_form_of}
use Rattle.dk_state.specs.Saved.{saved_text}

-- The text of a table of points, a comparability word and own samples: that of the compact form of each point's own samples, with derived
-- values.
unfoldable pub state_file_of : Grammar → List Point → Bool → OwnSamples → List ℕ
state_file_of g ps implicit own =
    saved_text g ps implicit (map (λ p. compact_form_of g (all_vars_of ps p) (own_samples_of ps own p)) (range_with_len 0 (length ps)))

-- The engines are those of the table's points in order, of this grammar, and each keeps what is kept of its point's own samples.
pub record StandForHistory (g : Grammar) (ps : List Point) (engines : List Whole) (own : OwnSamples) : Type 0 where
  pub of_table : AreEnginesOf ps engines
  pub of_grammar : All (λ engine. engine.grammar ≡ g) engines
  pub standing : EnginesStandFor engines (own_samples_of ps own)
