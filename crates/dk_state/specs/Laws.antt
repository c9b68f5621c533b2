-- What the definitions of state files come to.
use Rattle.std.specs.Prelude.{◌≡◌, ℕ, Bool, List, [], slice_index_or}
use Rattle.std.specs.List.Sorted.{IsPermutation}
use Rattle.dk_base.specs.declared.kinds.VarInfo.{VarInfo}
use Rattle.dk_base.specs.declared.values.Value.{Value}
use Rattle.dk_engine.specs.Exact.{IsKeptOf}
use Rattle.dk_hierarchy.specs.Samples.{OwnSamples}
use Rattle.dk_points.specs.Table.{Point}
use Rattle.dk_template.specs.declared.grammar.Grammar.{Grammar}
use Rattle.dk_state.specs.Compact.{compact_form_of}
use Rattle.dk_state.specs.Spelling.{CanBeSaved, IsSpelling}
use Rattle.dk_state.specs.StateFile.{state_file_of}

-- the compact form of samples is what an engine keeps of them
abbrev pub CompactFormIsKept : Type 0
CompactFormIsKept =
    (g : Grammar) (infos : List VarInfo) (samples : List (List Value)) → IsKeptOf g infos samples (compact_form_of g infos samples)

-- the state file doesn't depend on the order of a point's samples
abbrev pub OrderOfSamplesDoesNotMatter : Type 0
OrderOfSamplesDoesNotMatter =
    (g : Grammar) (ps : List Point) (implicit : Bool) (own others : OwnSamples)
    → ((p : ℕ) → IsPermutation (slice_index_or own p []) (slice_index_or others p []))
    → state_file_of g ps implicit own ≡ state_file_of g ps implicit others

-- every state file of a history that can be saved is a spelling
abbrev pub StateFilesAreSpellings : Type 0
StateFilesAreSpellings =
    (g : Grammar) (ps : List Point) (implicit : Bool) (own : OwnSamples) → CanBeSaved g ps own
    → IsSpelling (state_file_of g ps implicit own)
