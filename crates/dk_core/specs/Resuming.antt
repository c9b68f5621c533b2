-- Histories that are saved, and that a session begins with.
use Rattle.std.specs.Prelude.{◌≡◌, ◌≤◌, ◌^◌, ℕ, List, [], false, length, slice_index_or}
use Rattle.dk_decl.specs.Headers.{awaits_word, is_implicit}
use Rattle.dk_hierarchy.specs.Samples.{OwnSamples}
use Rattle.dk_state.specs.Spelling.{CanBeSaved, Content, IsContent, text_of_content}
use Rattle.dk_state.specs.StateFile.{StandForHistory, state_file_of}
use Rattle.dk_state.specs.declared.loading.Loaded.{Loaded}
use Rattle.dk_template.specs.declared.grammar.Grammar.{Grammar}
use Rattle.dk_blocks.specs.History.{History, nothing_by}
use Rattle.dk_blocks.specs.Standing.{IsBetweenFiles}

-- the state file of a history, in the version of its grammar
unfoldable pub state_file : History → List ℕ
state_file h = state_file_of h.grammar h.table (is_implicit h.header) h.samples

-- A history that a state file tells whole: it stands between two files, so that no entry waits and no header line awaits its word, and what
-- it has can be saved.
pub record IsStart (h : History) : Type 0 where
  pub no_calls : h.calls ≡ []
  pub no_word : awaits_word h.header ≡ false
  pub many : length h.samples ≡ length h.table
  pub saved : CanBeSaved h.grammar h.table h.samples

-- A state that is loaded is this history's: it declares the same, and its engines stand for the history's samples.
pub record IsOfLoaded (l : Loaded) (h : History) : Type 0 where
  pub start : IsStart h
  pub grammar : l.grammar ≡ h.grammar
  pub table : l.points ≡ h.table
  pub word : l.implicit ≡ is_implicit h.header
  pub stand : StandForHistory h.grammar h.table l.engines h.samples

-- A history between two files that has the table and the comparability word of a state with these bytes, whatever its samples: those of
-- some content that has the bytes as its text.
pub record HasTableOfState (bytes : List ℕ) (h : History) : Type 0 where
  pub between : IsBetweenFiles h
  pub content : Content
  pub meets : IsContent content
  pub text : text_of_content content ≡ bytes
  pub table : h.table ≡ content.points
  pub word : is_implicit h.header ≡ content.implicit

-- Each point has at most 2^40 own samples.
abbrev pub AreFew : OwnSamples → Type 0
AreFew own = (p : ℕ) → length (slice_index_or own p []) ≤ 2 ^ 40

-- no samples, by either grammar, are one
abbrev pub NoSamplesAreAStart : Type 0
NoSamplesAreAStart = (g : Grammar) → IsStart (nothing_by g)
