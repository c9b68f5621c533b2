-- What a session stands for.
use Rattle.std.specs.Prelude.{◌≡◌, ℕ, Bool, List}
use Rattle.dk_engine.specs.Reading.Levels.{Whole}
use Rattle.dk_hierarchy.specs.Samples.{own_samples_of}
use Rattle.dk_hierarchy.specs.Standing.{EnginesStandFor}
use Rattle.dk_points.specs.Table.{Point}
use Rattle.dk_report.specs.declared.options.Options.{Options}
use Rattle.dk_template.specs.declared.grammar.Grammar.{Grammar}
use Rattle.dk_blocks.specs.History.{History}
pub use Rattle.dk_blocks.specs.Standing.{left_with_answer}
use Rattle.dk_blocks.specs.Standing.{ReaderStandsFor, file_of as file_in, over_of as over_in, points_of as points_in}
use Rattle.dk_core.specs.Keeping.{saved_by}
use Rattle.dk_core.specs.declared.kept.SessionParts.{SessionParts}
use Rattle.dk_core.specs.declared.session.Session.{Session}

-- What a session keeps from block to block stands for a history: its reader does, and each engine stands for its point's own samples.
pub record KeepsAll (kept : SessionParts) (h : History) : Type 0 where
  pub reader : ReaderStandsFor kept.reader h
  pub engines : EnginesStandFor kept.engines (own_samples_of h.table h.samples)
  pub grammar : kept.grammar ≡ h.grammar

unfoldable pub Stands : SessionParts → History → Type 0
Stands kept h = KeepsAll kept h

-- ---- sessions
-- a session stands for a history
abbrev pub SessionStandsFor : {F : Type 0} → Session F → History → Type 0
SessionStandsFor s h = Stands s.kept h

-- Its reader stands for a history: it has the table, the header and the entries that wait, whatever samples its engines stand for.
abbrev pub SessionReadsFor : {F : Type 0} → Session F → History → Type 0
SessionReadsFor s h = ReaderStandsFor s.kept.reader h

-- it stands for each history that all of the session stands for
abbrev pub ReadersStandToo : Type 0
ReadersStandToo = (kept : SessionParts) (h : History) → Stands kept h → ReaderStandsFor kept.reader h

-- its points
abbrev pub points_of : {F : Type 0} → Session F → List Point
points_of s = points_in s.kept.reader

-- whether it has come to the end of its file
abbrev pub over_of : {F : Type 0} → Session F → Bool
over_of s = over_in s.kept.reader

abbrev pub blocks_of : {F : Type 0} → Session F → ℕ
blocks_of s = s.blocks

abbrev pub file_of : {F : Type 0} → Session F → ℕ
file_of s = file_in s.kept.reader

-- the engines of its points
abbrev pub engines_of : {F : Type 0} → Session F → List Whole
engines_of s = s.kept.engines

-- the grammar of its engines
abbrev pub grammar_of : {F : Type 0} → Session F → Grammar
grammar_of s = s.kept.grammar

-- what is saved of it, whether it stands for a history or for none
abbrev pub saved_of : {F : Type 0} → Session F → List ℕ
saved_of s = saved_by s.kept

abbrev pub options_of : {F : Type 0} → Session F → Options
options_of s = s.options

-- the stored selection
abbrev pub select_of : {F : Type 0} → Session F → F
select_of s = s.select

-- whether exits without an entry are left out
abbrev pub ignores_of : {F : Type 0} → Session F → Bool
ignores_of s = s.options.ignore_missing_entry

-- Reading changes none of what a session reports by: its grammar, its options and its selection.
pub record ReportsAlike {F : Type 0} (s s' : Session F) : Type 0 where
  pub grammar : grammar_of s' ≡ grammar_of s
  pub options : options_of s' ≡ options_of s
  pub select : select_of s' ≡ select_of s
