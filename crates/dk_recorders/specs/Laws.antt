-- The order in which the records of several recorders stand doesn't matter.
use Rattle.std.specs.Prelude.{◌≡◌, ◌<◌, ℕ, Bool, false, List, [], ◌∷◌, map, None, Ok, Result, slice_index_or}
use Rattle.std.specs.List.Sorted.{IsPermutation}
use Rattle.dk_blocks.specs.Blocks.{Groups, groups_of}
use Rattle.dk_blocks.specs.History.{History, effect_of}
use Rattle.dk_blocks.specs.Reading.{after_all}
use Rattle.dk_core.specs.Resuming.{state_file}
use Rattle.dk_core.specs.Sections.{report_of}
use Rattle.dk_decl.specs.Headers.{awaits_word, is_implicit}
use Rattle.dk_lines.specs.Left.{numbered}
use Rattle.dk_report.specs.declared.options.Options.{Options}
use Rattle.dk_driver.specs.Files.{FaultAt, ended_file}
use Rattle.dk_program.specs.Outputs.{Output}
use Rattle.dk_run.specs.Courses.{Outset, course_of, first_start}
use Rattle.dk_run.specs.Outputs.{output_of}
use Rattle.dk_turns.specs.Blocks.{Block, sample_blocks}
use Rattle.dk_turns.specs.Turns.{turns_of}
use Rattle.dk_command_line.specs.declared.command.Command.{Command}
use Rattle.dk_recorders.specs.Blocks.{AreOfRecorders, EndedBlock, after_blocks, blocks_of_groups, contents_of}
use Rattle.dk_recorders.specs.Interleaving.{IsInterleaved}
use Rattle.dk_recorders.specs.Recorders.{AreRecorders, text_by_file, text_in_order}

-- ---- histories
-- They have the same table, comparability word and grammar and, for each point, the same own samples in any order.
pub record AreAlike (h other : History) : Type 0 where
  pub table : other.table ≡ h.table
  pub word : is_implicit other.header ≡ is_implicit h.header
  pub grammar : other.grammar ≡ h.grammar
  pub samples : (p : ℕ) → IsPermutation (slice_index_or h.samples p []) (slice_index_or other.samples p [])

-- they have the same sections, whatever the options and the selection, and the same state file
pub record TellTheSame (h other : History) : Type 0 where
  pub report : (options : Options) (selects : List ℕ → Bool) → report_of options selects other ≡ report_of options selects h
  pub state : state_file other ≡ state_file h

abbrev pub OrderOfOwnSamplesDoesNotMatter : Type 0
OrderOfOwnSamplesDoesNotMatter = (h other : History) → AreAlike h other → TellTheSame h other

-- ---- blocks
-- a history is reached, is alike, and tells the same
abbrev pub ComesToAlike : {Fault : Type 0} → Result History Fault → History → Type 0
ComesToAlike reached h = (other : History) × (reached ≡ Ok other) × AreAlike h other × TellTheSame h other

-- What the lines of a file come to is what the groups between the blank ones come to as blocks.
abbrev pub GroupsAreReadAsBlocks : Type 0
GroupsAreReadAsBlocks =
    (ignores : Bool) (h : History) (lines : List (List ℕ)) → let groups : Groups = groups_of (numbered 0 lines) in
    after_all ignores (effect_of ignores h) groups ≡ after_blocks ignores h (blocks_of_groups groups)

-- Let the sample blocks of recorders stand in two orders, both of which keep the order of each recorder, behind any history. If they are
-- accepted in the first order, then so they are in the second, and come to an alike history.
abbrev pub OrderOfBlocksDoesNotMatter : Type 0
OrderOfBlocksDoesNotMatter =
    (ignores : Bool) (before after : History) (recorders : List (List Block)) (first second : List EndedBlock)
    → IsInterleaved (contents_of before.header first) recorders → IsInterleaved (contents_of before.header second) recorders
    → AreOfRecorders before.table recorders → after_blocks ignores before first ≡ Ok after
    → ComesToAlike (after_blocks ignores before second) after

-- ---- texts
-- what a text comes to as the only file of a run, behind a start; exits without an entry are left out or refused
abbrev pub history_behind : Outset → Bool → List ℕ → Result History FaultAt
history_behind start ignores text = (course_of start ignores (ended_file text ∷ [])).end

-- the same from no samples on, where exits without an entry are refused
abbrev pub history_of : List ℕ → Result History FaultAt
history_of text = history_behind first_start false text

-- Let the sample blocks of recorders stand in two orders, both of which keep the order of each file. If the text in the first order is
-- accepted, then so is that in the second, and comes to an alike history.
abbrev pub OrderOfRecordsDoesNotMatter : Type 0
OrderOfRecordsDoesNotMatter =
    (start : Outset) (ignores : Bool) (files : List (List ℕ)) (first second : List Block) (h : History)
    → awaits_word start.history.header ≡ false → IsInterleaved first (map sample_blocks files)
    → IsInterleaved second (map sample_blocks files) → history_behind start ignores (text_in_order files first) ≡ Ok h
    → AreRecorders h.table files → ComesToAlike (history_behind start ignores (text_in_order files second)) h

-- So it is of turns: if the files of recorders, without turns, are accepted, then so they are in turns, and come to an alike history.
abbrev pub TurnsDoNotMatter : Type 0
TurnsDoNotMatter =
    (start : Outset) (ignores : Bool) (n : ℕ) (files : List (List ℕ)) (h : History) → awaits_word start.history.header ≡ false → 0 < n
    → history_behind start ignores (text_by_file files) ≡ Ok h → AreRecorders h.table files
    → ComesToAlike (history_behind start ignores (turns_of n files)) h

-- ---- what a run writes
-- The command asks for the last report alone, without sizes, and exits without an entry are refused.
pub record TellsAtTheEnd (command : Command) : Type 0 where
  pub every : command.every ≡ None
  pub stats : command.stats ≡ false
  pub ignores : command.ignore_missing_entry ≡ false

-- what a run over a text as its only file writes, from no samples on
abbrev pub output_over : Command → List ℕ → Output
output_over command text = output_of first_start command (ended_file text ∷ [])

-- Under the same premises a run over turns writes what one over the files without turns does, to each stream.
abbrev pub TurnsWriteTheSame : Type 0
TurnsWriteTheSame =
    (command : Command) (n : ℕ) (files : List (List ℕ)) (h : History) → TellsAtTheEnd command → 0 < n
    → history_of (text_by_file files) ≡ Ok h → AreRecorders h.table files
    → output_over command (turns_of n files) ≡ output_over command (text_by_file files)
