-- States of histories, merged in any order.
use Rattle.std.specs.Prelude.{◌≡◌, ◌≤◌, ◌⊎◌, ℕ, All, List, [], flat_map, map, slice_index_or, IsPermutation, Option, Some, None}
use Rattle.dk_blocks.specs.History.{History}
use Rattle.dk_core.specs.Resuming.{IsStart, state_file}
use Rattle.dk_decl.specs.Headers.{is_implicit}
use Rattle.dk_events.specs.declared.ended.Ended.{Ended}
use Rattle.dk_events.specs.declared.ended.Ended.TheVariants.{Done, NoMemory}
use Rattle.dk_driver.specs.Files.{AreHeldFiles}
use Rattle.dk_program.specs.Moments.{IsCalm, Outside}
use Rattle.dk_program.specs.Outputs.{texts_followed_by}
use Rattle.dk_merge.specs.Merged.{bytes_in, whole_limit}
use Rattle.dk_merge.specs.Outputs.{state_output}
use Rattle.dk_merge.specs.Statuses.{helds_of}
use Rattle.dk_arguments.specs.declared.request.Request.{Request}
use Rattle.dk_arguments.specs.declared.request.Request.TheVariants.{Run}
use Rattle.dk_merge_command_line.specs.declared.command.Command.{Command}

-- a history of the same table, comparability word and grammar
pub record IsAlike (h other : History) : Type 0 where
  pub table : other.table ≡ h.table
  pub word : is_implicit other.header ≡ is_implicit h.header
  pub grammar : other.grammar ≡ h.grammar

-- The histories are alike, and this one, like them, has the samples of all, in any order. Each can be saved; so there are at most 2^40 own
-- samples of each point in all.
pub record HasAllOf (h : History) (hs : List History) : Type 0 where
  pub start : IsStart h
  pub starts : All IsStart hs
  pub alike : All (IsAlike h) hs
  pub samples : (p : ℕ) → IsPermutation (flat_map (λ other. slice_index_or other.samples p []) hs) (slice_index_or h.samples p [])

-- Without turns, let the files be the state files of histories, in any order, and let no fault of the outside rise. Then the state is that
-- of the history with the samples of all, and the report is its last one; or memory runs out.
abbrev pub MergesHistories : Option (Request Command) → Outside → Outside → Ended → Type 0
MergesHistories (Some (Run command)) before after result =
    (h : History) (hs : List History) → IsCalm before after → command.turns ≡ None → HasAllOf h hs
    → AreHeldFiles (helds_of command before.file) (map state_file hs) → bytes_in (map state_file hs) ≤ whole_limit
    → ((result ≡ Done) × (after.written ≡ texts_followed_by before.written (state_output command.least (state_file h) h)))
    ⊎ (result ≡ NoMemory)
MergesHistories request before after result = Unit {0}
