-- The traces of recorders, in turns.
use Rattle.std.specs.Prelude.{◌≡◌, ◌≤◌, ◌⊎◌, ℕ, List, Option, Some, Ok}
use Rattle.dk_blocks.specs.History.{History}
use Rattle.dk_events.specs.declared.ended.Ended.{Ended}
use Rattle.dk_events.specs.declared.ended.Ended.TheVariants.{Done, NoMemory}
use Rattle.dk_recorders.specs.Laws.{history_of}
use Rattle.dk_recorders.specs.Recorders.{AreRecorders, text_by_file}
use Rattle.dk_driver.specs.Files.{AreHeldFiles}
use Rattle.dk_program.specs.Moments.{IsCalm, Outside}
use Rattle.dk_program.specs.Outputs.{texts_followed_by}
use Rattle.dk_merge.specs.Merged.{bytes_in, whole_limit}
use Rattle.dk_merge.specs.Outputs.{turns_output}
use Rattle.dk_merge.specs.Statuses.{helds_of}
use Rattle.dk_arguments.specs.declared.request.Request.{Request}
use Rattle.dk_arguments.specs.declared.request.Request.TheVariants.{Run}
use Rattle.dk_merge_command_line.specs.declared.command.Command.{Command}

-- With turns, let the files be those of recorders that are accepted as one file without turns, and let no fault of the outside rise. Then
-- each stream gets what daikon writes of that file, whatever the number of turns; or memory runs out.
abbrev pub WritesAsWithoutTurns : Option (Request Command) → Outside → Outside → Ended → Type 0
WritesAsWithoutTurns (Some (Run command)) before after result =
    (n : ℕ) (contents : List (List ℕ)) (h : History) → IsCalm before after → command.turns ≡ Some n
    → AreHeldFiles (helds_of command before.file) contents → bytes_in contents ≤ whole_limit
    → history_of (text_by_file contents) ≡ Ok h → AreRecorders h.table contents
    → ((result ≡ Done) × (after.written ≡ texts_followed_by before.written (turns_output command.least (text_by_file contents))))
    ⊎ (result ≡ NoMemory)
WritesAsWithoutTurns request before after result = Unit {0}
