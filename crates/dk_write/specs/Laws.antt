-- What is written is read.
use Rattle.std.specs.Prelude.{◌≡◌, ◌+◌, ◌∷◌, [], ℕ, Bool, false, List, Some, length}
use Rattle.dk_blocks.specs.Blocks.{groups_of}
use Rattle.dk_blocks.specs.History.{History, effect_of}
use Rattle.dk_blocks.specs.Reading.{after_all}
use Rattle.dk_lines.specs.Left.{lines_of, numbered}
use Rattle.dk_lines.specs.Passing.{numbered_lines}
use Rattle.dk_decl.specs.Headers.{awaits_word}
use Rattle.dk_write.specs.Course.{AreReadable, AreWritten, IsReadable, done, done_all}
use Rattle.dk_write.specs.Texts.{Begins, Write, block_lines, trace_text}

-- The block of what is written does what it is meant to.
abbrev pub BlocksAreRead : Type 0
BlocksAreRead =
    (ignores : Bool) (h : History) (line : ℕ) (w : Write) → IsReadable h w
    → effect_of ignores h (numbered_lines line (block_lines w)) (Some (line + length (block_lines w))) ≡ done ignores h line w

-- A trace does what its blocks are meant to do, one after another, and no more.
abbrev pub TracesAreRead : Type 0
TracesAreRead =
    (ignores : Bool) (h : History) (ws : List Write) → AreReadable ignores h 1 ws
    → after_all ignores (effect_of ignores h) (groups_of (numbered 0 (lines_of (trace_text ws)))) ≡ done_all ignores h 1 ws

-- What a writer writes is read as that, whatever was read before it.
abbrev pub WrittenAreRead : Type 0
WrittenAreRead =
    (ignores : Bool) (h : History) (ws : List Write) → awaits_word h.header ≡ false → AreWritten [] ws
    → after_all ignores (effect_of ignores h) (groups_of (numbered 0 (lines_of (trace_text (Begins ∷ ws))))) ≡ done_all ignores h 1 (Begins ∷ ws)
