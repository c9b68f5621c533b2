-- Steps of a session through the bytes that are left.
use Rattle.std.specs.Prelude.{◌≡◌, ◌+◌, ◌-◌, ◌^◌, not, min, is_some, if◌then◌else◌, ℕ, Bool, true, false, List, Option, Some, Result, Ok, Err}
use Rattle.dk_base.specs.declared.faults.Fault.{Fault}
use Rattle.dk_lines.specs.Reading.{Reading}
use Rattle.dk_blocks.specs.History.{Effect, History, effect_of}
use Rattle.dk_blocks.specs.Steps.{FaultAnswers, Grown, IsInFile, Steps}
use Rattle.dk_blocks.specs.Standing.{ReaderStandsFor, file_of as file_in, over_of as over_in}
use Rattle.dk_core.specs.Standing.{Stands, blocks_of, file_of, ignores_of, over_of}
use Rattle.dk_core.specs.declared.kept.SessionParts.{SessionParts}
use Rattle.dk_core.specs.declared.session.Session.{Session}

-- what an answer leaves of what is kept
abbrev pub kept_left : {F : Type 0} → Result (Session F × Bool) Fault → Result (SessionParts × Bool) Fault
kept_left (Ok a) = Ok (a.0.kept, a.1)
kept_left (Err fault) = Err fault

-- What `next` answers where its reader stands for the history h: what is kept after the next block, and whether there was one. The reader
-- stands for the history behind it, and all that is kept does where it stood for h.
abbrev pub NextKept : Bool → SessionParts → History → Reading → List ℕ → Result (SessionParts × Bool) Fault → Reading → Option (List ℕ) → Type 0
NextKept ignores k h r xs (Ok a) r' left' =
    (h' : History) × ReaderStandsFor a.0.reader h' × (Stands k h → Stands a.0 h') × ((effect : Option Effect) × (a.1 ≡ is_some effect)
    × ((ys : List ℕ) × (left' ≡ Some ys) × Steps ignores (effect_of ignores h) (over_in k.reader) r xs
    (Ok (record { history = h'; effect = effect })) (over_in a.0.reader) r' ys))
NextKept ignores k h r xs (Err fault) r' left' = FaultAnswers ignores (effect_of ignores h) (over_in k.reader) r xs fault left'

-- what `block` answers: the session after the next block, and whether there was one
abbrev pub NextBlock : {F : Type 0} → Session F → History → Reading → List ℕ → Result (Session F × Bool) Fault → Reading
    → Option (List ℕ) → Type 0
NextBlock s h r xs a r' left' = NextKept (ignores_of s) s.kept h r xs (kept_left a) r' left'

-- numbers of lines, bytes and files, whatever is told
abbrev pub KeptCounts : SessionParts → Reading → Result (SessionParts × Bool) Fault → Reading → Type 0
KeptCounts k r (Ok a) r' = (r'.limits ≡ r.limits) × (r'.is_started ≡ not (over_in a.0.reader)) × (file_in a.0.reader ≡ file_in k.reader)
    × (a.1 ≡ false → over_in a.0.reader ≡ true) × (a.1 ≡ true → over_in k.reader ≡ false) × (a.1 ≡ true → Grown (over_in a.0.reader) r r')
KeptCounts k r (Err fault) r' = (r'.limits ≡ r.limits) × IsInFile (file_in k.reader) fault

-- the same with the number of blocks
abbrev pub SessionCounts : {F : Type 0} → Session F → Reading → Result (Session F × Bool) Fault → Reading → Type 0
SessionCounts s r (Ok a) r' = (r'.limits ≡ r.limits) × (r'.is_started ≡ not (over_of a.0)) × (file_of a.0 ≡ file_of s)
    × (blocks_of a.0 ≡ (if a.1 then min (blocks_of s + 1) (2 ^ 64 - 1) else blocks_of s)) × (a.1 ≡ false → over_of a.0 ≡ true)
    × (a.1 ≡ true → over_of s ≡ false) × (a.1 ≡ true → Grown (over_of a.0) r r')
SessionCounts s r (Err fault) r' = (r'.limits ≡ r.limits) × IsInFile (file_of s) fault
