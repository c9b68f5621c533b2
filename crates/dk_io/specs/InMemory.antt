-- Inputs and sinks in memory.
use Rattle.std.specs.Prelude.{◌++◌, ◌||◌, Bool, ℕ, List, length, nat_le, Some}
use Rattle.dk_io.specs.Streams.{Texts}
use Rattle.dk_io.specs.NamedFiles.{Files}
use Rattle.dk_io.specs.Calls.{Calls, next_fails}
use Rattle.dk_io.specs.declared.outside.Stream.{Stream}
use Rattle.dk_io.specs.declared.outside.Stream.TheVariants.{Report, Messages, State}

-- the files, and the calls so far
pub record InMemory : Type 0 where
  pub files : Files
  pub calls : Calls

-- what the streams hold, the most bytes that a write takes, how many bytes each stream has room for, and the calls so far
pub record Kept : Type 0 where
  pub report : List ℕ
  pub messages : List ℕ
  pub state : List ℕ
  pub piece : ℕ
  pub room : ℕ
  pub calls : Calls

-- what a stream holds
abbrev pub kept_of : Kept → Stream → List ℕ
kept_of k Report = k.report
kept_of k Messages = k.messages
kept_of k State = k.state

-- a stream with more bytes at its end
abbrev pub longer : Kept → Stream → List ℕ → Kept
longer k Report bytes = record k { report = k.report ++ bytes }
longer k Messages bytes = record k { messages = k.messages ++ bytes }
longer k State bytes = record k { state = k.state ++ bytes }

-- all of it is told
abbrev pub texts_of : Kept → Texts
texts_of k = record { report = Some k.report; messages = Some k.messages; state = Some k.state }

-- the next write to this stream fails: it is on the list of those that fail, or the stream's room is used up
abbrev pub write_fails : Kept → Stream → Bool
write_fails k stream = next_fails k.calls || nat_le k.room (length (kept_of k stream))
