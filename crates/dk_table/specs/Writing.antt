-- What writing a trace by pieces comes to.
pub mod Forms
pub mod Pushing
use Rattle.std.specs.Prelude.{◌≡◌, ◌⊎◌, ◌++◌, ℕ, List, Result, Ok, Err}
use Rattle.dk_events.specs.declared.ended.Ended.{Ended}
use Rattle.dk_events.specs.declared.ended.Ended.TheVariants as ended
use Rattle.dk_io.specs.Outside.{Rose}
use Rattle.dk_io.specs.Streams.{AddsFront, Texts, with_bytes}
use Rattle.dk_io.specs.declared.outside.Stream.{Stream}
use Rattle.dk_io.specs.declared.outside.Stream.TheVariants.{Report}
use Rattle.dk_table.specs.declared.writing.Halt.{Halt}
use Rattle.dk_table.specs.declared.writing.Halt.TheVariants.{Write, NoMemory}

-- the status of a run in which the trace is not written whole
abbrev pub status_of : Halt → Ended
status_of Write = ended.Write
status_of NoMemory = ended.NoMemory

-- why it isn't
abbrev pub HaltHasCause : ℕ → ℕ → Halt → Type 0
HaltHasCause before after Write = Rose before after
HaltHasCause before after NoMemory = after ≡ before

-- The text that is due was written to the report but for its end, which is left, and no write failed.
abbrev pub IsTold : List ℕ → List ℕ → Texts → Texts → ℕ → ℕ → Type 0
IsTold due left old new before after = (front : List ℕ) × (front ++ left ≡ due) × (new ≡ with_bytes old Report front) × (after ≡ before)

-- So it was, or a front of it was written.
abbrev pub Tells : {A : Type 0} → List ℕ → List ℕ → Texts → Texts → ℕ → ℕ → Result A Halt → Type 0
Tells due left old new before after (Ok u) = IsTold due left old new before after
Tells due left old new before after (Err halt) = AddsFront old new Report due × HaltHasCause before after halt

-- All of it was written, or a front of it was.
abbrev pub TellsFront : {A : Type 0} → List ℕ → Texts → Texts → ℕ → ℕ → Result A Halt → Type 0
TellsFront due old new before after (Ok u) = (new ≡ with_bytes old Report due) × (after ≡ before)
TellsFront due old new before after (Err halt) = AddsFront old new Report due × HaltHasCause before after halt

-- The text was written to the stream, no write failed, and the run has this status; or a write failed, or memory ran out, and a front of
-- the text was written.
abbrev pub EndsCut : Ended → Stream → List ℕ → Texts → Texts → ℕ → ℕ → Ended → Type 0
EndsCut status stream text old new before after result =
    ((result ≡ status) × (new ≡ with_bytes old stream text) × (after ≡ before))
    ⊎ ((result ≡ ended.Write) × Rose before after × AddsFront old new stream text)
    ⊎ ((result ≡ ended.NoMemory) × AddsFront old new stream text × (after ≡ before))
