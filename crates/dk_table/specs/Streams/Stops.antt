-- Why rows that are written as they come end before the files do.
use Rattle.std.specs.Prelude.{◌≡◌, ℕ, List, Option, Some, None, Result, Ok, Err}
use Rattle.dk_io.specs.Outside.{Rose}
use Rattle.dk_io.specs.Streams.{AddsFront, Texts, with_bytes}
use Rattle.dk_io.specs.declared.outside.Stream.TheVariants.{Report}
use Rattle.dk_table.specs.Writing.{IsTold}
use Rattle.dk_table.specs.declared.faults.Refusal.{Refusal}
use Rattle.dk_table.specs.declared.faults.TableFault.{TableFault}
use Rattle.dk_table.specs.declared.faults.TableFault.TheVariants as fault
use Rattle.dk_table.specs.declared.streaming.stops.Stop.{Stop}
use Rattle.dk_table.specs.declared.streaming.stops.Stop.TheVariants.{NoMemory, Refused, Unread, Unstarted, Write}
use Rattle.dk_table.specs.declared.writing.Halt.{Halt}
use Rattle.dk_table.specs.declared.writing.Halt.TheVariants as halt

abbrev pub stop_of_fault : TableFault → Stop
stop_of_fault (fault.Refused refusal) = Refused refusal
stop_of_fault fault.NoMemory = NoMemory

abbrev pub stop_of_halt : Halt → Stop
stop_of_halt halt.Write = Write
stop_of_halt halt.NoMemory = NoMemory

-- The text that is due was written to the report but for its end, which is left, and then comes this refusal, where there is one; or a
-- front of it was written.
abbrev pub Gathers : {A : Type 0} → List ℕ → Option Refusal → List ℕ → Texts → Texts → ℕ → ℕ → Result A Stop → Type 0
Gathers due refusal left old new before after (Ok u) = (refusal ≡ None) × IsTold due left old new before after
Gathers due refusal left old new before after (Err (Refused r)) = (refusal ≡ Some r) × IsTold due left old new before after
Gathers due refusal left old new before after (Err (Unstarted place)) = ⊥
Gathers due refusal left old new before after (Err (Unread place)) = ⊥
Gathers due refusal left old new before after (Err Write) = AddsFront old new Report due × Rose before after
Gathers due refusal left old new before after (Err NoMemory) = AddsFront old new Report due × (after ≡ before)

-- All of it was written, and then comes this refusal, where there is one; or a front of it was written.
abbrev pub Writes : {A : Type 0} → List ℕ → Option Refusal → Texts → Texts → ℕ → ℕ → Result A Stop → Type 0
Writes due refusal old new before after (Ok u) = (refusal ≡ None) × (new ≡ with_bytes old Report due) × (after ≡ before)
Writes due refusal old new before after (Err (Refused r)) = (refusal ≡ Some r) × (new ≡ with_bytes old Report due) × (after ≡ before)
Writes due refusal old new before after (Err (Unstarted place)) = ⊥
Writes due refusal old new before after (Err (Unread place)) = ⊥
Writes due refusal old new before after (Err Write) = AddsFront old new Report due × Rose before after
Writes due refusal old new before after (Err NoMemory) = AddsFront old new Report due × (after ≡ before)
