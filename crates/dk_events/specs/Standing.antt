-- What events stand for, and what the next block tells.
use Rattle.std.specs.Prelude.{◌≡◌, ℕ, Bool, not, true, false, is_some, List, Option, Some, None, Result, Ok, Err}
use Rattle.dk_base.specs.Reading.{LineFault}
use Rattle.dk_base.specs.declared.faults.Fault.{Fault}
use Rattle.dk_lines.specs.Reading.{Reading}
use Rattle.dk_points.specs.Table.{Point}
use Rattle.dk_blocks.specs.History.{Effect, History, Taken, effect_of}
use Rattle.dk_blocks.specs.Standing.{ReaderStandsFor, file_of as file_in, over_of as over_in, points_of as points_in}
use Rattle.dk_blocks.specs.Steps.{FaultAnswers, Grown, IsInFile, RefusedAs, Steps}
use Rattle.dk_blocks.specs.declared.reader.Reader.{Reader}
use Rattle.dk_events.specs.Following.{Following}
use Rattle.dk_events.specs.Telling.{derived_effect, told}
use Rattle.dk_events.specs.declared.event.Event.{Event}

-- events stand for a history
abbrev pub EventsStandFor : Following → History → Type 0
EventsStandFor e h = ReaderStandsFor e.reader h

-- their points
abbrev pub points_of : Following → List Point
points_of e = points_in e.reader

-- whether they have come to the end of their file
abbrev pub over_of : Following → Bool
over_of e = over_in e.reader

abbrev pub file_of : Following → ℕ
file_of e = file_in e.reader

-- whether exits without an entry are left out
abbrev pub ignores_of : Following → Bool
ignores_of e = e.ignores

-- what an answer leaves of the reader
abbrev pub reader_left : {A : Type 0} → Result (Following × A) Fault → Result (Reader × A) Fault
reader_left (Ok a) = Ok (a.0.reader, a.1)
reader_left (Err fault) = Err fault

-- what a block that was found comes to, as the event tells it
abbrev pub TakenAs : Result (Following × Event) Fault → Result Taken LineFault → Type 0
TakenAs (Ok a) outcome =
    (h : History) × EventsStandFor a.0 h
    × ((effect : Option Effect) × (told (Some a.1) ≡ derived_effect h.table effect)
    × (outcome ≡ Ok (record { history = h; effect = effect })))
TakenAs (Err fault) outcome = RefusedAs fault outcome

-- What `next` answers: the events after the next block, and what the block does, if there is one, with the values of derived variables.
abbrev pub NextEvent : Following → History → Reading → List ℕ → Result (Following × Option Event) Fault → Reading
    → Option (List ℕ) → Type 0
NextEvent e h r xs (Ok a) r' left' =
    (h' : History) × EventsStandFor a.0 h' × ((effect : Option Effect) × (told a.1 ≡ derived_effect h'.table effect)
    × ((ys : List ℕ) × (left' ≡ Some ys) × Steps (ignores_of e) (effect_of (ignores_of e) h) (over_of e) r xs
    (Ok (record { history = h'; effect = effect })) (over_of a.0) r' ys))
NextEvent e h r xs (Err fault) r' left' = FaultAnswers (ignores_of e) (effect_of (ignores_of e) h) (over_of e) r xs fault left'

-- numbers of lines, bytes and files, whatever is answered
abbrev pub EventCounts : Following → Reading → Result (Following × Option Event) Fault → Reading → Type 0
EventCounts e r (Ok a) r' =
    (r'.limits ≡ r.limits) × (r'.is_started ≡ not (over_of a.0)) × (file_of a.0 ≡ file_of e) × (ignores_of a.0 ≡ ignores_of e)
    × (a.1 ≡ None → over_of a.0 ≡ true) × (is_some a.1 ≡ true → over_of e ≡ false) × (is_some a.1 ≡ true → Grown (over_of a.0) r r')
EventCounts e r (Err fault) r' = (r'.limits ≡ r.limits) × IsInFile (file_of e) fault
