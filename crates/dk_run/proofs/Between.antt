-- Runs that end where another one can begin.
use Rattle.std.proofs.Common.{◌≡◌, ◌+◌, ◌-◌, ◌<◌, ◌≤◌, ◌^◌, ℕ, Bool, true, List, [], ◌∷◌, Some, None, Result, Ok, Err, arith, length, map, refl, subst, sym}
use Rattle.std.specs.Fmt.{digits}
use Rattle.dk_base.specs.Reading.{LineFault, ◌>>=◌}
use Rattle.dk_base.specs.declared.why.Why.TheVariants.{LongLine as WhyLong, TooLong as WhyMany}
use Rattle.dk_lines.specs.Left.{Over, Broken, LongLine, TooLong, lined}
use Rattle.dk_core.proofs.Going.{IsGoing, block_going, ended_going, going_start, no_samples, start_going}
use Rattle.dk_core.proofs.SpelledLines.{AreSpelled, IsEnded, file_ends, file_spelled}
use Rattle.dk_blocks.specs.Blocks.{Group, Groups, Last, groups_of}
use Rattle.dk_blocks.specs.History.{History, Taken, effect_of, file_ended, no_history}
use Rattle.dk_core.specs.Resuming.{IsStart, state_file}
use Rattle.dk_driver.specs.Files.{ended_file}
use Rattle.dk_driver.specs.Trails.{Outset, goes_on, line_limit, then_files, total_limit, trail_behind, trail_end, trail_of_file, trail_of_files}
use Rattle.dk_run.specs.Courses.{course_of}
use Rattle.dk_run.specs.Laws.{RunsBeginAtStarts, RunsEndAtStarts}
use Rattle.dk_state.specs.Saved.{saved_text}
use Rattle.dk_state.specs.StateFile.{state_file_of}

over_many : (place : ℕ) (r : Result Taken LineFault) (fault : LineFault) (n : History) → (goes_on place (r >>= λ _. Err fault) (λ h. trail_end (Ok h))).end ≡ Ok n → ⊥
over_many place (Ok t) fault n e = cc e
over_many place (Err f) fault n e = cc e

-- groups of lines that are spelled
groups_going : (ignores : Bool) (place : ℕ) (h n : History) (room : ℕ) (gs : Groups) → room < 2 ^ 63 → AreSpelled room gs → IsEnded gs → IsGoing h
    → (trail_behind ignores place h gs).end ≡ Ok n → IsGoing n
groups_going ignores place h n room (Group ls close rest) few own ended going e =
    by (effect_of ignores h ls (Some close)) (λ t is. block_going ignores h ls close t going own.0 own.1 (omega (arith, own.2, few)) is) refl e
    (λ t now later. groups_going ignores place t n room rest few own.3 ended now later)
  where
    by : (r : Result Taken LineFault) → ((t : Taken) → effect_of ignores h ls (Some close) ≡ Ok t → IsGoing t.history) → effect_of ignores h ls (Some close) ≡ r
        → (goes_on place r (λ k. trail_behind ignores place k rest)).end ≡ Ok n
        → ((k : History) → IsGoing k → (trail_behind ignores place k rest).end ≡ Ok n → IsGoing n) → IsGoing n
    by (Ok t) gives is e more = more t.history (gives t is) e
    by (Err fault) gives is e more = absurd (cc e)
groups_going ignores place h n room (Last ls Broken) few own ended going e = absurd ended
groups_going ignores place h n room (Last ls (LongLine line)) few own ended going e = absurd (over_many place (effect_of ignores h ls None) (record { line = line; why = WhyLong }) n e)
groups_going ignores place h n room (Last ls (TooLong line)) few own ended going e = absurd (over_many place (effect_of ignores h ls None) (record { line = line; why = WhyMany }) n e)
groups_going ignores place h n room (Last ls (Over line)) few own ended going e =
    by (effect_of ignores h ls (Some line)) (λ t is. block_going ignores h ls line t going own.0 own.1 (omega (arith, own.2, few)) is) refl e
  where
    by : (r : Result Taken LineFault) → ((t : Taken) → effect_of ignores h ls (Some line) ≡ Ok t → IsGoing t.history) → effect_of ignores h ls (Some line) ≡ r
        → (goes_on place r (λ k. trail_end (Ok k))).end ≡ Ok n → IsGoing n
    by (Ok t) gives is e = let same : t.history ≡ n = cc e in subst IsGoing same (gives t is)
    by (Err fault) gives is e = absurd (cc e)

file_going : (ignores : Bool) (room place : ℕ) (h n : History) (content : List ℕ) → room ≤ total_limit → IsGoing h → (trail_of_file ignores room h place (ended_file content)).end ≡ Ok n → IsGoing n
file_going ignores room place h n content few going e =
    groups_going ignores place h n room (groups_of (lined line_limit room 0 true content)) (omega (arith, few)) (file_spelled line_limit room 0 true content (omega (arith, few))) (file_ends line_limit room 0 content) going e

-- between two files
record IsBetween (h : History) : Type 0 where
  going : IsGoing h
  calls : h.calls ≡ []

between : (h : History) → IsGoing h → IsBetween (file_ended h)
unfolding file_ended
between h going = record { going = ended_going h going; calls = refl }

files_going : (ignores : Bool) (room : ℕ) (h n : History) (place : ℕ) (contents : List (List ℕ)) → room ≤ total_limit → IsBetween h
    → (trail_of_files ignores room h place (map ended_file contents)).end ≡ Ok n → IsBetween n
files_going ignores room h n place [] few is e = let same : h ≡ n = cc e in subst IsBetween same is
files_going ignores room h n place (content ∷ contents) few is e =
    by (trail_of_file ignores room h place (ended_file content)).end refl e (λ next now later. files_going ignores (room - length content) next n (place + 1) contents (omega (arith, few)) now later)
  where
    by : (r : Result History LineFault) → (trail_of_file ignores room h place (ended_file content)).end ≡ r
        → (then_files place r (λ next. trail_of_files ignores (room - length content) (file_ended next) (place + 1) (map ended_file contents))).end ≡ Ok n
        → ((next : History) → IsBetween next → (trail_of_files ignores (room - length content) next (place + 1) (map ended_file contents)).end ≡ Ok n → IsBetween n) → IsBetween n
    by (Ok next) got e more = more (file_ended next) (between next (file_going ignores room place h next content few is.going got)) e
    by (Err fault) got e more = absurd (cc e)

pub run_ends : RunsEndAtStarts
unfolding course_of
run_ends start ignores contents mid begins short few e own =
    let is = files_going ignores start.room start.history mid 0 contents few (record { going = start_going start.history begins (omega (arith, short)); calls = begins.no_calls }) e in
    going_start mid is.going is.calls own

-- ---- what runs begin with
-- a state file of no samples has few bytes
nothing_small : length (state_file no_history) ≤ total_limit
unfolding state_file state_file_of saved_text no_history digits
nothing_small = let bytes : length (state_file no_history) ≡ 57 = refl in omega (arith, bytes)

none_start : IsStart no_history
unfolding no_history
none_start = no_samples no_history.grammar

pub run_begins : RunsBeginAtStarts
run_begins None file start begins = subst (λ (o : Outset). IsStart o.history × (length (state_file o.history) ≤ total_limit) × (o.room ≤ total_limit)) (sym begins) (none_start, nothing_small, omega arith)
run_begins (Some name) file start (h, is, held, few, begins) =
    subst (λ (o : Outset). IsStart o.history × (length (state_file o.history) ≤ total_limit) × (o.room ≤ total_limit)) (sym begins) (is, few, omega arith)
