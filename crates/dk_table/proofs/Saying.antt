-- What each end of a run says.
use Rattle.std.proofs.Common.{◌≡◌, ◌≤◌, ◌<◌, ◌⊎◌, ◌∙◌, ◌∷◌, inl, inr, [], ℕ, zero, suc, List, length, take, Option, Some, None, Result, Ok, Err, refl, sym, ap, subst, arith}
use Rattle.dk_arguments.specs.declared.request.Request.{Request}
use Rattle.dk_arguments.specs.declared.request.Request.TheVariants.{Run, Help, Version}
use Rattle.dk_driver.specs.Files.{AreHeldFiles, file_name_at}
use Rattle.dk_driver.specs.Reads.{AtStart, Break, HasBroken, Within, held_file_at}
use Rattle.dk_driver.specs.declared.fault.FilesFault.{FilesFault}
use Rattle.dk_driver.specs.declared.fault.FilesFault.TheVariants as f
use Rattle.dk_events.specs.declared.ended.Ended.{Ended}
use Rattle.dk_events.specs.declared.ended.Ended.TheVariants.{Done, Refused, Usage, Read, Write, NoMemory}
use Rattle.dk_io.specs.Outside.{HeldFile, Rose}
use Rattle.dk_io.specs.declared.outside.Stream.{Stream}
use Rattle.dk_io.specs.declared.outside.Stream.TheVariants.{Report, Messages, State}
use Rattle.dk_program.proofs.Saying.{followed_only}
use Rattle.dk_program.proofs.Writing.{front_take}
use Rattle.dk_program.specs.Ending.{EndsBy, EndsWith}
use Rattle.dk_program.specs.Messages.{unread_line}
use Rattle.dk_program.specs.Moments.{IsCalm, Outside}
use Rattle.dk_program.specs.Outputs.{IsFront, Output, only_on}
use Rattle.dk_program.specs.Statuses.{GivesOutput, OutputIsWritten}
use Rattle.dk_io.specs.Streams.{AddsFront, Texts}
use Rattle.dk_io.proofs.Writing.{added_nil}
use Rattle.dk_table.specs.Writing.{EndsCut}
use Rattle.dk_table.specs.Refusals.Messages.{refusal_line}
use Rattle.dk_write.specs.Texts.{Write as Block, trace_text}
use Rattle.dk_table.proofs.Contents.{helds_length, not_absent, same_contents}
use Rattle.dk_table.specs.Asked.{table_command}
use Rattle.dk_table.specs.Tables.Contents.{AreReadAs, FaultSays, IsFrontBy, IsUnreadAt, Reached, helds_of}
use Rattle.dk_table.specs.Statuses.Ends.{Answer, IsHeld, answer_by, answer_of}
use Rattle.dk_table.specs.Streams.{Stream as Written, nothing}
use Rattle.dk_table.specs.Statuses.{Completes, ComesTo, IsCutShort, Outcome, Says, judged_whole, outcome_by, outcome_of, point_of, reached_by, told, written_by}
use Rattle.dk_table.specs.Tables.{config_by}
use Rattle.dk_table.specs.Traces.{trace_at, trace_of}
use Rattle.dk_table.proofs.Parts.{none_ends}
use Rattle.dk_table.proofs.Progressed.{begins_none}
use Rattle.dk_table.specs.declared.faults.Refusal.{Refusal}
use Rattle.dk_table.specs.declared.words.TableArguments.{TableArguments}

only_front : (stream : Stream) (n : ℕ) (text : List ℕ) → n ≤ length text → IsFront (only_on stream (take n text)) (only_on stream text)
only_front Report n text h = record { report = front_take n text h; messages = refl; state = refl; in_order = inr refl }
only_front Messages n text h = record { report = refl; messages = front_take n text h; state = refl; in_order = inr refl }
only_front State n text h = record { report = refl; messages = refl; state = front_take n text h; in_order = inl refl }

-- the message stands behind the whole trace
only_behind : (stream : Stream) (text front : List ℕ) → ((only_on stream front).report ≡ (only_on stream text).report) ⊎ ((only_on stream front).messages ≡ [])
only_behind Report text front = inr refl
only_behind Messages text front = inl refl
only_behind State text front = inr refl

-- a run that comes to its output, and wrote it, says so
pub comes_says : (status : Ended) (request : Option (Request TableArguments)) (before after : Outside) (output : Output)
    → ComesTo status request before after output → OutputIsWritten before after output → Says status request before after
comes_says Done request before after output comes e = (output, comes, e)
comes_says Refused request before after output comes e = (output, comes, e)
comes_says Usage request before after output comes e = (output, comes, e)
comes_says Read request before after output comes e = (output, comes, e)
comes_says Write (Some (Run a)) before after output comes e = absurd comes
comes_says Write (Some Help) before after output comes e = absurd comes
comes_says Write (Some Version) before after output comes e = absurd comes
comes_says Write None before after output comes e = absurd comes
comes_says NoMemory (Some (Run a)) before after output comes e = absurd comes
comes_says NoMemory (Some Help) before after output comes e = absurd comes
comes_says NoMemory (Some Version) before after output comes e = absurd comes
comes_says NoMemory None before after output comes e = absurd comes

-- where memory ran out, nothing was written, which is a front of any text
pub ends_cut : (status : Ended) (stream : Stream) (text : List ℕ) (old new : Texts) (before after : ℕ) (result : Ended)
    → EndsWith status stream text old new before after result → EndsCut status stream text old new before after result
ends_cut status stream text old new before after result (inl done) = inl done
ends_cut status stream text old new before after result (inr (inl failed)) = inr (inl failed)
ends_cut status stream text old new before after result (inr (inr (is, e, calm))) = inr (inr (is, (0, omega arith, e ∙ sym (added_nil old stream)), calm))

-- a front of the text on a stream
cut_short : (status : Ended) (request : Option (Request TableArguments)) (before after : Outside) (stream : Stream) (text : List ℕ)
    → ComesTo status request before after (only_on stream text) → AddsFront before.written after.written stream text → IsCutShort request before after
cut_short status request before after stream text comes (n, short, e) = record {
  status = status;
  output = only_on stream text;
  comes = comes;
  front = record { front = only_on stream (take n text); is_front = only_front stream n text short; written = e ∙ followed_only before.written stream (take n text) };
  behind = only_behind stream text (take n text);
}

-- a run that ends with a text, or with a front of it
pub cut_says : (status : Ended) (request : Option (Request TableArguments)) (before after : Outside) (stream : Stream) (text : List ℕ) (result : Ended)
    → ComesTo status request before after (only_on stream text)
    → EndsCut status stream text before.written after.written before.write_faults after.write_faults result → Says result request before after
cut_says status request before after stream text result comes (inl (is, e, calm)) =
    subst (λ (s : Ended). Says s request before after) (sym is)
    (comes_says status request before after (only_on stream text) comes (e ∙ followed_only before.written stream text, calm))
cut_says status request before after stream text result comes (inr (inl (is, rose, front))) =
    subst (λ (s : Ended). Says s request before after) (sym is) (rose, cut_short status request before after stream text comes front)
cut_says status request before after stream text result comes (inr (inr (is, front, calm))) =
    subst (λ (s : Ended). Says s request before after) (sym is) (calm, inr (cut_short status request before after stream text comes front))

pub ends_says : (status : Ended) (request : Option (Request TableArguments)) (before after : Outside) (stream : Stream) (text : List ℕ) (result : Ended)
    → ComesTo status request before after (only_on stream text)
    → EndsWith status stream text before.written after.written before.write_faults after.write_faults result → Says result request before after
ends_says status request before after stream text result comes ended =
    cut_says status request before after stream text result comes (ends_cut status stream text before.written after.written before.write_faults after.write_faults result ended)

-- ---- files that are held
abbrev outcome_as : Answer → Outcome
outcome_as answer = record { status = answer.status; output = only_on answer.stream answer.text }

result_outcome : (names : List (List ℕ)) (r : Result (List Block) Refusal) → outcome_by names (judged_whole r) ≡ outcome_as (answer_by names r)
result_outcome names (Ok blocks) = refl
result_outcome names (Err refusal) = refl

held_outcome : (a : TableArguments) (contents : List (List ℕ)) → IsHeld a.command.types → outcome_of a contents ≡ outcome_as (answer_of a contents)
unfolding outcome_of answer_of
held_outcome a contents held = go a.command.types held ∙ result_outcome a.files (trace_at a.command (point_of a) contents)
  where
    go : (types : Option ℕ) → IsHeld types → outcome_by a.files (written_by types a contents) ≡ outcome_by a.files (judged_whole (trace_at a.command (point_of a) contents))
    go None h = refl
    go (Some zero) h = refl
    go (Some (suc n)) h = absurd h

-- what files come to, a run over them comes to
read_comes : (a : TableArguments) (contents : List (List ℕ)) (before after : Outside) → IsHeld a.command.types → AreReadAs (helds_of a.files before.file) contents
    → ComesTo (answer_of a contents).status (Some (Run a)) before after (only_on (answer_of a contents).stream (answer_of a contents).text)
unfolding answer_of
read_comes a contents before after held read = go (trace_of a.command (file_name_at a.files 0) contents) refl
  where
    go : (r : Result (List Block) Refusal) → trace_of a.command (file_name_at a.files 0) contents ≡ r
        → ComesTo (answer_by a.files r).status (Some (Run a)) before after (only_on (answer_by a.files r).stream (answer_by a.files r).text)
    go (Ok blocks) e =
        let is : outcome_of a contents ≡ outcome_as (answer_by a.files (Ok blocks)) = held_outcome a contents held ∙ ap (λ (r : Result (List Block) Refusal). outcome_as (answer_by a.files r)) e in
        record { contents = contents; read = read; status_is = ap (λ (o : Outcome). o.status) (sym is); output_is = ap (λ (o : Outcome). o.output) (sym is) }
    go (Err refusal) e =
        let is : outcome_of a contents ≡ outcome_as (answer_by a.files (Err refusal)) = held_outcome a contents held ∙ ap (λ (r : Result (List Block) Refusal). outcome_as (answer_by a.files r)) e in
        inl (record { contents = contents; read = read; status_is = ap (λ (o : Outcome). o.status) (sym is); output_is = ap (λ (o : Outcome). o.output) (sym is) })

pub read_says : (a : TableArguments) (contents : List (List ℕ)) (before after : Outside) (result : Ended) → IsHeld a.command.types → AreReadAs (helds_of a.files before.file) contents
    → EndsCut (answer_of a contents).status (answer_of a contents).stream (answer_of a contents).text before.written after.written before.write_faults after.write_faults result
    → Says result (Some (Run a)) before after
read_says a contents before after result held read ended =
    cut_says (answer_of a contents).status (Some (Run a)) before after (answer_of a contents).stream (answer_of a contents).text result (read_comes a contents before after held read) ended

gives : (answer : Answer) (before after : Outside) (result : Ended) → IsCalm before after
    → EndsCut answer.status answer.stream answer.text before.written after.written before.write_faults after.write_faults result
    → GivesOutput answer.status (λ output. output ≡ only_on answer.stream answer.text) result before after
gives answer before after result calm (inl (is, e, same)) = inl (is, (only_on answer.stream answer.text, refl, e ∙ followed_only before.written answer.stream answer.text))
gives answer before after result calm (inr (inl (is, rose, front))) = absurd (calm.write rose)
gives answer before after result calm (inr (inr (is, e, same))) = inr is

pub read_completes : (a : TableArguments) (contents : List (List ℕ)) (before after : Outside) (result : Ended) → IsHeld a.command.types → AreReadAs (helds_of a.files before.file) contents
    → EndsCut (answer_of a contents).status (answer_of a contents).stream (answer_of a contents).text before.written after.written before.write_faults after.write_faults result
    → Completes (Some (Run a)) before after result
read_completes a contents before after result is_held read ended = λ calm held are.
    subst (λ (l : List (List ℕ)). GivesOutput (outcome_of a l).status (λ output. output ≡ (outcome_of a l).output) result before after)
    (same_contents (helds_of a.files before.file) contents held read are)
    (subst (λ (o : Outcome). GivesOutput o.status (λ output. output ≡ o.output) result before after) (sym (held_outcome a contents is_held))
    (gives (answer_of a contents) before after result calm ended))

-- ---- what files come to
pub table_ends : (a : TableArguments) (contents : List (List ℕ)) (name : List ℕ) (blocks : List Block) (old new : Texts) (before after : ℕ) (result : Ended)
    → name ≡ file_name_at a.files 0 → trace_of a.command name contents ≡ Ok blocks → EndsCut Done Report (trace_text blocks) old new before after result
    → EndsCut (answer_of a contents).status (answer_of a contents).stream (answer_of a contents).text old new before after result
unfolding answer_of
table_ends a contents name blocks old new before after result is e ended =
    subst (λ (r : Result (List Block) Refusal). EndsCut (answer_by a.files r).status (answer_by a.files r).stream (answer_by a.files r).text old new before after result)
    (sym (ap (λ (n : List ℕ). trace_of a.command n contents) (sym is) ∙ e)) ended

pub refusal_ends : (a : TableArguments) (contents : List (List ℕ)) (name : List ℕ) (refusal : Refusal) (old new : Texts) (before after : ℕ) (result : Ended)
    → name ≡ file_name_at a.files 0 → trace_of a.command name contents ≡ Err refusal
    → EndsWith Refused Messages (refusal_line (file_name_at a.files refusal.file) refusal.row refusal.why) old new before after result
    → EndsCut (answer_of a contents).status (answer_of a contents).stream (answer_of a contents).text old new before after result
unfolding answer_of
refusal_ends a contents name refusal old new before after result is e ended =
    subst (λ (r : Result (List Block) Refusal). EndsCut (answer_by a.files r).status (answer_by a.files r).stream (answer_by a.files r).text old new before after result)
    (sym (ap (λ (n : List ℕ). trace_of a.command n contents) (sym is) ∙ e))
    (ends_cut Refused Messages (refusal_line (file_name_at a.files refusal.file) refusal.row refusal.why) old new before after result ended)

-- ---- files that were not
-- nothing is written of files that are held
held_none : (a : TableArguments) (contents : List (List ℕ)) (front : List ℕ) → IsHeld a.command.types → reached_by a.command.types a contents front ≡ nothing
held_none a contents front held = go a.command.types held
  where
    go : (types : Option ℕ) → IsHeld types → reached_by types a contents front ≡ nothing
    go None h = refl
    go (Some zero) h = refl
    go (Some (suc n)) h = absurd h

read_length : (helds : List HeldFile) (place : ℕ) (front : List (List ℕ)) → place ≤ length helds → AreReadAs (take place helds) front → length front ≡ place
read_length helds zero [] within read = refl
read_length helds zero (c ∷ cs) within read = absurd read
read_length [] (suc place) front within read = absurd (omega (arith, within))
read_length (h ∷ hs) (suc place) [] within read = absurd read
read_length (h ∷ hs) (suc place) (c ∷ cs) within read = ap suc (read_length hs place cs (omega (arith, within)) read.1)

unread_says : (a : TableArguments) (before after : Outside) (by : Break) (place : ℕ) (result : Ended) → IsHeld a.command.types
    → IsUnreadAt a.files before.file (Rose before.read_faults after.read_faults) by place
    → EndsWith Read Messages (unread_line (file_name_at a.files place)) before.written after.written before.write_faults after.write_faults result
    → Says result (Some (Run a)) before after
unread_says a before after by place result held unread ended =
    let helds : List HeldFile = helds_of a.files before.file in
    let many : length unread.front ≡ place = read_length helds place unread.front (omega (arith, unread.named, helds_length a.files before.file)) unread.front_read in
    let reached : Reached a.command helds = record {
      contents = unread.front;
      front = [];
      read = subst (λ (n : ℕ). AreReadAs (take n helds) unread.front) (sym many) unread.front_read;
      next = inl refl;
      begins = begins_none (held_file_at helds (length unread.front));
      whole = none_ends (config_by a.command.separator);
    } in
    let none : reached_by a.command.types a unread.front [] ≡ nothing = held_none a unread.front [] held in
    let line : List ℕ = unread_line (file_name_at a.files place) in
    ends_says Read (Some (Run a)) before after Messages line result (record {
      by = by;
      reached = reached;
      named = omega (arith, unread.named, many);
      cause = subst (λ (n : ℕ). HasBroken by (held_file_at helds n) (Rose before.read_faults after.read_faults)) (sym many) unread.cause;
      own = none_by by;
      none = ap (λ (s : Written). s.refusal) none;
      output_is = ap (λ (s : Written). told (trace_text s.written) line) (sym none)
          ∙ ap (λ (n : ℕ). told (trace_text (reached_by a.command.types a unread.front []).written) (unread_line (file_name_at a.files n))) (sym many);
    }) ended
  where
    none_by : (b : Break) → IsFrontBy b []
    none_by AtStart = refl
    none_by Within = tt

pub fault_says : (a : TableArguments) (before after : Outside) (fault : FilesFault) (result : Ended) → IsHeld a.command.types
    → FaultSays a.files before.file (Rose before.read_faults after.read_faults) fault
    → EndsBy a.files fault before.written after.written before.write_faults after.write_faults result → Says result (Some (Run a)) before after
fault_says a before after (f.Refused place line why) result held says ended = absurd says
fault_says a before after (f.Start place) result held says ended = unread_says a before after AtStart place result held says ended
fault_says a before after (f.Read place) result held says ended = unread_says a before after Within place result held says ended
fault_says a before after f.NoMemory result held says (is, e, calm) = subst (λ (s : Ended). Says s (Some (Run a)) before after) (sym is) (calm, inl e)

pub no_start : (helds : List HeldFile) (held : List (List ℕ)) (place : ℕ) (rose : Type 0) → place < length helds → AreHeldFiles helds held → (rose → ⊥)
    → HasBroken AtStart (held_file_at helds place) rose → ⊥
no_start helds held place rose within are calm (inl absent) = not_absent helds held place within are absent
no_start helds held place rose within are calm (inr rises) = calm rises

pub fault_completes : (a : TableArguments) (before after : Outside) (fault : FilesFault) (result : Ended)
    → FaultSays a.files before.file (Rose before.read_faults after.read_faults) fault
    → EndsBy a.files fault before.written after.written before.write_faults after.write_faults result → Completes (Some (Run a)) before after result
fault_completes a before after (f.Refused place line why) result says ended = λ calm held are. absurd says
fault_completes a before after (f.Start place) result says ended = λ calm held are.
    absurd (no_start (helds_of a.files before.file) held place _ (omega (arith, says.named, helds_length a.files before.file)) are calm.read says.cause)
fault_completes a before after (f.Read place) result says ended = λ calm held are. absurd (calm.read says.cause.1)
fault_completes a before after f.NoMemory result says (is, e, same) = λ calm held are. inr is

-- ---- other words
pub help_says : (asked : Option (Request TableArguments)) (before after : Outside) (text : List ℕ) (result : Ended) → asked ≡ Some Help → text ≡ table_command.help
    → EndsWith Done Report text before.written after.written before.write_faults after.write_faults result → Says result asked before after
help_says asked before after text result is same ended =
    subst (λ (r : Option (Request TableArguments)). Says result r before after) (sym is) (ends_says Done (Some Help) before after Report text result (ap (only_on Report) same) ended)

pub version_says : (asked : Option (Request TableArguments)) (before after : Outside) (text : List ℕ) (result : Ended) → asked ≡ Some Version → text ≡ table_command.version
    → EndsWith Done Report text before.written after.written before.write_faults after.write_faults result → Says result asked before after
version_says asked before after text result is same ended =
    subst (λ (r : Option (Request TableArguments)). Says result r before after) (sym is) (ends_says Done (Some Version) before after Report text result (ap (only_on Report) same) ended)

pub usage_says : (asked : Option (Request TableArguments)) (before after : Outside) (result : Ended) → asked ≡ None
    → EndsWith Usage Messages table_command.usage before.written after.written before.write_faults after.write_faults result → Says result asked before after
usage_says asked before after result is ended =
    subst (λ (r : Option (Request TableArguments)). Says result r before after) (sym is) (ends_says Usage None before after Messages table_command.usage result refl ended)

-- what is asked for is a run, or not
pub asked_completes : (asked : Option (Request TableArguments)) (a : TableArguments) (before after : Outside) (result : Ended) → asked ≡ Some (Run a)
    → Completes (Some (Run a)) before after result → Completes asked before after result
asked_completes asked a before after result is complete = subst (λ (r : Option (Request TableArguments)). Completes r before after result) (sym is) complete
