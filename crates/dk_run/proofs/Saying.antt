-- What each end of a run says.
use Rattle.std.proofs.Common.{◌≡◌, ◌≢◌, ◌≤◌, ◌<◌, ◌+◌, ◌-◌, inl, inr, ℕ, zero, suc, List, [], ◌∷◌, ◌++◌, map, take, length, get_or, Option, Some, None, Result, Ok, Err, All, refl, sym, ◌∙◌, ap, subst, arith}
use Rattle.std.proofs.lemmas.List.{length-map, length-take, map-append, take_all}
use Rattle.std.specs.Io.{StartsWith}
use Rattle.std.specs.Io.KnownBytes.{append_known}
use Rattle.std.specs.Option.{option_map_or}
use Rattle.std.specs.Prelude.{unwrap_or}
use Rattle.dk_base.specs.declared.why.Why.{Why}
use Rattle.dk_io.specs.Outside.{HeldFile, Absent, Rose}
use Rattle.dk_io.specs.Streams.{Texts, with_bytes}
use Rattle.dk_io.specs.declared.outside.Stream.{Stream}
use Rattle.dk_io.specs.declared.outside.Stream.TheVariants.{Report, Messages, State}
use Rattle.dk_lines.specs.Reading.{Reading, room_of}
use Rattle.dk_blocks.specs.History.{History}
use Rattle.dk_core.specs.Standing.{SessionStandsFor, blocks_of}
use Rattle.dk_core.specs.declared.session.Session.{Session}
use Rattle.dk_command_line.specs.Requests.{daikon}
use Rattle.dk_command_line.specs.Texts.{help_text, usage_line, version_text}
use Rattle.dk_command_line.specs.declared.command.Command.{Command}
use Rattle.dk_arguments.specs.declared.request.Request.{Request}
use Rattle.dk_arguments.specs.declared.request.Request.TheVariants.{Run, Help, Version}
use Rattle.dk_driver.specs.Files.{AreHeldFiles, FaultAt, ended_file, file_name_at}
use Rattle.dk_driver.specs.declared.fault.FileFault.{FileFault}
use Rattle.dk_driver.specs.declared.fault.FileFault.TheVariants as one
use Rattle.dk_driver.specs.Reads.{AtStart, Break, HasBroken, Within, held_file_at, rest_behind}
use Rattle.dk_program.specs.Ending.{EndsByFault, EndsWith, EndsWithoutRun, status_of}
use Rattle.dk_program.specs.Messages.{fault_line, unread_line}
use Rattle.dk_program.specs.Moments.{Outside}
use Rattle.dk_program.specs.Outputs.{IsFront, Output, only_on, texts_followed_by}
use Rattle.dk_run.specs.AllFiles.{AreCalmUnless, AreReadTo, FilesGive, FilesTroubleGives, HasBrokenAt, IsRefusedAt, IsShortTo, IsTroubleOf, IsUnreadAt, RunGives}
use Rattle.dk_run.specs.Commands.{file_names, generated_count, helds_of}
use Rattle.dk_run.specs.declared.starting.Beginning.{Beginning}
use Rattle.dk_run.specs.Beginning.{HasCome, IsLeft, IsRefusedState, StartFaultGives, state_name}
use Rattle.dk_driver.specs.Trails.{Outset, Step, Trail, fault_in}
use Rattle.dk_run.specs.Courses.{course_along, course_of, histories_of}
use Rattle.dk_run.specs.Starts.{Begins, HasBegun}
use Rattle.dk_run.specs.Ending.{EndsBy}
use Rattle.dk_print.specs.Sections.{end_line}
use Rattle.dk_run.specs.Outputs.{first_line, output_along, output_of, saved_state, unread_output}
use Rattle.dk_run.specs.Reports.{due_from, due_reports, whole_report}
use Rattle.dk_run.specs.WholeFile.{IsBehind}
use Rattle.dk_presence.specs.Patterns.{capped}
use Rattle.dk_run.specs.Statuses.{AreRead, ComesTo, IsCutShort, IsRefused, IsStateRefused, IsStateUnread, IsUnread, OutputIsWritten, Says, StateUnreadGives}
use Rattle.dk_program.specs.Telling.{CutsText, HaltHasCause}
use Rattle.dk_run.specs.Telling.{CutOff, StateCut, StateTold, ToldWhole}
use Rattle.dk_run.specs.declared.reading.FilesTrouble.{FilesTrouble}
use Rattle.dk_run.specs.declared.reading.FilesTrouble.TheVariants as t
use Rattle.dk_program.specs.declared.reporting.Halt.{Halt}
use Rattle.dk_program.specs.declared.reporting.Halt.TheVariants as w
use Rattle.dk_events.specs.declared.ended.Ended.{Ended}
use Rattle.dk_events.specs.declared.ended.Ended.TheVariants.{Done, Refused, Usage, Read, Write, NoMemory}
use Rattle.dk_driver.proofs.Complete.{front_held}
use Rattle.dk_driver.proofs.Running.{alone, rose_since}
use Rattle.dk_run.proofs.Filing.{due_append}
use Rattle.dk_run.proofs.Placing.{helds_length, names_length}
use Rattle.dk_run.proofs.Starts.{starts_begin_alike}
use Rattle.dk_run.proofs.Writing.{added_more, front_all, front_behind, front_more, front_take, known_nothing}

-- ---- what was written
-- the messages' first line, and a report
abbrev so_far : List ℕ → List ℕ → Output
so_far line report = record { report = report; messages = line; state = [] }

-- the messages' first line, a report and a state
abbrev with_state : List ℕ → List ℕ → List ℕ → Output
with_state line report state = record { report = report; messages = line; state = state }

followed_state : (old : Texts) (line report state : List ℕ) → with_bytes (with_bytes (with_bytes old Messages line) Report report) State state ≡ texts_followed_by old (with_state line report state)
followed_state old line report state = refl

followed_first : (old : Texts) (line report : List ℕ) → with_bytes (with_bytes old Messages line) Report report ≡ texts_followed_by old (so_far line report)
followed_first old line report = ap (λ (k : Option (List ℕ)). record { report = append_known old.report report; messages = append_known old.messages line; state = k }) (sym (known_nothing old.state))

messages_behind : (old : Texts) (line report text : List ℕ) → with_bytes (with_bytes (with_bytes old Messages line) Report report) Messages text ≡ texts_followed_by old (so_far (line ++ text) report)
messages_behind old line report text =
    ap (λ (t : Texts). record t { report = append_known old.report report }) (added_more old Messages line text) ∙ followed_first old (line ++ text) report

followed_only : (old : Texts) (stream : Stream) (text : List ℕ) → with_bytes old stream text ≡ texts_followed_by old (only_on stream text)
followed_only old Report text = let m = known_nothing old.messages in let s = known_nothing old.state in cc
followed_only old Messages text = let r = known_nothing old.report in let s = known_nothing old.state in cc
followed_only old State text = let r = known_nothing old.report in let m = known_nothing old.messages in cc

only_front : (stream : Stream) (n : ℕ) (text : List ℕ) → n ≤ length text → IsFront (only_on stream (take n text)) (only_on stream text)
only_front Report n text h = record { report = front_take n text h; messages = refl; state = refl; in_order = inr refl }
only_front Messages n text h = record { report = refl; messages = front_take n text h; state = refl; in_order = inr refl }
only_front State n text h = record { report = refl; messages = refl; state = front_take n text h; in_order = inl refl }

-- ---- ends with a text
-- a run that comes to an end and told its output says so
comes_to_says : (status : Ended) (request : Option (Request Command)) (before after : Outside) (output : Output)
    → ComesTo status request before after output → OutputIsWritten before after output → Says status request before after
comes_to_says Done request before after output comes e = (output, comes, e)
comes_to_says Refused request before after output comes e = (output, comes, e)
comes_to_says Usage request before after output comes e = (output, comes, e)
comes_to_says Read request before after output comes e = (output, comes, e)
comes_to_says Write (Some (Run command)) before after output comes e = absurd comes
comes_to_says Write (Some Help) before after output comes e = absurd comes
comes_to_says Write (Some Version) before after output comes e = absurd comes
comes_to_says Write None before after output comes e = absurd comes
comes_to_says NoMemory (Some (Run command)) before after output comes e = absurd comes
comes_to_says NoMemory (Some Help) before after output comes e = absurd comes
comes_to_says NoMemory (Some Version) before after output comes e = absurd comes
comes_to_says NoMemory None before after output comes e = absurd comes

-- a text alone
pub only_says : (status : Ended) (request : Option (Request Command)) (before after : Outside) (stream : Stream) (text : List ℕ) (result : Ended) → ComesTo status request before after (only_on stream text)
    → EndsWith status stream text before.written after.written before.write_faults after.write_faults result → Says result request before after
only_says status request before after stream text result comes (inl (is, e, calm)) =
    subst (λ (s : Ended). Says s request before after) (sym is) (comes_to_says status request before after (only_on stream text) comes (e ∙ followed_only before.written stream text, calm))
only_says status request before after stream text result comes (inr (inl (is, rose, (n, short, e)))) =
    subst (λ (s : Ended). Says s request before after) (sym is)
    (rose, inr (inr (status, only_on stream text, comes, record { front = only_on stream (take n text); is_front = only_front stream n text short; written = e ∙ followed_only before.written stream (take n text) })))
only_says status request before after stream text result comes (inr (inr (is, e, calm))) = subst (λ (s : Ended). Says s request before after) (sym is) (calm, inl e)

-- a message behind the first line and a report
message_says : (status : Ended) (request : Option (Request Command)) (before after : Outside) (line report text : List ℕ) (mid : Texts) (between : ℕ) (result : Ended)
    → ComesTo status request before after (so_far (line ++ text) report) → mid ≡ with_bytes (with_bytes before.written Messages line) Report report → between ≡ before.write_faults
    → EndsWith status Messages text mid after.written between after.write_faults result → Says result request before after
message_says status request before after line report text mid between result comes is calm (inl (same, e, unfailed)) =
    subst (λ (s : Ended). Says s request before after) (sym same) (comes_to_says status request before after (so_far (line ++ text) report) comes
    (e ∙ ap (λ (t : Texts). with_bytes t Messages text) is ∙ messages_behind before.written line report text, unfailed ∙ calm))
message_says status request before after line report text mid between result comes is calm (inr (inl (same, rose, (n, short, e)))) =
    subst (λ (s : Ended). Says s request before after) (sym same) (
      subst (λ (k : ℕ). Rose k after.write_faults) calm rose,
      inr (inr (
        status,
        so_far (line ++ text) report,
        comes,
        record {
          front = so_far (line ++ take n text) report;
          is_front = record { report = front_all report; messages = front_behind line text (take n text) (front_take n text short); state = refl; in_order = inr refl };
          written = e ∙ ap (λ (t : Texts). with_bytes t Messages (take n text)) is ∙ messages_behind before.written line report (take n text);
        },
      )),
    )
message_says status request before after line report text mid between result comes is calm (inr (inr (same, e, unfailed))) =
    subst (λ (s : Ended). Says s request before after) (sym same) (
      unfailed ∙ calm,
      inr (inr (
        status,
        so_far (line ++ text) report,
        comes,
        record {
          front = so_far line report;
          is_front = record { report = front_all report; messages = front_more line text line (front_all line); state = refl; in_order = inr refl };
          written = e ∙ is ∙ followed_first before.written line report;
        },
      )),
    )

-- ---- files that are there
at_get : (helds : List HeldFile) (k : ℕ) (d : HeldFile) → k < length helds → held_file_at helds k ≡ get_or helds k d
at_get [] k d h = absurd (omega arith)
at_get (n ∷ ns) zero d h = refl
at_get (n ∷ ns) (suc k) d h = at_get ns k d (omega arith)

all_there : (helds : List HeldFile) → ((k : ℕ) → k < length helds → held_file_at helds k ≢ Absent) → All (λ held. held ≢ Absent) helds
all_there helds there = λ k d h. subst (λ (held : HeldFile). held ≢ Absent) (at_get helds k d h) (there k h)

front_there : (helds : List HeldFile) (n : ℕ) → ((k : ℕ) → k < n → held_file_at helds k ≢ Absent) → All (λ held. held ≢ Absent) (take n helds)
front_there helds n there = all_there (take n helds) (λ k below. here k (omega (arith, below, length-take n helds))) where
  here : (k : ℕ) → k < n → held_file_at (take n helds) k ≢ Absent
  here k below = subst (λ (held : HeldFile). held ≢ Absent) (sym (front_held helds n k below)) (there k below)

pub same_length : (command : Command) (file : List ℕ → HeldFile) → length (file_names command) ≡ length (helds_of command file)
same_length command file = names_length command ∙ sym (helds_length command file)

held_all : (command : Command) (file : List ℕ → HeldFile) (contents : List (List ℕ)) → AreHeldFiles (helds_of command file) contents → AreHeldFiles (take (length (file_names command)) (helds_of command file)) contents
held_all command file contents held =
    subst (λ (l : List HeldFile). AreHeldFiles l contents) (sym (take_all (length (file_names command)) (helds_of command file) (omega (arith, same_length command file)))) held

-- The run has begun, and this is left of the inputs then.
pub record Begun (command : Command) (before : Outside) (rest : Option (List ℕ)) : Type 0 where
  begun : HasBegun command.resume before.file
  left : IsLeft command.resume before.file before.rest rest

-- all files were read
are_read : {F : Type 0} (command : Command) (before after : Outside) (rest : Option (List ℕ)) (s : Session F) (room : ℕ) (text : List ℕ) → Begun command before rest
    → AreReadTo command before.file rest after.rest s room (length (file_names command)) text → AreRead command before after
unfolding course_of
are_read command before after rest s room text behind read = record {
  begun = behind.begun;
  none_absent = all_there (helds_of command before.file) (λ k h. read.there k (omega (arith, h, same_length command before.file)));
  clean = λ start begins k contents h held. read.clean start begins k contents (omega (arith, h, same_length command before.file)) held;
  all_read = λ start begins contents held.
      let number : length (file_names command) - generated_count command ≡ length command.files = omega (arith, names_length command) in
      (read.runs start begins contents (held_all command before.file contents held)).rest_is ∙ ap (λ (n : ℕ). rest_behind n rest) number
      ∙ ap (rest_behind (length command.files)) (behind.left start begins);
}

-- the last report, as a session tells it
abbrev last_due : Command → ℕ → History → List ℕ
last_due command blocks h = option_map_or (λ every. end_line blocks) command.every [] ++ whole_report command h

-- the output of a run that was read to its end
ended_output : {F : Type 0} (command : Command) (before after : Outside) (rest : Option (List ℕ)) (s : Session F) (room : ℕ) (text : List ℕ)
    → (read : AreReadTo command before.file rest after.rest s room (length (file_names command)) text)
    → (start : Outset) → Begins command.resume before.file start → (contents : List (List ℕ)) → AreHeldFiles (helds_of command before.file) contents
    → (h : History) × SessionStandsFor s h × (output_of start command (map ended_file contents) ≡ with_state (first_line command) (text ++ last_due command (blocks_of s) h) (saved_state command h))
unfolding output_of course_of
ended_output command before after rest s room text read start begins contents held =
    let on = read.runs start (starts_begin_alike command.resume before.file start begins) contents (held_all command before.file contents held) in
    let behind : IsBehind command (Begins command.resume before.file start) s text on.history on.steps = on.stands in
    let counted : capped (length (histories_of on.steps)) ≡ blocks_of s = ap capped (length-map on.steps (λ (step : Step). step.history)) ∙ sym behind.fed.counts in (
      on.history,
      behind.fed.goes.stands begins,
      ap (λ (t : Trail FaultAt). output_along command (course_along t)) (alone start command.ignore_missing_entry rest after.rest (IsBehind command (Begins command.resume before.file start) s text) room (generated_count command) (length (file_names command)) contents on)
          ∙ ap (λ (n : ℕ). with_state (first_line command) (due_reports command (histories_of on.steps) ++ last_due command n on.history) (saved_state command on.history)) counted
          ∙ ap (λ (l : List ℕ). with_state (first_line command) (l ++ last_due command (blocks_of s) on.history) (saved_state command on.history)) (sym (behind.written begins)),
    )

-- the texts behind the first line, one behind another
all_written : (before mid mid2 mid3 last : Texts) (line text report state : List ℕ) → mid ≡ with_bytes before Messages line → mid2 ≡ with_bytes mid Report text → mid3 ≡ with_bytes mid2 Report report
    → last ≡ with_bytes mid3 State state → last ≡ texts_followed_by before (with_state line (text ++ report) state)
all_written before mid mid2 mid3 last line text report state first reported more saved =
    saved
    ∙ ap (λ (t : Texts). with_bytes t State state) (more ∙ ap (λ (t : Texts). with_bytes t Report report) (reported ∙ ap (λ (t : Texts). with_bytes t Report text) first) ∙ added_more (with_bytes before Messages line) Report text report)
    ∙ followed_state before line (text ++ report) state

pub done_says : {F : Type 0} (command : Command) (before after : Outside) (rest : Option (List ℕ)) (s : Session F) (room : ℕ) (mid mid2 mid3 : Texts) (between between2 : ℕ) (text : List ℕ)
    → Begun command before rest → mid ≡ with_bytes before.written Messages (first_line command) → mid2 ≡ with_bytes mid Report text → between ≡ before.write_faults
    → AreReadTo command before.file rest after.rest s room (length (file_names command)) text
    → ToldWhole (SessionStandsFor s) (λ h. last_due command (blocks_of s) h) mid2 mid3 between between2
    → StateTold command (SessionStandsFor s) mid3 after.written between2 after.write_faults
    → Says Done (Some (Run command)) before after
done_says command before after rest s room mid mid2 mid3 between between2 text behind first reported calm read last state = (
  with_state (first_line command) (text ++ last.text) state.text,
  record {
    read = are_read command before after rest s room text behind read;
    messages = refl;
    unsaved = state.unsaved;
    defined = λ start begins contents held. let (h, stands, e) = ended_output command before after rest s room text read start begins contents held in
        ap (λ (l : List ℕ). with_state (first_line command) (text ++ l) state.text) (last.holds h stands)
        ∙ ap (λ (l : List ℕ). with_state (first_line command) (text ++ last_due command (blocks_of s) h) l) (state.holds h stands) ∙ sym e;
  },
  (all_written before.written mid mid2 mid3 after.written (first_line command) text last.text state.text first reported last.written state.written, state.calm ∙ last.calm ∙ calm),
)

halt_says : (command : Command) (before after : Outside) (between : ℕ) (halt : Halt) → between ≡ before.write_faults → IsCutShort (Some (Run command)) before after
    → HaltHasCause between after.write_faults halt → Says (status_of halt) (Some (Run command)) before after
halt_says command before after between w.Write calm short rose = (subst (λ (k : ℕ). Rose k after.write_faults) calm rose, short)
halt_says command before after between w.NoMemory calm short cause = (cause ∙ calm, short)

pub cut_says : {F : Type 0} (command : Command) (before after : Outside) (rest : Option (List ℕ)) (s : Session F) (room : ℕ) (mid mid2 : Texts) (between : ℕ) (text : List ℕ) (halt : Halt)
    → Begun command before rest → mid ≡ with_bytes before.written Messages (first_line command) → mid2 ≡ with_bytes mid Report text → between ≡ before.write_faults
    → AreReadTo command before.file rest after.rest s room (length (file_names command)) text
    → CutOff (SessionStandsFor s) (λ h. last_due command (blocks_of s) h) mid2 after.written between after.write_faults halt
    → Says (status_of halt) (Some (Run command)) before after
cut_says command before after rest s room mid mid2 between text halt behind first reported calm read last = halt_says command before after between halt calm (inr (inl (inr (record {
  front = so_far (first_line command) (text ++ last.text);
  written = last.written ∙ ap (λ (t : Texts). with_bytes t Report last.text) (reported ∙ ap (λ (t : Texts). with_bytes t Report text) first)
      ∙ added_more (with_bytes before.written Messages (first_line command)) Report text last.text ∙ followed_first before.written (first_line command) (text ++ last.text);
  read = are_read command before after rest s room text behind read;
  messages = refl;
  unsaved = λ no. refl;
  due = λ start begins contents held. let (h, stands, e) = ended_output command before after rest s room text read start begins contents held in
      subst (λ (o : Output). IsFront (so_far (first_line command) (text ++ last.text)) o) (sym e)
      (record { report = front_behind text (last_due command (blocks_of s) h) last.text (last.holds h stands); messages = front_all (first_line command); state = refl; in_order = inr refl });
})))) last.cause

-- the state was not written whole
pub state_says : {F : Type 0} (command : Command) (before after : Outside) (rest : Option (List ℕ)) (s : Session F) (room : ℕ) (mid mid2 mid3 : Texts) (between between2 : ℕ) (text : List ℕ) (halt : Halt)
    → Begun command before rest → mid ≡ with_bytes before.written Messages (first_line command) → mid2 ≡ with_bytes mid Report text → between ≡ before.write_faults
    → AreReadTo command before.file rest after.rest s room (length (file_names command)) text
    → ToldWhole (SessionStandsFor s) (λ h. last_due command (blocks_of s) h) mid2 mid3 between between2
    → StateCut command (SessionStandsFor s) mid3 after.written between2 after.write_faults halt
    → Says (status_of halt) (Some (Run command)) before after
state_says command before after rest s room mid mid2 mid3 between between2 text halt behind first reported calm read last state =
    halt_says command before after between2 halt (last.calm ∙ calm) (inr (inl (inr (record {
      front = with_state (first_line command) (text ++ last.text) state.text;
      written = all_written before.written mid mid2 mid3 after.written (first_line command) text last.text state.text first reported last.written state.written;
      read = are_read command before after rest s room text behind read;
      messages = refl;
      unsaved = state.unsaved;
      due = λ start begins contents held. let (h, stands, e) = ended_output command before after rest s room text read start begins contents held in
          let same : text ++ last.text ≡ text ++ last_due command (blocks_of s) h = ap (λ (l : List ℕ). text ++ l) (last.holds h stands) in
          subst (λ (o : Output). IsFront (with_state (first_line command) (text ++ last.text) state.text) o) (sym e)
          (record {
            report = subst (λ (l : List ℕ). StartsWith l (text ++ last.text)) same (front_all (text ++ last.text));
            messages = front_all (first_line command);
            state = state.holds h stands;
            in_order = inl same;
          });
    })))) state.cause

-- ---- troubles
short_within : (command : Command) (before after : Outside) (text : List ℕ) → HasBegun command.resume before.file → after.written ≡ with_bytes (with_bytes before.written Messages (first_line command)) Report text → IsShortTo command before.file text
    → IsCutShort (Some (Run command)) before after
unfolding course_of
short_within command before after text begun e short = inr (inl (inl (record {
  begun = begun;
  front = so_far (first_line command) text;
  written = e ∙ followed_first before.written (first_line command) text;
  messages = front_all (first_line command);
  no_state = refl;
  place = short.place;
  none_absent = front_there (helds_of command before.file) short.place short.there;
  due = λ start begins contents held files.
      let (steps, more, part, all) = short.short start (starts_begin_alike command.resume before.file start begins) contents held files in
      subst (λ (l : List ℕ). StartsWith l text)
      (sym (ap (λ (l : List Step). due_reports command (histories_of l)) all ∙ ap (due_reports command) (map-append (λ (step : Step). step.history) steps more) ∙ due_append command 1 (histories_of steps) (histories_of more)))
      (front_more (due_reports command (histories_of steps)) (due_from command (1 + length (histories_of steps)) (histories_of more)) text (part begins));
})))

refused_comes : (command : Command) (before after : Outside) (text : List ℕ) (place line : ℕ) (why : Why) → HasBegun command.resume before.file → IsRefusedAt command before.file text place line why
    → IsRefused command before after (so_far (first_line command ++ fault_line (file_name_at (file_names command) place) line why) text)
unfolding output_of course_of
refused_comes command before after text place line why begun gives = record {
  begun = begun;
  fault = record { file = place; line = line; why = why };
  named = omega (arith, gives.named, same_length command before.file);
  none_absent = front_there (helds_of command before.file) (place + 1) gives.at.there;
  messages = refl;
  no_state = refl;
  clean_before = gives.at.clean;
  first = λ start begins contents held. let (steps, told, e) = gives.at.first start begins contents held in ap (λ (t : Trail FaultAt). fault_in t.end) e;
  defined = λ start begins contents held. let (steps, told, e) = gives.at.first start (starts_begin_alike command.resume before.file start begins) contents held in
      ap (λ (l : List ℕ). so_far (first_line command ++ fault_line (file_name_at (file_names command) place) line why) l) (told begins) ∙ ap (λ (t : Trail FaultAt). output_along command (course_along t)) (sym e);
}

unstarted_comes : (command : Command) (before after : Outside) (rest : Option (List ℕ)) (text : List ℕ) (place : ℕ) → Begun command before rest → IsUnreadAt AtStart command before.file rest after.rest text place
    → HasBroken AtStart (held_file_at (helds_of command before.file) place) (Rose before.read_faults after.read_faults)
    → IsUnread command before after (so_far (first_line command ++ unread_line (file_name_at (file_names command) place)) text)
unfolding unread_output course_of
unstarted_comes command before after rest text place behind gives cause = record {
  begun = behind.begun;
  place = place;
  named = omega (arith, gives.named, same_length command before.file);
  by_the_words = gives.behind;
  by = AtStart;
  cause = cause;
  none_absent = front_there (helds_of command before.file) place gives.at.there;
  messages = refl;
  no_state = refl;
  clean_before = gives.at.clean;
  defined = λ start begins contents held. let e = gives.at.left start begins contents held in (e.0 ∙ ap (rest_behind (place - generated_count command)) (behind.left start begins), λ begun. ap (λ (l : List ℕ). so_far (first_line command ++ unread_line (file_name_at (file_names command) place)) l) (e.1 begun));
}

unread_comes : (command : Command) (before after : Outside) (rest : Option (List ℕ)) (text : List ℕ) (place : ℕ) → Begun command before rest → IsUnreadAt Within command before.file rest after.rest text place
    → HasBroken Within (held_file_at (helds_of command before.file) place) (Rose before.read_faults after.read_faults)
    → IsUnread command before after (so_far (first_line command ++ unread_line (file_name_at (file_names command) place)) text)
unfolding unread_output course_of
unread_comes command before after rest text place behind gives cause = record {
  begun = behind.begun;
  place = place;
  named = omega (arith, gives.named, same_length command before.file);
  by_the_words = gives.behind;
  by = Within;
  cause = cause;
  none_absent = front_there (helds_of command before.file) place gives.at.there;
  messages = refl;
  no_state = refl;
  clean_before = gives.at.clean;
  defined = λ start begins contents held xs holds. let (delivered, is, fine, told) = gives.at.left start begins contents held xs holds in
      (delivered, is, fine, λ begun. ap (λ (l : List ℕ). so_far (first_line command ++ unread_line (file_name_at (file_names command) place)) l) (told begun));
}

-- faults that rose in the files rose in the run
broken_since : (helds : List HeldFile) (a b c : ℕ) (trouble : FilesTrouble) → a ≤ b → HasBrokenAt helds (Rose b c) trouble → HasBrokenAt helds (Rose a c) trouble
broken_since helds a b c (t.Refused place line why) h cause = tt
broken_since helds a b c (t.Start place) h (inl absent) = inl absent
broken_since helds a b c (t.Start place) h (inr rose) = inr (rose_since a b c h rose)
broken_since helds a b c (t.Read place) h (there, rose) = (there, rose_since a b c h rose)
broken_since helds a b c t.Write h cause = tt
broken_since helds a b c t.NoMemory h cause = tt

says_of_trouble : (command : Command) (before after : Outside) (rest : Option (List ℕ)) (mid mid2 : Texts) (between : ℕ) (text : List ℕ) (trouble : FilesTrouble) (result : Ended)
    → Begun command before rest → mid ≡ with_bytes before.written Messages (first_line command) → mid2 ≡ with_bytes mid Report text
    → FilesTroubleGives command before.file rest text trouble after.rest → AreCalmUnless before.write_faults between trouble
    → HasBrokenAt (helds_of command before.file) (Rose before.read_faults after.read_faults) trouble
    → EndsBy command trouble mid2 after.written between after.write_faults result
    → Says result (Some (Run command)) before after
says_of_trouble command before after rest mid mid2 between text (t.Refused place line why) result behind first reported gives calm cause ended =
    message_says Refused (Some (Run command)) before after (first_line command) text (fault_line (file_name_at (file_names command) place) line why) mid2 between result
    (inr (refused_comes command before after text place line why behind.begun gives)) (reported ∙ ap (λ (t : Texts). with_bytes t Report text) first) calm ended
says_of_trouble command before after rest mid mid2 between text (t.Start place) result behind first reported gives calm cause ended =
    message_says Read (Some (Run command)) before after (first_line command) text (unread_line (file_name_at (file_names command) place)) mid2 between result
    (inr (unstarted_comes command before after rest text place behind gives cause)) (reported ∙ ap (λ (t : Texts). with_bytes t Report text) first) calm ended
says_of_trouble command before after rest mid mid2 between text (t.Read place) result behind first reported gives calm cause ended =
    message_says Read (Some (Run command)) before after (first_line command) text (unread_line (file_name_at (file_names command) place)) mid2 between result
    (inr (unread_comes command before after rest text place behind gives cause)) (reported ∙ ap (λ (t : Texts). with_bytes t Report text) first) calm ended
says_of_trouble command before after rest mid mid2 between text t.Write result behind first reported gives rose cause (is, e, same) =
    subst (λ (s : Ended). Says s (Some (Run command)) before after) (sym is)
    (subst (λ (k : ℕ). Rose before.write_faults k) (sym same) rose, short_within command before after text behind.begun (e ∙ reported ∙ ap (λ (t : Texts). with_bytes t Report text) first) gives)
says_of_trouble command before after rest mid mid2 between text t.NoMemory result behind first reported gives calm cause (is, e, same) =
    subst (λ (s : Ended). Says s (Some (Run command)) before after) (sym is) (same ∙ calm, short_within command before after text behind.begun (e ∙ reported ∙ ap (λ (t : Texts). with_bytes t Report text) first) gives)

calm_before : (a b c : ℕ) (trouble : FilesTrouble) → b ≡ a → AreCalmUnless b c trouble → AreCalmUnless a c trouble
calm_before a b c trouble same calm = subst (λ (k : ℕ). AreCalmUnless k c trouble) same calm

pub trouble_says : (command : Command) (before after : Outside) (rest : Option (List ℕ)) (mid mid2 : Texts) (began unread between : ℕ) (text : List ℕ) (trouble : FilesTrouble) (result : Ended)
    → Begun command before rest → before.read_faults ≤ unread → began ≡ before.write_faults → mid ≡ with_bytes before.written Messages (first_line command) → mid2 ≡ with_bytes mid Report text
    → FilesTroubleGives command before.file rest text trouble after.rest → AreCalmUnless began between trouble
    → HasBrokenAt (helds_of command before.file) (Rose unread after.read_faults) trouble
    → EndsBy command trouble mid2 after.written between after.write_faults result
    → Says result (Some (Run command)) before after
trouble_says command before after rest mid mid2 began unread between text trouble result behind later same first reported gives calm cause ended =
    says_of_trouble command before after rest mid mid2 between text trouble result behind first reported gives (calm_before before.write_faults began between trouble same calm)
    (broken_since (helds_of command before.file) before.read_faults unread after.read_faults trouble later cause) ended

pub trouble_placed : (command : Command) (file : List ℕ → HeldFile) (before rest : Option (List ℕ)) (text : List ℕ) (trouble : FilesTrouble) → FilesTroubleGives command file before text trouble rest → IsTroubleOf (length (file_names command)) trouble
trouble_placed command file before rest text (t.Refused place line why) at = omega (arith, at.named, same_length command file)
trouble_placed command file before rest text (t.Start place) at = omega (arith, at.named, same_length command file)
trouble_placed command file before rest text (t.Read place) at = omega (arith, at.named, same_length command file)
trouble_placed command file before rest text t.Write at = tt
trouble_placed command file before rest text t.NoMemory at = tt

-- the first line was not written whole
pub first_says : (command : Command) (before after : Outside) (halt : Halt) → HasBegun command.resume before.file
    → CutsText Messages (first_line command) before.written after.written before.write_faults after.write_faults halt
    → Says (status_of halt) (Some (Run command)) before after
first_says command before after w.Write begun ((n, short, e), rose) = (
  rose,
  inr (inl (inl (record {
    begun = begun;
    front = only_on Messages (take n (first_line command));
    written = e ∙ followed_only before.written Messages (take n (first_line command));
    messages = front_take n (first_line command) short;
    no_state = refl;
    place = 0;
    none_absent = front_there (helds_of command before.file) 0 (λ k h. absurd (omega arith));
    due = λ start begins contents held files. refl;
  }))),
)
first_says command before after w.NoMemory begun (e, calm) = (calm, inl e)

-- ---- all files
pub run_gives : {F : Type 0} (command : Command) (file : List ℕ → HeldFile) (before rest : Option (List ℕ)) (text : List ℕ) (result : Result (Session F) FilesTrouble) (new : Reading)
    → FilesGive command file before (length (file_names command)) text result new rest → RunGives command file before text result rest
run_gives command file before rest text (Ok session) new gives = (room_of new, gives)
run_gives command file before rest text (Err trouble) new gives = gives

-- ---- words that ask for no run
-- a run is asked for
pub run_says : (asked : Option (Request Command)) (command : Command) (before after : Outside) (result : Ended) → asked ≡ Some (Run command) → Says result (Some (Run command)) before after
    → Says result asked before after
run_says asked command before after result is says = subst (λ (r : Option (Request Command)). Says result r before after) (sym is) says

-- the run does not begin, by what is asked for
pub without_run_says : (asked : Option (Request Command)) (before after : Outside) (result : Ended)
    → EndsWithoutRun daikon asked before.written after.written before.write_faults after.write_faults result → Says result asked before after
without_run_says (Some (Run command)) before after result (is, e, calm) = subst (λ (s : Ended). Says s (Some (Run command)) before after) (sym is) (calm, inl e)
without_run_says (Some Help) before after result ended = only_says Done (Some Help) before after Report help_text result refl ended
without_run_says (Some Version) before after result ended = only_says Done (Some Version) before after Report version_text result refl ended
without_run_says None before after result ended = only_says Usage None before after Messages usage_line result refl ended

-- ---- ends behind a trouble
-- the trouble with the file at a place, by its fault
abbrev trouble_of : ℕ → FileFault → FilesTrouble
trouble_of place (one.Refused line why) = t.Refused place line why
trouble_of place one.Start = t.Start place
trouble_of place one.Read = t.Read place
trouble_of place one.NoMemory = t.NoMemory

pub fault_ends : (command : Command) (place : ℕ) (name : List ℕ) (fault : FileFault) (trouble : FilesTrouble) (old new : Texts) (before after : ℕ) (result : Ended) → name ≡ file_name_at (file_names command) place
    → trouble ≡ trouble_of place fault → EndsByFault name fault old new before after result → EndsBy command trouble old new before after result
fault_ends command place name (one.Refused line why) trouble old new before after result same is ended =
    subst (λ (t : FilesTrouble). EndsBy command t old new before after result) (sym is)
    (subst (λ (n : List ℕ). EndsByFault n (one.Refused line why) old new before after result) same ended)
fault_ends command place name one.Start trouble old new before after result same is ended =
    subst (λ (t : FilesTrouble). EndsBy command t old new before after result) (sym is)
    (subst (λ (n : List ℕ). EndsByFault n one.Start old new before after result) same ended)
fault_ends command place name one.Read trouble old new before after result same is ended =
    subst (λ (t : FilesTrouble). EndsBy command t old new before after result) (sym is)
    (subst (λ (n : List ℕ). EndsByFault n one.Read old new before after result) same ended)
fault_ends command place name one.NoMemory trouble old new before after result same is ended =
    subst (λ (t : FilesTrouble). EndsBy command t old new before after result) (sym is) ended

-- ---- behind the beginning
pub behind_of : {F : Type 0} (command : Command) (before now : Outside) (beginning : Beginning F) → HasCome command before now beginning → Begun command before now.rest
behind_of command before now beginning come = record { begun = come.begun.begun; left = come.left }

-- the first line was not written whole, behind the beginning
pub first_come : (command : Command) (before after : Outside) (halt : Halt) (mid : Texts) (began : ℕ) → HasBegun command.resume before.file → mid ≡ before.written → began ≡ before.write_faults
    → CutsText Messages (first_line command) mid after.written began after.write_faults halt → Says (status_of halt) (Some (Run command)) before after
first_come command before after halt mid began begun same calm cut =
    first_says command before after halt begun
    (subst (λ (n : ℕ). CutsText Messages (first_line command) before.written after.written n after.write_faults halt) calm
    (subst (λ (t : Texts). CutsText Messages (first_line command) t after.written began after.write_faults halt) same cut))

-- ---- a run that does not begin
refused_begin : (command : Command) (before after : Outside) (name : List ℕ) (why : Why) → command.resume ≡ Some name
    → IsRefusedState (before.file name) why
    → IsStateRefused command before (only_on Messages (fault_line (state_name command) 0 why))
refused_begin command before after name why named gives = record {
  name = name;
  named = named;
  there = gives.0;
  why = why;
  of_state = gives.1;
  fault = gives.2;
  message = ap (λ (o : Option (List ℕ)). only_on Messages (fault_line (unwrap_or o []) 0 why)) named;
}

unread_begin : (command : Command) (before after : Outside) (name : List ℕ) (by : Break) → command.resume ≡ Some name
    → HasBroken by (before.file name) (Rose before.read_faults after.read_faults) → StateUnreadGives by (before.file name) before.rest after.rest
    → IsStateUnread command before after (only_on Messages (unread_line (state_name command)))
unread_begin command before after name by named cause left = record {
  name = name;
  named = named;
  by = by;
  cause = cause;
  left = left;
  message = ap (λ (o : Option (List ℕ)). only_on Messages (unread_line (unwrap_or o []))) named;
}

unbegun_of : (command : Command) (before after : Outside) (resume : Option (List ℕ)) (fault : FileFault) (result : Ended) → command.resume ≡ resume
    → StartFaultGives resume before.file (Rose before.read_faults after.read_faults) before.rest after.rest fault
    → EndsByFault (state_name command) fault before.written after.written before.write_faults after.write_faults result → Says result (Some (Run command)) before after
unbegun_of command before after None (one.Refused line why) result named gives ended = absurd (cc (gives))
unbegun_of command before after None one.Start result named gives ended = absurd (cc (gives))
unbegun_of command before after None one.Read result named gives ended = absurd (cc (gives))
unbegun_of command before after None one.NoMemory result named gives (is, e, calm) = subst (λ (s : Ended). Says s (Some (Run command)) before after) (sym is) (calm, inl e)
unbegun_of command before after (Some name) (one.Refused line why) result named gives ended =
    only_says Refused (Some (Run command)) before after Messages (fault_line (state_name command) 0 why) result (inl (refused_begin command before after name why named gives.1))
    (subst (λ (n : ℕ). EndsWith Refused Messages (fault_line (state_name command) n why) before.written after.written before.write_faults after.write_faults result) gives.0 ended)
unbegun_of command before after (Some name) one.Start result named gives ended =
    only_says Read (Some (Run command)) before after Messages (unread_line (state_name command)) result (inl (unread_begin command before after name AtStart named gives.0 gives.1)) ended
unbegun_of command before after (Some name) one.Read result named gives ended =
    only_says Read (Some (Run command)) before after Messages (unread_line (state_name command)) result (inl (unread_begin command before after name Within named gives.0 gives.1)) ended
unbegun_of command before after (Some name) one.NoMemory result named gives (is, e, calm) = subst (λ (s : Ended). Says s (Some (Run command)) before after) (sym is) (calm, inl e)

-- the name is that of the state file
pub unbegun_says : (command : Command) (before after : Outside) (name : List ℕ) (fault : FileFault) (result : Ended) → name ≡ state_name command
    → StartFaultGives command.resume before.file (Rose before.read_faults after.read_faults) before.rest after.rest fault
    → EndsByFault name fault before.written after.written before.write_faults after.write_faults result → Says result (Some (Run command)) before after
unbegun_says command before after name fault result same gives ended =
    unbegun_of command before after command.resume fault result refl gives
    (subst (λ (n : List ℕ). EndsByFault n fault before.written after.written before.write_faults after.write_faults result) same ended)
