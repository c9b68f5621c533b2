-- A run over files that are held comes to its end.
use Rattle.std.proofs.Common.{◌≡◌, ◌≤◌, ◌<◌, ◌+◌, ◌++◌, ◌-◌, inl, inr, Bool, ℕ, List, map, take, length, Option, Some, None, Result, Ok, Err, refl, sym, ◌∙◌, ap, subst, arith}
use Rattle.std.proofs.lemmas.Bool.{cases_lt}
use Rattle.std.proofs.lemmas.List.{length-take, take-map, take-take, take_all}
use Rattle.dk_base.specs.declared.why.Why.{Why}
use Rattle.dk_io.specs.Outside.{HeldFile, Holds, Rose}
use Rattle.dk_io.specs.declared.outside.Stream.TheVariants.{Messages}
use Rattle.dk_blocks.specs.History.{History}
use Rattle.dk_core.proofs.Resuming.{table_spelled}
use Rattle.dk_command_line.specs.declared.command.Command.{Command}
use Rattle.dk_arguments.specs.declared.request.Request.{Request}
use Rattle.dk_arguments.specs.declared.request.Request.TheVariants.{Run, Help, Version}
use Rattle.dk_driver.specs.Files.{AreHeldFiles, FaultAt, File, ended_file, file_name_at}
use Rattle.dk_driver.specs.Reads.{AtStart, Break, HasBroken, Within, held_file_at}
use Rattle.dk_program.specs.Messages.{fault_line}
use Rattle.dk_program.specs.Moments.{IsCalm, Outside}
use Rattle.dk_program.specs.Outputs.{Output, only_on, texts_followed_by}
use Rattle.dk_run.specs.Commands.{file_names, helds_of}
use Rattle.dk_driver.specs.Trails.{Outset, fault_in, trail_of_files}
use Rattle.dk_run.specs.Courses.{Course, course_along, course_of, first_fault}
use Rattle.dk_run.specs.Starts.{Begins, BeginsLike, HasBegun, IsRefusedAs, IsState}
use Rattle.dk_run.specs.Outputs.{first_line, output_along, output_at, output_of}
use Rattle.dk_run.specs.Statuses.{AreCleanBehind, CompletesCalmly, IsComplete, IsDone, IsRefused, IsStateRefused, IsStateUnread, IsUnread, OutputIsWritten, Says}
use Rattle.dk_events.specs.declared.ended.Ended.{Ended}
use Rattle.dk_events.specs.declared.ended.Ended.TheVariants.{Done, Refused, Usage, Read, Write, NoMemory}
use Rattle.dk_driver.proofs.Complete.{front_held, held_take, held_there, held_whole as held_front}
use Rattle.dk_driver.proofs.Trails.{trail_front}
use Rattle.dk_run.proofs.Saying.{same_length}

-- ---- later files don't change a course that has ended with a fault
fault_is : (r : Result History FaultAt) (f : FaultAt) → fault_in r ≡ Some f → r ≡ Err f
fault_is (Ok h) f e = absurd (cc (e))
fault_is (Err g) f e = cc (e)

-- the course over a front of the files that ends with a fault is that over all of them
first_front : (start : Outset) (ignores : Bool) (k : ℕ) (fs : List File) (f : FaultAt) → first_fault start ignores (take k fs) ≡ Some f → course_of start ignores (take k fs) ≡ course_of start ignores fs
unfolding course_of
first_front start ignores k fs f e = ap course_along (trail_front ignores start.room start.history 0 k fs f (fault_is (trail_of_files ignores start.room start.history 0 (take k fs)).end f e))

-- ---- files that are held
held_whole : (helds : List HeldFile) (contents : List (List ℕ)) → AreHeldFiles helds contents → AreHeldFiles (take (length helds) helds) contents
held_whole helds contents held = held_front helds contents (length helds) (omega arith) held

-- no file that is held was left unread
not_unread : (command : Command) (before after : Outside) (by : Break) (place n : ℕ) (contents : List (List ℕ)) → IsCalm before after → AreHeldFiles (take n (helds_of command before.file)) contents → place < n → place < length (file_names command)
    → HasBroken by (held_file_at (helds_of command before.file) place) (Rose before.read_faults after.read_faults) → ⊥
not_unread command before after Within place n contents calm held below named cause = calm.read cause.1
not_unread command before after AtStart place n contents calm held below named (inr rose) = calm.read rose
not_unread command before after AtStart place n contents calm held below named (inl absent) =
    let there = held_there (take n (helds_of command before.file)) contents place held (omega (arith, named, same_length command before.file, length-take n (helds_of command before.file))) in
    let same = front_held (helds_of command before.file) n place below in
    cc (absent, same, there.1)

-- of the first n files the contents are held, and they have a first fault: so the faulty one stands behind the clean ones
not_clean : (start : Outset) (ignores : Bool) (helds : List HeldFile) (k n : ℕ) (contents : List (List ℕ)) (fault : FaultAt) → AreCleanBehind start ignores helds k
    → AreHeldFiles (take n helds) contents → first_fault start ignores (map ended_file contents) ≡ Some fault → n ≤ k → ⊥
not_clean start ignores helds k n contents fault clean held first h = let none = clean n contents h held in cc (none, first)

-- ---- messages
-- files without a fault have the first line alone
clean_messages : (start : Outset) (command : Command) (files : List File) → first_fault start command.ignore_missing_entry files ≡ None → (output_of start command files).messages ≡ first_line command
unfolding output_of
clean_messages start command files none = by (course_of start command.ignore_missing_entry files).after (course_of start command.ignore_missing_entry files).end none where
  by : (after : List History) (end : Result History FaultAt) → fault_in end ≡ None → (output_at command after end).messages ≡ first_line command
  by after (Ok h) none = refl
  by after (Err fault) none = absurd (cc (none))

-- and those with one the fault's line behind it
fault_messages : (start : Outset) (command : Command) (files : List File) (fault : FaultAt) → first_fault start command.ignore_missing_entry files ≡ Some fault
    → (output_of start command files).messages ≡ first_line command ++ fault_line (file_name_at (file_names command) fault.file) fault.line fault.why
unfolding output_of
fault_messages start command files fault first = by (course_of start command.ignore_missing_entry files).after (course_of start command.ignore_missing_entry files).end first where
  by : (after : List History) (end : Result History FaultAt) → fault_in end ≡ Some fault
      → (output_at command after end).messages ≡ first_line command ++ fault_line (file_name_at (file_names command) fault.file) fault.line fault.why
  by after (Ok h) first = absurd (cc (first))
  by after (Err other) first =
      let same : other ≡ fault = cc (first) in
      ap (λ (f : FaultAt). first_line command ++ fault_line (file_name_at (file_names command) f.file) f.line f.why) same

-- what was told of a refused file holds of all files that are held
told_refused : (command : Command) (before after : Outside) (output : Output) (comes : IsRefused command before after output) (start : Outset) → BeginsLike command.resume before.file start
    → (n : ℕ) (contents : List (List ℕ)) → comes.fault.file < n → AreHeldFiles (take n (helds_of command before.file)) contents
    → (first_fault start command.ignore_missing_entry (map ended_file contents) ≡ Some comes.fault) × (Begins command.resume before.file start → output ≡ output_of start command (map ended_file contents))
unfolding output_of
told_refused command before after output comes start begins n contents h held =
    let k = comes.fault.file in
    let front : AreHeldFiles (take (k + 1) (helds_of command before.file)) (take (k + 1) contents) =
    subst (λ (l : List HeldFile). AreHeldFiles l (take (k + 1) contents)) (take-take (k + 1) n (helds_of command before.file) (omega arith)) (held_take (k + 1) (take n (helds_of command before.file)) contents held) in
    let first = comes.first start begins (take (k + 1) contents) front in
    let same : course_of start command.ignore_missing_entry (map ended_file (take (k + 1) contents)) ≡ course_of start command.ignore_missing_entry (map ended_file contents) =
    ap (course_of start command.ignore_missing_entry) (sym (take-map ended_file (k + 1) contents))
    ∙ first_front start command.ignore_missing_entry (k + 1) (map ended_file contents) comes.fault (ap (first_fault start command.ignore_missing_entry) (take-map ended_file (k + 1) contents) ∙ first) in
    (ap (λ (c : Course FaultAt). fault_in c.end) (sym same) ∙ first, λ begun. comes.defined start begun (take (k + 1) contents) front ∙ ap (output_along command) same)

-- ---- the state file
-- what is a state is not refused as one
fine_state : (why : Why) (xs : List ℕ) → IsState xs → IsRefusedAs why xs → ⊥
fine_state why xs state (inl (is, long)) = omega (arith, state.0, long)
fine_state why xs state (inr (is, short, bad)) = bad state.1

-- the state file that a run begins with is there, and is one
start_state : (resume : Option (List ℕ)) (file : List ℕ → HeldFile) (start : Outset) → BeginsLike resume file start → (name : List ℕ) → resume ≡ Some name → (xs : List ℕ) × (file name ≡ Holds xs) × IsState xs
start_state None file start begins name is = absurd (cc (is))
start_state (Some other) file start (xs, holds, short, from, room) name is =
    let here : other ≡ name = cc (is) in
    (xs, ap file (sym here) ∙ holds, (short, table_spelled xs start.history from))

not_state_refused : (command : Command) (before : Outside) (output : Output) (start : Outset) → BeginsLike command.resume before.file start → IsStateRefused command before output → ⊥
not_state_refused command before output start begins refused =
    let (xs, holds, state) = start_state command.resume before.file start begins refused.name refused.named in
    fine_state refused.why xs state (refused.fault xs holds)

not_held_unread : (by : Break) (before after : Outside) (held : HeldFile) (xs : List ℕ) → IsCalm before after → held ≡ Holds xs → HasBroken by held (Rose before.read_faults after.read_faults) → ⊥
not_held_unread AtStart before after held xs calm holds (inl absent) = cc (holds, absent)
not_held_unread AtStart before after held xs calm holds (inr rose) = calm.read rose
not_held_unread Within before after held xs calm holds (there, rose) = calm.read rose

not_state_unread : (command : Command) (before after : Outside) (output : Output) (start : Outset) → IsCalm before after → BeginsLike command.resume before.file start → IsStateUnread command before after output → ⊥
not_state_unread command before after output start calm begins unread =
    let (xs, holds, state) = start_state command.resume before.file start begins unread.name unread.named in
    not_held_unread unread.by before after (before.file unread.name) xs calm holds unread.cause

-- a run that has begun did so with a state
begun_state : (resume : Option (List ℕ)) (file : List ℕ → HeldFile) (name xs : List ℕ) (why : Why) → HasBegun resume file → resume ≡ Some name → file name ≡ Holds xs → IsRefusedAs why xs → ⊥
begun_state None file name xs why begun is holds bad = cc (is)
begun_state (Some other) file name xs why begun is holds bad =
    let here : other ≡ name = cc (is) in
    fine_state why xs (begun.is_state xs (ap file here ∙ holds)) bad

same_why : (a b : Why) (xs : List ℕ) → IsRefusedAs a xs → IsRefusedAs b xs → a ≡ b
same_why a b xs (inl (is, long)) (inl (same, more)) = is ∙ sym same
same_why a b xs (inl (is, long)) (inr (same, short, bad)) = absurd (omega (arith, long, short))
same_why a b xs (inr (is, short, bad)) (inl (same, long)) = absurd (omega (arith, long, short))
same_why a b xs (inr (is, short, bad)) (inr (same, more, worse)) = is ∙ sym same

-- ---- what each status says
done_of : (command : Command) (before after : Outside) (output : Output) → IsDone command before after output → OutputIsWritten before after output → IsComplete command before after Done
done_of command before after output comes written = record {
  done = λ start begins contents held none. inl (
    refl,
    (
      output,
      record { messages = comes.messages ∙ sym (clean_messages start command (map ended_file contents) none); whole = λ begun. comes.defined start begun contents held },
      written.0,
    ),
  );
  refused = λ start begins n contents fault held first. elim (cases_lt n (length (helds_of command before.file))) [
    | inl below ↦ absurd (not_clean start command.ignore_missing_entry (helds_of command before.file) (length (helds_of command before.file)) n contents fault (comes.read.clean start begins) held first (omega arith))
    | inr above ↦
        let all = take_all n (helds_of command before.file) (omega arith) in
        let whole_held : AreHeldFiles (take (length (helds_of command before.file)) (helds_of command before.file)) contents =
        held_whole (helds_of command before.file) contents (subst (λ (l : List HeldFile). AreHeldFiles l contents) all held) in
        absurd (not_clean start command.ignore_missing_entry (helds_of command before.file) (length (helds_of command before.file)) (length (helds_of command before.file)) contents fault (comes.read.clean start begins) whole_held first (omega arith))
  ];
  state_refused = λ name xs why named holds bad. absurd (begun_state command.resume before.file name xs why comes.read.begun named holds bad);
}

refused_of : (command : Command) (before after : Outside) (output : Output) → IsRefused command before after output → OutputIsWritten before after output → IsComplete command before after Refused
refused_of command before after output comes written = record {
  done = λ start begins contents held none.
      let told = told_refused command before after output comes start begins (length (helds_of command before.file)) contents (omega (arith, comes.named, same_length command before.file)) (held_whole (helds_of command before.file) contents held) in
      absurd (cc (none, told.0));
  refused = λ start begins n contents fault held first. elim (cases_lt comes.fault.file n) [
    | inl below ↦
        let told = told_refused command before after output comes start begins n contents below held in
        inl (
          refl,
          (output, record { messages = comes.messages ∙ sym (fault_messages start command (map ended_file contents) comes.fault told.0); whole = told.1 }, written.0),
        )
    | inr above ↦ absurd (not_clean start command.ignore_missing_entry (helds_of command before.file) comes.fault.file n contents fault (comes.clean_before start begins) held first above)
  ];
  state_refused = λ name xs why named holds bad. absurd (begun_state command.resume before.file name xs why comes.begun named holds bad);
}

state_refused_of : (command : Command) (before after : Outside) (output : Output) → IsStateRefused command before output → OutputIsWritten before after output → IsComplete command before after Refused
state_refused_of command before after output comes written = record {
  done = λ start begins contents held none. absurd (not_state_refused command before output start begins comes);
  refused = λ start begins n contents fault held first. absurd (not_state_refused command before output start begins comes);
  state_refused = λ name xs why named holds bad.
      let here : comes.name ≡ name = let e = sym comes.named ∙ named in cc (e) in
      let same = same_why comes.why why xs (comes.fault xs (ap before.file here ∙ holds)) bad in
      inl (
        refl,
        written.0 ∙ ap (texts_followed_by before.written) (comes.message ∙ ap (λ (n : List ℕ). only_on Messages (fault_line n 0 comes.why)) here ∙ ap (λ (w : Why). only_on Messages (fault_line name 0 w)) same),
      );
}

unread_of : (command : Command) (before after : Outside) (output : Output) → IsUnread command before after output → IsCalm before after → IsComplete command before after Read
unread_of command before after output comes calm = record {
  done = λ start begins contents held none. absurd (not_unread command before after comes.by comes.place (length (helds_of command before.file)) contents calm (held_whole (helds_of command before.file) contents held)
      (omega (arith, comes.named, same_length command before.file)) comes.named comes.cause);
  refused = λ start begins n contents fault held first. elim (cases_lt comes.place n) [
    | inl below ↦ absurd (not_unread command before after comes.by comes.place n contents calm held below comes.named comes.cause)
    | inr above ↦ absurd (not_clean start command.ignore_missing_entry (helds_of command before.file) comes.place n contents fault (comes.clean_before start begins) held first above)
  ];
  state_refused = λ name xs why named holds bad. absurd (begun_state command.resume before.file name xs why comes.begun named holds bad);
}

state_unread_of : (command : Command) (before after : Outside) (output : Output) → IsStateUnread command before after output → IsCalm before after → IsComplete command before after Read
state_unread_of command before after output comes calm = record {
  done = λ start begins contents held none. absurd (not_state_unread command before after output start calm begins comes);
  refused = λ start begins n contents fault held first. absurd (not_state_unread command before after output start calm begins comes);
  state_refused = λ name xs why named holds bad.
      let here : comes.name ≡ name = let e = sym comes.named ∙ named in cc (e) in
      absurd (not_held_unread comes.by before after (before.file comes.name) xs calm (ap before.file here ∙ holds) comes.cause);
}

pub complete_of : (command : Command) (before after : Outside) (result : Ended) → Says result (Some (Run command)) before after → IsCalm before after → IsComplete command before after result
complete_of command before after Done (output, comes, written) calm = done_of command before after output comes written
complete_of command before after Refused (output, inl comes, written) calm = state_refused_of command before after output comes written
complete_of command before after Refused (output, inr comes, written) calm = refused_of command before after output comes written
complete_of command before after Usage (output, comes, written) calm = absurd comes
complete_of command before after Read (output, inl comes, written) calm = state_unread_of command before after output comes calm
complete_of command before after Read (output, inr comes, written) calm = unread_of command before after output comes calm
complete_of command before after Write (rose, cut) calm = absurd (calm.write rose)
complete_of command before after NoMemory cut calm = record {
  done = λ start begins contents held none. inr refl;
  refused = λ start begins n contents fault held first. inr refl;
  state_refused = λ name xs why named holds bad. inr refl;
}

pub complete_says : (asked : Option (Request Command)) (command : Command) (before after : Outside) (result : Ended) → asked ≡ Some (Run command) → Says result (Some (Run command)) before after
    → CompletesCalmly asked before after result
complete_says asked command before after result is says = subst (λ (r : Option (Request Command)). CompletesCalmly r before after result) (sym is) (complete_of command before after result says)

-- what is asked for is done or refused; of a run that does not begin this is all
pub without_run_completes : (asked : Option (Request Command)) (before after : Outside) (result : Ended) → Says result asked before after → CompletesCalmly asked before after result
without_run_completes (Some (Run command)) before after result says = complete_of command before after result says
without_run_completes (Some Help) before after result says = tt
without_run_completes (Some Version) before after result says = tt
without_run_completes None before after result says = tt
