-- A run over files that are held comes to its end.
use Rattle.std.proofs.Common.{◌≡◌, ◌≢◌, ◌<◌, ◌⊎◌, inl, inr, ℕ, List, take, length, Option, Some, refl, sym, ◌∙◌, ap, subst, arith}
use Rattle.std.proofs.lemmas.Bool.{cases_lt}
use Rattle.std.proofs.lemmas.List.{length-take, take-take, take_all}
use Rattle.dk_events.specs.declared.ended.Ended.{Ended}
use Rattle.dk_events.specs.declared.ended.Ended.TheVariants.{Done, Refused, Usage, Read, Write, NoMemory}
use Rattle.dk_io.specs.Outside.{HeldFile, Absent, Rose}
use Rattle.dk_io.specs.declared.outside.Stream.TheVariants.{Messages}
use Rattle.dk_arguments.specs.declared.request.Request.{Request}
use Rattle.dk_arguments.specs.declared.request.Request.TheVariants.{Run}
use Rattle.dk_driver.proofs.Complete.{front_held}
use Rattle.dk_driver.specs.Files.{AreHeldFiles, file_name_at}
use Rattle.dk_driver.specs.Reads.{AtStart, Break, HasBroken, Within, held_file_at}
use Rattle.dk_program.proofs.Completing.{asked_completes}
use Rattle.dk_program.specs.Messages.{fault_line}
use Rattle.dk_program.specs.Moments.{IsCalm, Outside}
use Rattle.dk_program.specs.Outputs.{Output, only_on}
use Rattle.dk_program.specs.Statuses.{GivesOutput}
use Rattle.dk_merge.proofs.Held.{held_front, held_whole, split_at}
use Rattle.dk_merge.proofs.Taking.{helds_length}
use Rattle.dk_merge.specs.Merged.{AreTaken}
use Rattle.dk_merge.specs.Outputs.{IsDoneOutput, IsRefusedInTurns, IsRefusedOutput}
use Rattle.dk_merge.specs.Statuses.{AreRead, CompletesCalmly, EndsAs, IsCalmlyComplete, IsComplete, IsRefused, IsRefusedLater, IsUnread, Says, helds_of}
use Rattle.dk_merge_command_line.specs.declared.command.Command.{Command}

-- a file that is held is not left unread
not_unread : (command : Command) (before after : Outside) (output : Output) (n : ℕ) (contents : List (List ℕ)) → IsCalm before after → AreHeldFiles (take n (helds_of command before.file)) contents
    → (unread : IsUnread command before after output) → unread.place < n → ⊥
not_unread command before after output n contents calm held unread within = by unread.by unread.cause where
  helds : List HeldFile
  helds = helds_of command before.file

  there : held_file_at helds unread.place ≢ Absent
  there absent =
      let named = unread.named in
      let own = split_at (take n helds) contents unread.place held (omega (arith, named, within, helds_length command before.file, length-take n helds)) in
      let same = front_held helds n unread.place within in
      let holds = own.there in
      cc (absent, same, holds)

  by : (b : Break) → HasBroken b (held_file_at (helds_of command before.file) unread.place) (Rose before.read_faults after.read_faults) → ⊥
  by AtStart (inl absent) = there absent
  by AtStart (inr rose) = calm.read rose
  by Within (some, rose) = calm.read rose

-- what was told of a refused file, one of the first n
refused_output : (command : Command) (before : Outside) (output : Output) (n : ℕ) (contents : List (List ℕ)) → AreHeldFiles (take n (helds_of command before.file)) contents → (refused : IsRefused command before output)
    → refused.place < n → IsRefusedOutput command contents output
refused_output command before output n contents held refused within =
    let helds = helds_of command before.file in
    let place = refused.place in
    let named = refused.named in
    let own = split_at (take n helds) contents place held (omega (arith, named, within, helds_length command before.file, length-take n helds)) in
    let front : AreHeldFiles (take place helds) (take place contents) = sym (take-take place n helds (omega (arith, within))) ∙ held_front place (take n helds) contents held in
    record {
      before = take place contents;
      file = own.own;
      behind = own.behind;
      all = own.all;
      taken = refused.clean_before place (take place contents) (omega arith) front;
      why = refused.why;
      refused = refused.first (take place contents) own.own front (sym (front_held helds n place within) ∙ own.there);
      message = refused.message ∙ ap (λ (k : ℕ). only_on Messages (fault_line (file_name_at command.files k) 0 refused.why)) (sym own.long);
    }

later_output : (command : Command) (before after : Outside) (output : Output) (contents : List (List ℕ)) → AreHeldFiles (helds_of command before.file) contents → IsRefusedLater command before after output
    → IsRefusedInTurns command contents output
later_output command before after output contents held later = record {
  n = later.n;
  turns = later.turns;
  taken = later.read.clean (length command.files) contents (omega arith) (held_whole (length command.files) (helds_of command before.file) contents (omega (arith, helds_length command before.file)) held);
  fault = later.fault;
  first = later.first contents held;
  message = later.defined contents held;
}

module _ (command : Command) (before after : Outside) (calm : IsCalm before after) where
  -- all files are held
  whole_of : (result : Ended) → Says result (Some (Run command)) before after → (contents : List (List ℕ)) → AreHeldFiles (helds_of command before.file) contents
      → EndsAs Done (IsDoneOutput command.turns command.least contents) result before after ⊎ EndsAs Refused (IsRefusedOutput command contents) result before after
      ⊎ EndsAs Refused (IsRefusedInTurns command contents) result before after ⊎ (result ≡ NoMemory)
  whole_of Done (output, comes, written) contents held = inl (refl, (output, comes.defined contents held, written.0))
  whole_of Refused (output, inl comes, written) contents held =
      let whole = held_whole (length command.files) (helds_of command before.file) contents (omega (arith, helds_length command before.file)) held in
      inr (inl (refl, (output, refused_output command before output (length command.files) contents whole comes comes.named, written.0)))
  whole_of Refused (output, inr comes, written) contents held = inr (inr (inl (refl, (output, later_output command before after output contents held comes, written.0))))
  whole_of Usage (output, comes, written) contents held = absurd comes
  whole_of Read (output, comes, written) contents held =
      let named = comes.named in
      let whole = held_whole (length command.files) (helds_of command before.file) contents (omega (arith, helds_length command before.file)) held in
      absurd (not_unread command before after output (length command.files) contents calm whole comes named)
  whole_of Write (rose, cut) contents held = absurd (calm.write rose)
  whole_of NoMemory cut contents held = inr (inr (inr refl))

  -- the first n are, and not all of them can be taken
  all_taken : (n : ℕ) (contents : List (List ℕ)) → AreHeldFiles (take n (helds_of command before.file)) contents → AreRead command before after → AreTaken command.turns contents
  all_taken n contents held read = elim (cases_lt n (length command.files)) [
    | inl below ↦ read.clean n contents (omega (arith, below)) held
    | inr past ↦
        let all = take_all n (helds_of command before.file) (omega (arith, past, helds_length command before.file)) in
        read.clean (length command.files) contents (omega arith)
        (held_whole (length command.files) (helds_of command before.file) contents (omega (arith, helds_length command before.file)) (subst (λ (l : List HeldFile). AreHeldFiles l contents) all held))
  ]

  refused_of : (result : Ended) → Says result (Some (Run command)) before after → (n : ℕ) (contents : List (List ℕ)) → AreHeldFiles (take n (helds_of command before.file)) contents
      → (AreTaken command.turns contents → ⊥) → GivesOutput Refused (IsRefusedOutput command contents) result before after
  refused_of Done (output, comes, written) n contents held not = absurd (not (all_taken n contents held comes.read))
  refused_of Refused (output, inl comes, written) n contents held not = elim (cases_lt comes.place n) [
    | inl below ↦ inl (refl, (output, refused_output command before output n contents held comes below, written.0))
    | inr above ↦ absurd (not (comes.clean_before n contents above held))
  ]
  refused_of Refused (output, inr comes, written) n contents held not = absurd (not (all_taken n contents held comes.read))
  refused_of Usage (output, comes, written) n contents held not = absurd comes
  refused_of Read (output, comes, written) n contents held not = elim (cases_lt comes.place n) [
    | inl below ↦ absurd (not_unread command before after output n contents calm held comes below)
    | inr above ↦ absurd (not (comes.clean_before n contents above held))
  ]
  refused_of Write (rose, cut) n contents held not = absurd (calm.write rose)
  refused_of NoMemory cut n contents held not = inr refl

pub complete_of : (command : Command) (before after : Outside) (result : Ended) → Says result (Some (Run command)) before after → IsCalm before after → IsComplete command before after result
complete_of command before after result says calm = record { whole = whole_of command before after calm result says; refused = refused_of command before after calm result says }

pub complete_says : (command : Command) (request : Option (Request Command)) (before after : Outside) (result : Ended) → request ≡ Some (Run command) → Says result (Some (Run command)) before after
    → CompletesCalmly request before after result
complete_says command request before after result is says = asked_completes IsCalmlyComplete request command before after result is (complete_of command before after result says)

-- memory ran out
pub no_run_completes : (command : Command) (before after : Outside) (result : Ended) → result ≡ NoMemory → IsComplete command before after result
no_run_completes command before after result is = record { whole = λ contents held. inr (inr (inr is)); refused = λ n contents held not. inr is }
