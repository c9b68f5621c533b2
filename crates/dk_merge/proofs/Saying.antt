-- What each end of a run says.
use Rattle.std.proofs.Common.{◌≡◌, ◌<◌, ◌+◌, ◌⊎◌, inl, inr, ℕ, List, [], length, Option, Some, None, refl, sym, ◌∙◌, ap, subst, arith}
use Rattle.std.specs.Option.{option_map_or}
use Rattle.dk_base.specs.declared.why.Why.{Why}
use Rattle.dk_events.specs.declared.ended.Ended.{Ended}
use Rattle.dk_events.specs.declared.ended.Ended.TheVariants.{Done, Refused, Usage, Read, Write, NoMemory}
use Rattle.dk_io.specs.Outside.{Rose}
use Rattle.dk_io.specs.declared.outside.Stream.TheVariants.{Messages}
use Rattle.dk_arguments.specs.declared.request.Request.{Request}
use Rattle.dk_arguments.specs.declared.request.Request.TheVariants.{Run}
use Rattle.dk_driver.specs.Files.{AreHeldFiles, FaultAt as LineOfFile, file_name_at}
use Rattle.dk_driver.specs.Reads.{AtStart, Break, Within}
use Rattle.dk_driver.specs.declared.fault.FileFault.{FileFault}
use Rattle.dk_driver.specs.declared.fault.FileFault.TheVariants as f
use Rattle.dk_program.proofs.Saying.{all_there, front_there, memory_says, only_says}
use Rattle.dk_program.specs.Ending.{EndsByFault, EndsWith}
use Rattle.dk_program.specs.Messages.{fault_line, unread_line}
use Rattle.dk_program.specs.Moments.{Outside}
use Rattle.dk_program.specs.Outputs.{IsFront, Output, only_on}
use Rattle.dk_program.specs.Statuses.{OutputIsWritten, StatusSays}
use Rattle.dk_turns.specs.Turns.{turns_of}
use Rattle.dk_merge.proofs.Held.{held_whole}
use Rattle.dk_merge.proofs.Taking.{helds_length}
use Rattle.dk_merge.proofs.TurnsRuns.{no_message, one_message}
use Rattle.dk_merge.specs.Ending.{EndsAmong}
use Rattle.dk_merge.specs.Gathering.{AreReadTo, FaultAtGives, HoldsAll, IsRefusedAt, IsUnreadAt, state_of, turns_by}
use Rattle.dk_merge.specs.Merged.{AreMergedTo}
use Rattle.dk_merge.specs.Outputs.{IsDoneFront, IsDoneOutput, IsMergedFront, IsMergedOutput, IsStateFront, IsStateOutput, turns_fault, turns_output}
use Rattle.dk_merge.specs.Running.{GatheredEnds, TurnsEnd}
use Rattle.dk_merge.specs.Statuses.{AreRead, ComesTo, IsCutAtEnd, IsRefused, IsRefusedLater, IsUnread, RunComesTo, Says, helds_of}
use Rattle.dk_merge.specs.declared.gathered.Gathered.{Gathered}
use Rattle.dk_merge.specs.declared.gathered.Gathered.TheVariants.{State, Traces}
use Rattle.dk_merge.specs.declared.gathering.Gathering.{Gathering}
use Rattle.dk_merge_command_line.specs.declared.command.Command.{Command}

-- what is said of an end, where nothing else was read
pub says_more : (request : Option (Request Command)) (before after : Outside) (result : Ended) → StatusSays (ComesTo request) result before after → Says result request before after
says_more request before after Done says = says
says_more request before after Refused says = says
says_more request before after Usage says = says
says_more request before after Read says = says
says_more request before after Write (rose, cut) = (rose, inl cut)
says_more request before after NoMemory (calm, cut) = (calm, inl cut)

pub run_says : (asked : Option (Request Command)) (command : Command) (before after : Outside) (result : Ended) → asked ≡ Some (Run command) → Says result (Some (Run command)) before after → Says result asked before after
run_says asked command before after result is says = subst (λ (r : Option (Request Command)). Says result r before after) (sym is) says

-- ---- all files were read
all_read : (command : Command) (before after : Outside) (g : Gathering) → AreReadTo command before.file before.rest after.rest g (length command.files) → AreRead command before after
all_read command before after g read = record {
  none_absent = all_there (helds_of command before.file) (λ k h. read.there k (omega (arith, h, helds_length command before.file)));
  clean = read.clean;
  all_read = λ contents held. (read.holds contents (held_whole (length command.files) (helds_of command before.file) contents (omega (arith, helds_length command before.file)) held)).2;
}

-- a run that is cut short
cut_says : (command : Command) (before after : Outside) (result : Ended)
    → ((result ≡ Write) × Rose before.write_faults after.write_faults) ⊎ ((result ≡ NoMemory) × (after.write_faults ≡ before.write_faults)) → IsCutAtEnd command before after
    → Says result (Some (Run command)) before after
cut_says command before after result (inl (is, rose)) cut = subst (λ (s : Ended). Says s (Some (Run command)) before after) (sym is) (rose, inr cut)
cut_says command before after result (inr (is, calm)) cut = subst (λ (s : Ended). Says s (Some (Run command)) before after) (sym is) (calm, inr cut)

no_messages : (least : ℕ) (state : Option (List ℕ)) (output : Output) → IsMergedOutput least state output → output.messages ≡ []
no_messages least None output is = ap (λ (o : Output). o.messages) is
no_messages least (Some state) output is = let own : IsStateOutput least state output = is in own.messages

no_front_messages : (least : ℕ) (state : Option (List ℕ)) (front : Output) → IsMergedFront least state front → front.messages ≡ []
no_front_messages least None front is = ap (λ (o : Output). o.messages) is
no_front_messages least (Some state) front is = let own : IsStateFront least state front = is in own.messages

module _ (command : Command) (before after : Outside) (result : Ended) (read : AreRead command before after) where
  state_says : (state : Option (List ℕ)) → command.turns ≡ None → ((contents : List (List ℕ)) → AreHeldFiles (helds_of command before.file) contents → AreMergedTo contents state)
      → EndsAmong Done (IsMergedOutput command.least state) (IsMergedFront command.least state) before.written after.written before.write_faults after.write_faults result
      → Says result (Some (Run command)) before after
  state_says state none merged (inl (is, (output, own, e), calm)) =
      subst (λ (s : Ended). Says s (Some (Run command)) before after) (sym is) (
        output,
        record {
          read = read;
          messages = no_messages command.least state output own;
          defined = λ contents held. subst (λ (n : Option ℕ). IsDoneOutput n command.least contents output) (sym none) (state, merged contents held, own);
        },
        (e, calm),
      )
  state_says state none merged (inr (early, (front, own, e))) = cut_says command before after result early (record {
    read = read;
    front = front;
    written = e;
    messages = λ none_too. no_front_messages command.least state front own;
    of_output = λ contents held. subst (λ (n : Option ℕ). IsDoneFront n command.least contents front) (sym none) (state, merged contents held, own);
  })

  turns_says : (n : ℕ) (files : List (List ℕ)) → command.turns ≡ Some n → ((contents : List (List ℕ)) → AreHeldFiles (helds_of command before.file) contents → files ≡ contents)
      → TurnsEnd command.least (turns_of n files) before.written after.written before.write_faults after.write_faults result
      → Says result (Some (Run command)) before after
  turns_says n files some same (inr (early, (front, own, e))) = cut_says command before after result early (record {
    read = read;
    front = front;
    written = e;
    messages = λ none. absurd (cc (none, some));
    of_output = λ contents held. subst (λ (m : Option ℕ). IsDoneFront m command.least contents front) (sym some)
        (subst (λ (l : List (List ℕ)). IsFront front (turns_output command.least (turns_of n l))) (same contents held) own);
  })
  turns_says n files some same (inl (is, (output, own, e), calm)) = by (turns_fault (turns_of n files)) refl where
    by : (fault : Option LineOfFile) → turns_fault (turns_of n files) ≡ fault → Says result (Some (Run command)) before after
    by None none =
        let done : result ≡ Done = is ∙ ap (λ (o : Option LineOfFile). option_map_or (λ f. Refused) o Done) none in
        subst (λ (s : Ended). Says s (Some (Run command)) before after) (sym done) (
          output,
          record {
            read = read;
            messages = ap (λ (o : Output). o.messages) own ∙ no_message command.least (turns_of n files) none;
            defined = λ contents held. subst (λ (m : Option ℕ). IsDoneOutput m command.least contents output) (sym some) (
              ap (λ (l : List (List ℕ)). turns_fault (turns_of n l)) (sym (same contents held)) ∙ none,
              own ∙ ap (λ (l : List (List ℕ)). turns_output command.least (turns_of n l)) (same contents held),
            );
          },
          (e, calm),
        )
    by (Some fault) first =
        let refused : result ≡ Refused = is ∙ ap (λ (o : Option LineOfFile). option_map_or (λ f. Refused) o Done) first in
        let later : IsRefusedLater command before after output = record {
          n = n;
          turns = some;
          read = read;
          fault = fault;
          first = λ contents held. ap (λ (l : List (List ℕ)). turns_fault (turns_of n l)) (sym (same contents held)) ∙ first;
          message = own ∙ one_message command.least (turns_of n files) fault first;
          defined = λ contents held. own ∙ ap (λ (l : List (List ℕ)). turns_output command.least (turns_of n l)) (same contents held);
        } in
        subst (λ (s : Ended). Says s (Some (Run command)) before after) (sym refused) (output, inr later, (e, calm))

  gathered_says_of : (k : Gathered) → turns_by k ≡ command.turns → ((contents : List (List ℕ)) → AreHeldFiles (helds_of command before.file) contents → HoldsAll contents k)
      → GatheredEnds command.least k before.written after.written before.write_faults after.write_faults result → Says result (Some (Run command)) before after
  gathered_says_of (State states) turns holds ends = state_says (state_of states) (sym turns) holds ends
  gathered_says_of (Traces n files) turns holds ends = turns_says n files (sym turns) holds ends

pub gathered_says : (command : Command) (before after : Outside) (g : Gathering) (result : Ended) → AreReadTo command before.file before.rest after.rest g (length command.files)
    → GatheredEnds command.least g.gathered before.written after.written before.write_faults after.write_faults result → Says result (Some (Run command)) before after
gathered_says command before after g result read ends =
    gathered_says_of command before after result (all_read command before after g read) g.gathered read.turns
    (λ contents held. (read.holds contents (held_whole (length command.files) (helds_of command before.file) contents (omega (arith, helds_length command before.file)) held)).0)
    ends

-- ---- faults
refused_comes : (command : Command) (before : Outside) (place : ℕ) (why : Why) → place < length command.files → IsRefusedAt command before.file place why
    → IsRefused command before (only_on Messages (fault_line (file_name_at command.files place) 0 why))
refused_comes command before place why within at = record {
  place = place;
  named = within;
  why = why;
  reason = at.reason;
  none_absent = front_there (helds_of command before.file) (place + 1) at.there;
  clean_before = at.clean;
  first = at.first;
  message = refl;
}

unread_comes : (by : Break) (command : Command) (before after : Outside) (place : ℕ) → place < length command.files
    → IsUnreadAt by command before.file (Rose before.read_faults after.read_faults) before.rest after.rest place
    → IsUnread command before after (only_on Messages (unread_line (file_name_at command.files place)))
unread_comes by command before after place within at = record {
  place = place;
  named = within;
  by = by;
  cause = at.cause;
  none_absent = front_there (helds_of command before.file) place at.there;
  clean_before = at.clean;
  left = at.left;
  message = refl;
}

module _ (command : Command) (before after : Outside) (place : ℕ) (result : Ended) (within : place < length command.files) where
  -- a message alone
  told_says : (status : Ended) (text : List ℕ) → ((b a : Outside) (output : Output) → ComesTo (Some (Run command)) status b a output → OutputIsWritten b a output → StatusSays (ComesTo (Some (Run command))) status b a)
      → RunComesTo command status before after (only_on Messages text)
      → EndsWith status Messages text before.written after.written before.write_faults after.write_faults result → Says result (Some (Run command)) before after
  told_says status text said comes ended =
      says_more (Some (Run command)) before after result (only_says (ComesTo (Some (Run command))) before after status Messages text result said comes ended)

  fault_of_says : (fault : FileFault) → FaultAtGives command before.file (Rose before.read_faults after.read_faults) before.rest after.rest place fault
      → EndsByFault (file_name_at command.files place) fault before.written after.written before.write_faults after.write_faults result → Says result (Some (Run command)) before after
  fault_of_says (f.Refused line why) (whole, gives) ended =
      let told = subst (λ (n : ℕ). EndsByFault (file_name_at command.files place) (f.Refused n why) before.written after.written before.write_faults after.write_faults result) whole ended in
      told_says Refused (fault_line (file_name_at command.files place) 0 why) (λ b a output comes e. (output, comes, e)) (inl (refused_comes command before place why within gives)) told
  fault_of_says f.Start gives ended =
      told_says Read (unread_line (file_name_at command.files place)) (λ b a output comes e. (output, comes, e)) (unread_comes AtStart command before after place within gives) ended
  fault_of_says f.Read gives ended =
      told_says Read (unread_line (file_name_at command.files place)) (λ b a output comes e. (output, comes, e)) (unread_comes Within command before after place within gives) ended
  fault_of_says f.NoMemory gives (is, e, calm) =
      says_more (Some (Run command)) before after result (memory_says (ComesTo (Some (Run command))) before after result is e calm)

  pub fault_says : (fault : FileFault) (name : List ℕ) → name ≡ file_name_at command.files place
      → FaultAtGives command before.file (Rose before.read_faults after.read_faults) before.rest after.rest place fault
      → EndsByFault name fault before.written after.written before.write_faults after.write_faults result → Says result (Some (Run command)) before after
  fault_says fault name is gives ended =
      fault_of_says fault gives (subst (λ (n : List ℕ). EndsByFault n fault before.written after.written before.write_faults after.write_faults result) is ended)
