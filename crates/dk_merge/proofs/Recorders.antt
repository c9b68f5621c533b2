-- The traces of recorders, in turns.
use Rattle.std.proofs.Common.{◌≡◌, ◌≤◌, ◌<◌, ◌⊎◌, inl, inr, ℕ, List, IfSome, Option, Some, None, Ok, sym, ◌∙◌, ap, subst, arith, refl}
use Rattle.dk_blocks.specs.History.{History}
use Rattle.dk_events.specs.declared.ended.Ended.{Ended}
use Rattle.dk_events.specs.declared.ended.Ended.TheVariants.{Done, Refused, NoMemory}
use Rattle.dk_recorders.proofs.Courses.{turns_do_not_matter}
use Rattle.dk_recorders.proofs.Outputs.{turns_write_the_same}
use Rattle.dk_recorders.specs.Laws.{TellsAtTheEnd, history_of}
use Rattle.dk_recorders.specs.Recorders.{AreRecorders, text_by_file}
use Rattle.dk_driver.specs.Files.{FaultAt}
use Rattle.dk_run.specs.Courses.{fault_in}
use Rattle.dk_program.specs.Ending.{EndsWithoutRun}
use Rattle.dk_program.specs.Moments.{IsCalm, Outside}
use Rattle.dk_program.specs.Outputs.{Output, texts_followed_by}
use Rattle.dk_turns.specs.Turns.{turns_of}
use Rattle.dk_merge.proofs.Histories.{bytes_of_front}
use Rattle.dk_merge.specs.Merged.{IsRefusedBehind, bytes_in, whole_limit}
use Rattle.dk_merge.specs.Outputs.{IsDoneOutput, IsRefusedInTurns, IsRefusedOutput, turns_command, turns_fault, turns_output}
use Rattle.dk_merge.specs.Recorders.{WritesAsWithoutTurns}
use Rattle.dk_merge.specs.Statuses.{EndsAs, IsComplete}
use Rattle.dk_merge_command_line.specs.Requests.{dk_merge}
use Rattle.dk_merge_command_line.specs.declared.command.Command.{Command}
use Rattle.dk_arguments.specs.declared.request.Request.{Request}
use Rattle.dk_arguments.specs.declared.request.Request.TheVariants.{Run, Help, Version}

tells_at_the_end : (least : ℕ) → TellsAtTheEnd (turns_command least)
tells_at_the_end least = record { every = refl; stats = refl; ignores = refl }

-- no file is refused as a whole
none_refused : (command : Command) (n : ℕ) (contents : List (List ℕ)) (output : Output) → command.turns ≡ Some n → bytes_in contents ≤ whole_limit → IsRefusedOutput command contents output → ⊥
none_refused command n contents output turns short refused = by (subst (λ (o : Option ℕ). IsRefusedBehind o refused.before refused.file refused.why) turns refused.refused) where
  by : IsRefusedBehind (Some n) refused.before refused.file refused.why → ⊥
  by (inl (is, long)) =
      let less = bytes_of_front refused.before refused.file refused.behind in
      omega (arith, less, long, short, ap bytes_in refused.all)
  by (inr (fits, none)) = none

-- a text that is accepted has no fault
no_fault : (text : List ℕ) (h : History) (fault : FaultAt) → history_of text ≡ Ok h → turns_fault text ≡ Some fault → ⊥
no_fault text h fault accepted first =
    let none : None ≡ Some fault = sym (ap fault_in accepted) ∙ first in
    absurd (cc none)

module _ (command : Command) (n : ℕ) (contents : List (List ℕ)) (h : History) (turns : command.turns ≡ Some n) (some : 0 < n)
    (accepted : history_of (text_by_file contents) ≡ Ok h) (are : AreRecorders h.table contents) where
  no_line_refused : (output : Output) → IsRefusedInTurns command contents output → ⊥
  no_line_refused output refused =
      let same : Some refused.n ≡ Some n = sym refused.turns ∙ turns in
      let number : refused.n ≡ n = cc same in
      let here = turns_do_not_matter n contents h some accepted are in
      no_fault (turns_of n contents) here.0 refused.fault here.1 (subst (λ (k : ℕ). turns_fault (turns_of k contents) ≡ Some refused.fault) number refused.first)

  done_as_without : (output : Output) → IsDoneOutput command.turns command.least contents output → output ≡ turns_output command.least (text_by_file contents)
  done_as_without output done =
      let own : IsDoneOutput (Some n) command.least contents output = subst (λ (o : Option ℕ). IsDoneOutput o command.least contents output) turns done in
      own.1 ∙ turns_write_the_same (turns_command command.least) n contents h (tells_at_the_end command.least) some accepted are

written_of : (command : Command) (before after : Outside) (result : Ended) → IfSome command.turns (λ n. 1 ≤ n) → (IsCalm before after → IsComplete command before after result)
    → WritesAsWithoutTurns (Some (Run command)) before after result
written_of command before after result some complete n contents h calm turns held short accepted are = by ((complete calm).whole contents held) where
  one : 1 ≤ n
  one = subst (λ (o : Option ℕ). IfSome o (λ k. 1 ≤ k)) turns some

  by : EndsAs Done (IsDoneOutput command.turns command.least contents) result before after ⊎ EndsAs Refused (IsRefusedOutput command contents) result before after
      ⊎ EndsAs Refused (IsRefusedInTurns command contents) result before after ⊎ (result ≡ NoMemory)
      → ((result ≡ Done) × (after.written ≡ texts_followed_by before.written (turns_output command.least (text_by_file contents)))) ⊎ (result ≡ NoMemory)
  by (inl (is, (output, done, written))) = inl (is, written ∙ ap (texts_followed_by before.written) (done_as_without command n contents h turns one accepted are output done))
  by (inr (inl (is, (output, refused, written)))) = absurd (none_refused command n contents output turns short refused)
  by (inr (inr (inl (is, (output, refused, written))))) = absurd (no_line_refused command n contents h turns one accepted are output refused)
  by (inr (inr (inr is))) = inr is

pub recorders_say : (asked : Option (Request Command)) (command : Command) (before after : Outside) (result : Ended) → asked ≡ Some (Run command) → IfSome command.turns (λ n. 1 ≤ n)
    → (IsCalm before after → IsComplete command before after result) → WritesAsWithoutTurns asked before after result
recorders_say asked command before after result is some complete = subst (λ (r : Option (Request Command)). WritesAsWithoutTurns r before after result) (sym is) (written_of command before after result some complete)

-- without a run
pub no_run_writes : (asked : Option (Request Command)) (before after : Outside) (result : Ended) → EndsWithoutRun dk_merge asked before.written after.written before.write_faults after.write_faults result
    → WritesAsWithoutTurns asked before after result
no_run_writes (Some (Run command)) before after result (is, e, calm) = λ n contents h quiet turns held short accepted are. inr is
no_run_writes (Some Help) before after result ended = tt
no_run_writes (Some Version) before after result ended = tt
no_run_writes None before after result ended = tt
