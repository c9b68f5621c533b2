-- A run over one file of traces in turns.
use Rattle.std.proofs.Common.{◌≡◌, ◌+◌, ◌-◌, ℕ, List, [], ◌∷◌, take, length, inl, inr, false, Option, Some, None, Result, Ok, Err, refl, sym, ◌∙◌, ap, subst, arith}
use Rattle.std.proofs.lemmas.List.{take-map}
use Rattle.std.specs.Io.{StartsWith}
use Rattle.std.specs.Option.{option_map_or}
use Rattle.dk_base.specs.Reading.{LineFault}
use Rattle.dk_blocks.specs.History.{History, file_ended, no_history}
use Rattle.dk_events.specs.declared.ended.Ended.TheVariants as ended
use Rattle.dk_io.specs.Outside.{HeldFile, Holds, Rose}
use Rattle.dk_io.specs.Streams.{Texts}
use Rattle.dk_io.specs.declared.outside.Stream.TheVariants.{Messages}
use Rattle.dk_base.specs.declared.why.Why.{Why}
use Rattle.dk_program.specs.Messages.{fault_line}
use Rattle.dk_program.specs.Outputs.{IsFront, Output, only_on, texts_followed_by}
use Rattle.dk_driver.specs.Files.{AreHeldFiles, FaultAt, ended_file, file_name_at}
use Rattle.dk_driver.specs.Reads.{AtStart, Break, HasBroken, Within, held_file_at}
use Rattle.dk_program.specs.Moments.{Outside}
use Rattle.dk_run.specs.Commands.{helds_of}
use Rattle.dk_driver.specs.Trails.{fault_in, then_files, total_limit, trail_of_file, trail_of_files}
use Rattle.dk_run.specs.Courses.{course_of, first_start}
use Rattle.dk_run.specs.Outputs.{output_at, output_of}
use Rattle.dk_run.specs.Statuses.{ComesTo, IsCutShort, IsUnread, Says}
use Rattle.dk_events.specs.declared.ended.Ended.{Ended}
use Rattle.dk_events.specs.declared.ended.Ended.TheVariants.{Done, Refused, Usage, Read, Write, NoMemory}
use Rattle.dk_arguments.specs.declared.request.Request.TheVariants.{Run}
use Rattle.dk_merge.proofs.Ending.{ends_early, followed_nothing, front_of_nothing, nothing_front}
use Rattle.dk_merge.specs.Outputs.{no_output, turns_command, turns_fault, turns_name, turns_output}
use Rattle.dk_merge.specs.Running.{TurnsEnd, status_over}

-- ---- the output over one file
-- its first fault is that of the file
pub first_file : (text : List ℕ) (fault : FaultAt) → turns_fault text ≡ Some fault → fault.file ≡ 0
unfolding course_of
first_file text fault e = by (trail_of_file false total_limit no_history 0 (ended_file text)).end e where
  by : (r : Result History LineFault) → fault_in (then_files 0 r (λ next. trail_of_files false (total_limit - length text) (file_ended next) (0 + 1) [])).end ≡ Some fault → fault.file ≡ 0
  by (Ok h) e = absurd (cc e)
  by (Err l) e = let same : record { file = 0; line = l.line; why = l.why } ≡ fault = cc e in ap (λ (f : FaultAt). f.file) (sym same)

-- without a fault there is no message
pub no_message : (least : ℕ) (text : List ℕ) → turns_fault text ≡ None → (turns_output least text).messages ≡ []
unfolding output_of
no_message least text none = by (course_of first_start false (ended_file text ∷ [])).after (course_of first_start false (ended_file text ∷ [])).end none where
  by : (after : List History) (end : Result History FaultAt) → fault_in end ≡ None → (output_at (turns_command least) after end).messages ≡ []
  by after (Ok h) none = refl
  by after (Err f) none = absurd (cc none)

-- with one its line is all
pub one_message : (least : ℕ) (text : List ℕ) (fault : FaultAt) → turns_fault text ≡ Some fault → turns_output least text ≡ only_on Messages (fault_line turns_name fault.line fault.why)
unfolding output_of
one_message least text fault first = by (course_of first_start false (ended_file text ∷ [])).after (course_of first_start false (ended_file text ∷ [])).end first (first_file text fault first) where
  by : (after : List History) (end : Result History FaultAt) → fault_in end ≡ Some fault → fault.file ≡ 0
      → output_at (turns_command least) after end ≡ only_on Messages (fault_line turns_name fault.line fault.why)
  by after (Ok h) is zero = absurd (cc is)
  by after (Err f) is zero =
      let same : f ≡ fault = cc is in
      ap (λ (g : FaultAt). only_on Messages (fault_line (file_name_at (turns_name ∷ []) g.file) g.line g.why)) same
      ∙ ap (λ (n : ℕ). only_on Messages (fault_line (file_name_at (turns_name ∷ []) n) fault.line fault.why)) zero

-- ---- a run of daikon
module _ (least : ℕ) (text : List ℕ) (before after : Outside) (holds : before.file turns_name ≡ Holds text) (begins : before.read_faults ≡ 0) (calm : after.read_faults ≡ 0) where
  held : AreHeldFiles (helds_of (turns_command least) before.file) (text ∷ [])
  held = ap (λ (h : HeldFile). h ∷ []) holds

  front_held : (k : ℕ) → AreHeldFiles (take k (helds_of (turns_command least) before.file)) (take k (text ∷ []))
  front_held k = ap (λ (l : List HeldFile). take k l) held ∙ take-map Holds k (text ∷ [])

  none_rose : Rose before.read_faults after.read_faults → ⊥
  none_rose rose = omega (arith, rose, begins, calm)

  not_unread : (output : Output) → IsUnread (turns_command least) before after output → ⊥
  not_unread output unread = by unread.by unread.cause where
    zero_place : unread.place ≡ 0
    zero_place = let named = unread.named in omega (arith, named)

    by : (b : Break) → HasBroken b (held_file_at (helds_of (turns_command least) before.file) unread.place) (Rose before.read_faults after.read_faults) → ⊥
    by AtStart (inl absent) = let here : held_file_at (helds_of (turns_command least) before.file) unread.place ≡ Holds text = ap (held_file_at (helds_of (turns_command least) before.file)) zero_place ∙ holds in cc (here, absent)
    by AtStart (inr rose) = none_rose rose
    by Within (there, rose) = none_rose rose

  -- how it ends, and what its output is
  comes : (status : Ended) (output : Output) → ComesTo status (Some (Run (turns_command least))) before after output → (status ≡ status_over text) × (output ≡ turns_output least text)
  comes Done output done =
      let none : turns_fault text ≡ None = done.read.clean first_start refl 1 (text ∷ []) (omega arith) held in
      (ap (λ (o : Option FaultAt). option_map_or (λ f. ended.Refused) o ended.Done) (sym none), done.defined first_start refl (text ∷ []) held)
  comes Refused output (inl state) = let named = state.named in absurd (cc named)
  comes Refused output (inr refused) =
      let named = refused.named in
      let zero : refused.fault.file ≡ 0 = omega (arith, named) in
      let front : AreHeldFiles (take (refused.fault.file + 1) (helds_of (turns_command least) before.file)) (text ∷ []) = subst (λ (k : ℕ). AreHeldFiles (take (k + 1) (helds_of (turns_command least) before.file)) (text ∷ [])) (sym zero) held in
      let first : turns_fault text ≡ Some refused.fault = refused.first first_start refl (text ∷ []) front in
      (ap (λ (o : Option FaultAt). option_map_or (λ f. ended.Refused) o ended.Done) (sym first), refused.defined first_start refl (text ∷ []) front)
  comes Usage output none = absurd none
  comes Read output (inl state) = let named = state.named in absurd (cc named)
  comes Read output (inr unread) = absurd (not_unread output unread)
  comes Write output none = absurd none
  comes NoMemory output none = absurd none

  -- where it is cut short, a front of the output was written
  cut : IsCutShort (Some (Run (turns_command least))) before after → (front : Output) × IsFront front (turns_output least text) × (after.written ≡ texts_followed_by before.written front)
  cut (inl same) = (no_output, nothing_front (turns_output least text), same ∙ followed_nothing before.written)
  cut (inr (inl (inl within))) =
      let none : within.front.report ≡ [] = front_of_nothing within.front.report (within.due first_start refl (take within.place (text ∷ [])) (front_held within.place) []) in
      let quiet : within.front.messages ≡ [] = front_of_nothing within.front.messages within.messages in (
        within.front,
        record {
          report = subst (λ (xs : List ℕ). StartsWith (turns_output least text).report xs) (sym none) refl;
          messages = subst (λ (xs : List ℕ). StartsWith (turns_output least text).messages xs) (sym quiet) refl;
          state = subst (λ (xs : List ℕ). StartsWith (turns_output least text).state xs) (sym within.no_state) refl;
          in_order = inr within.no_state;
        },
        within.written,
      )
  cut (inr (inl (inr at_end))) = (at_end.front, at_end.due first_start refl (text ∷ []) held, at_end.written)
  cut (inr (inr (status, output, came, followed))) =
      (followed.front, subst (λ (o : Output). IsFront followed.front o) (comes status output came).1 followed.is_front, followed.written)

  pub turns_end : (status : Ended) → Says status (Some (Run (turns_command least))) before after → TurnsEnd least text before.written after.written before.write_faults after.write_faults status
  turns_end Done (output, came, (written, quiet)) = let is = comes Done output came in inl (is.0, (output, is.1, written), quiet)
  turns_end Refused (output, came, (written, quiet)) = let is = comes Refused output came in inl (is.0, (output, is.1, written), quiet)
  turns_end Usage (output, came, (written, quiet)) = absurd came
  turns_end Read (output, came, (written, quiet)) = let is = comes Read output came in inl (is.0, (output, is.1, written), quiet)
  turns_end Write (rose, short) = inr (inl (refl, rose), cut short)
  turns_end NoMemory (quiet, short) = inr (inr (refl, quiet), cut short)

pub turns_early : (least : ℕ) (text : List ℕ) (old : Texts) (faults : ℕ) → TurnsEnd least text old old faults faults ended.NoMemory
turns_early least text old faults = ends_early (status_over text) (λ output. output ≡ turns_output least text) (λ front. IsFront front (turns_output least text)) old faults (nothing_front (turns_output least text))
