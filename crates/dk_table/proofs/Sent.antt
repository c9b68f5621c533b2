-- Texts that are written up to a refusal.
use Rattle.std.proofs.Common.{◌≡◌, ◌+◌, ◌∙◌, ◌++◌, [], ℕ, List, Option, Some, Result, Ok, Err, append-nil, length, length-append, take, refl, sym, ap, subst, arith}
use Rattle.std.proofs.Math.Seq.{take-append-add}
use Rattle.std.proofs.lemmas.List.{take-append-le}
use Rattle.dk_io.specs.Outside.{Rose}
use Rattle.dk_io.specs.Streams.{AddsFront, Texts, with_bytes}
use Rattle.dk_io.specs.declared.outside.Stream.TheVariants.{Report}
use Rattle.dk_io.proofs.Writing.{added_nil, added_twice}
use Rattle.dk_table.specs.Streams.Stops.{Gathers, Writes, stop_of_halt}
use Rattle.dk_table.specs.Writing.{HaltHasCause, IsTold}
use Rattle.dk_table.specs.declared.faults.Refusal.{Refusal}
use Rattle.dk_table.specs.declared.streaming.stops.Stop.{Stop}
use Rattle.dk_table.specs.declared.streaming.stops.Stop.TheVariants.{NoMemory, Refused, Unread, Unstarted, Write}
use Rattle.dk_table.specs.declared.writing.Halt.{Halt}
use Rattle.dk_table.specs.declared.writing.Halt.TheVariants as halt
use Rattle.dk_table.proofs.Pieces.{cut_then, told_all, told_as, told_then}

-- ---- fronts
pub adds_none : (old : Texts) (due : List ℕ) → AddsFront old old Report due
adds_none old due = (0, omega arith, sym (added_nil old Report))

pub adds_more : (old new : Texts) (due more : List ℕ) → AddsFront old new Report due → AddsFront old new Report (due ++ more)
adds_more old new due more (n, within, is) =
    (n, omega (arith, within, length-append due more), is ∙ ap (with_bytes old Report) (sym (take-append-le n due more within)))

pub adds_after : (due more : List ℕ) (base mid new : Texts) → mid ≡ with_bytes base Report due → AddsFront mid new Report more → AddsFront base new Report (due ++ more)
adds_after due more base mid new so_far (n, within, is) = (
  length due + n,
  omega (arith, within, length-append due more),
  is ∙ ap (λ (t : Texts). with_bytes t Report (take n more)) so_far ∙ added_twice base Report due (take n more)
      ∙ ap (with_bytes base Report) (sym (take-append-add due more n)),
)

-- ---- behind what was written before
pub writes_after : {A : Type 0} (r : Result A Stop) (due more : List ℕ) (refusal : Option Refusal) (base mid new : Texts) (start between after : ℕ)
    → mid ≡ with_bytes base Report due → between ≡ start → Writes more refusal mid new between after r → Writes (due ++ more) refusal base new start after r
writes_after (Ok u) due more refusal base mid new start between after so_far calm (none, is, still) =
    (none, is ∙ ap (λ (t : Texts). with_bytes t Report more) so_far ∙ added_twice base Report due more, still ∙ calm)
writes_after (Err (Refused r)) due more refusal base mid new start between after so_far calm (some, is, still) =
    (some, is ∙ ap (λ (t : Texts). with_bytes t Report more) so_far ∙ added_twice base Report due more, still ∙ calm)
writes_after (Err (Unstarted place)) due more refusal base mid new start between after so_far calm h = h
writes_after (Err (Unread place)) due more refusal base mid new start between after so_far calm h = h
writes_after (Err Write) due more refusal base mid new start between after so_far calm (front, rose) =
    (adds_after due more base mid new so_far front, subst (λ (n : ℕ). Rose n after) calm rose)
writes_after (Err NoMemory) due more refusal base mid new start between after so_far calm (front, still) =
    (adds_after due more base mid new so_far front, still ∙ calm)

-- ---- what is gathered
pub gathers_none : (A : Type 0) (due left : List ℕ) (refusal : Option Refusal) (old : Texts) (now : ℕ) → Gathers {A = A} due refusal left old old now now (Err NoMemory)
gathers_none A due left refusal old now = (adds_none old due, refl)

pub gathers_halt : (A : Type 0) (why : Halt) (due left : List ℕ) (refusal : Option Refusal) (old new : Texts) (before after : ℕ)
    → AddsFront old new Report due × HaltHasCause before after why → Gathers {A = A} due refusal left old new before after (Err (stop_of_halt why))
gathers_halt A halt.Write due left refusal old new before after h = h
gathers_halt A halt.NoMemory due left refusal old new before after h = h

-- a text that is due, as another
pub gathers_as : {A : Type 0} (r : Result A Stop) (due other left : List ℕ) (refusal : Option Refusal) (old new : Texts) (before after : ℕ) → due ≡ other
    → Gathers due refusal left old new before after r → Gathers other refusal left old new before after r
gathers_as r due other left refusal old new before after same h = subst (λ (l : List ℕ). Gathers l refusal left old new before after r) same h

module _ (whole pending own more all : List ℕ) (refusal whole_refusal : Option Refusal) (old mid new : Texts) (before between after : ℕ)
    (parts : pending ++ all ≡ (pending ++ own) ++ more) (so_far : IsTold whole (pending ++ all) old mid before between) where
  apart : IsTold whole ((pending ++ own) ++ more) old mid before between
  apart = told_as whole (pending ++ all) ((pending ++ own) ++ more) old mid before between parts so_far

  -- the next part was gathered
  pub gathered_next : (left : List ℕ) → IsTold (pending ++ own) left mid new between after → IsTold whole (left ++ more) old new before after
  gathered_next left told = told_then whole (pending ++ own) more old mid new before between after apart left told

  -- a stop within it
  pub gathered_stop : (A B : Type 0) (stop : Stop) (left : List ℕ) → ((r : Refusal) → refusal ≡ Some r → (whole_refusal ≡ Some r) × (more ≡ []))
      → Gathers {A = A} (pending ++ own) refusal left mid new between after (Err stop) → Gathers {A = B} whole whole_refusal left old new before after (Err stop)
  gathered_stop A B (Refused r) left known (some, told) =
      let (all_some, none) = known r some in
      (all_some, told_as whole (left ++ more) left old new before after (ap (λ (l : List ℕ). left ++ l) none ∙ append-nil left) (gathered_next left told))
  gathered_stop A B (Unstarted place) left known h = h
  gathered_stop A B (Unread place) left known h = h
  gathered_stop A B Write left known h = cut_then whole (pending ++ own) more old mid new before between after apart halt.Write h
  gathered_stop A B NoMemory left known h = cut_then whole (pending ++ own) more old mid new before between after apart halt.NoMemory h

-- ---- a part that was written
module _ (whole own more all : List ℕ) (refusal whole_refusal : Option Refusal) (old mid new : Texts) (before between after : ℕ)
    (parts : all ≡ own ++ more) (so_far : IsTold whole all old mid before between) where
  pub written_next : new ≡ with_bytes mid Report own → after ≡ between → IsTold whole more old new before after
  written_next is calm =
      told_then whole own more old mid new before between after (told_as whole all (own ++ more) old mid before between parts so_far) [] (own, append-nil own, is, calm)

  pub written_stop : (A B : Type 0) (stop : Stop) → ((r : Refusal) → refusal ≡ Some r → (whole_refusal ≡ Some r) × (more ≡ []))
      → Writes {A = A} own refusal mid new between after (Err stop) → Writes {A = B} whole whole_refusal old new before after (Err stop)
  written_stop A B (Refused r) known (some, is, calm) =
      let (all_some, none) = known r some in
      let done = told_all whole old new before after (told_as whole more [] old new before after none (written_next is calm)) in
      (all_some, done.0, done.1)
  written_stop A B (Unstarted place) known h = h
  written_stop A B (Unread place) known h = h
  written_stop A B Write known h = cut_then whole own more old mid new before between after (told_as whole all (own ++ more) old mid before between parts so_far) halt.Write h
  written_stop A B NoMemory known h = cut_then whole own more old mid new before between after (told_as whole all (own ++ more) old mid before between parts so_far) halt.NoMemory h

-- ---- the last part
pub sent_last : (whole left last : List ℕ) (old mid new : Texts) (before between after : ℕ) → IsTold whole left old mid before between
    → IsTold left last mid new between after → last ≡ [] → (new ≡ with_bytes old Report whole) × (after ≡ before)
sent_last whole left last old mid new before between after so_far told none =
    let all : IsTold whole (left ++ []) old mid before between = told_as whole left (left ++ []) old mid before between (sym (append-nil left)) so_far in
    let done : IsTold whole (last ++ []) old new before after = told_then whole left [] old mid new before between after all last told in
    told_all whole old new before after (told_as whole (last ++ []) [] old new before after (append-nil last ∙ none) done)

pub halt_last : (A : Type 0) (why : Halt) (whole left : List ℕ) (refusal : Option Refusal) (old mid new : Texts) (before between after : ℕ) → IsTold whole left old mid before between
    → AddsFront mid new Report left × HaltHasCause between after why → Writes {A = A} whole refusal old new before after (Err (stop_of_halt why))
halt_last A why whole left refusal old mid new before between after so_far h =
    by why (cut_then whole left [] old mid new before between after (told_as whole left (left ++ []) old mid before between (sym (append-nil left)) so_far) why h)
  where
    by : (w : Halt) → AddsFront old new Report whole × HaltHasCause before after w → Writes {A = A} whole refusal old new before after (Err (stop_of_halt w))
    by halt.Write h = h
    by halt.NoMemory h = h
