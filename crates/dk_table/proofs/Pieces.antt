-- A text that is written by pieces.
use Rattle.std.proofs.Common.{◌≡◌, ◌+◌, ◌∙◌, ◌++◌, [], ℕ, List, append_assoc, append-nil, length, length-append, take, refl, sym, ap, subst, arith}
use Rattle.std.specs.Prelude.{OnOk, Result, Ok, Err}
use Rattle.std.proofs.Math.Seq.{take-append-add}
use Rattle.std.proofs.lemmas.List.{take-append-le}
use Rattle.dk_io.specs.Outside.{Rose}
use Rattle.dk_io.specs.Streams.{AddsFront, Texts, with_bytes}
use Rattle.dk_io.specs.declared.outside.Stream.TheVariants.{Report}
use Rattle.dk_io.proofs.Writing.{added_nil, added_twice}
use Rattle.dk_table.specs.Writing.{HaltHasCause, IsTold, Tells, TellsFront}
use Rattle.dk_table.specs.declared.writing.Halt.{Halt}
use Rattle.dk_table.specs.declared.writing.Halt.TheVariants.{Write, NoMemory}

-- nothing was written
pub told_nothing : (due : List ℕ) (old : Texts) (now : ℕ) → IsTold due due old old now now
told_nothing due old now = ([], refl, sym (added_nil old Report), refl)

-- what is left, as another text
pub told_as : (due rest left : List ℕ) (old new : Texts) (before after : ℕ) → rest ≡ left → IsTold due rest old new before after → IsTold due left old new before after
told_as due rest left old new before after same (front, e, is, calm) = (front, ap (λ (l : List ℕ). front ++ l) (sym same) ∙ e, is, calm)

module _ (whole due more : List ℕ) (old mid new : Texts) (before between after : ℕ) (so_far : IsTold whole (due ++ more) old mid before between) where
  -- a part was written behind what was
  pub told_then : (left : List ℕ) → IsTold due left mid new between after → IsTold whole (left ++ more) old new before after
  told_then left (then, f, to, still) =
      let (front, e, is, calm) = so_far in (
        front ++ then,
        append_assoc front then (left ++ more) ∙ ap (λ (l : List ℕ). front ++ l) (sym (append_assoc then left more) ∙ ap (λ (l : List ℕ). l ++ more) f) ∙ e,
        to ∙ ap (λ (t : Texts). with_bytes t Report then) is ∙ added_twice old Report front then,
        still ∙ calm,
      )

  caused : (halt : Halt) → between ≡ before → HaltHasCause between after halt → HaltHasCause before after halt
  caused Write same rose = subst (λ (n : ℕ). Rose n after) same rose
  caused NoMemory same calm = calm ∙ same

  -- a part was not written whole
  pub cut_then : (halt : Halt) → AddsFront mid new Report due × HaltHasCause between after halt → AddsFront old new Report whole × HaltHasCause before after halt
  cut_then halt ((n, within, to), cause) =
      let (front, e, is, calm) = so_far in
      let whole_length : length front + (length due + length more) ≡ length whole =
      sym (length-append front (due ++ more) ∙ ap (λ (k : ℕ). length front + k) (length-append due more)) ∙ ap length e in
      let taken : front ++ take n due ≡ take (length front + n) whole =
      sym (ap (take (length front + n)) (sym e) ∙ take-append-add front (due ++ more) n ∙ ap (λ (l : List ℕ). front ++ l) (take-append-le n due more within)) in (
        (
          length front + n,
          omega (arith, whole_length, within),
          to ∙ ap (λ (t : Texts). with_bytes t Report (take n due)) is ∙ added_twice old Report front (take n due) ∙ ap (with_bytes old Report) taken,
        ),
        caused halt calm cause,
      )

-- memory ran out between two parts
pub cut_here : (whole left : List ℕ) (old new : Texts) (before after : ℕ) → IsTold whole left old new before after → AddsFront old new Report whole × (after ≡ before)
cut_here whole left old new before after so_far =
    cut_then whole [] left old new new before after after so_far NoMemory ((0, omega arith, sym (added_nil new Report)), refl)

-- all of it was written
pub told_all : (whole : List ℕ) (old new : Texts) (before after : ℕ) → IsTold whole [] old new before after → (new ≡ with_bytes old Report whole) × (after ≡ before)
told_all whole old new before after (front, e, is, calm) = (is ∙ ap (with_bytes old Report) (sym (append-nil front) ∙ e), calm)

-- the last part was written, or it was not
pub wrote_last : {A : Type 0} (r : Result A Halt) (whole left last : List ℕ) (old mid new : Texts) (before between after : ℕ) → IsTold whole left old mid before between
    → Tells left last mid new between after r → OnOk r (last ≡ []) → TellsFront whole old new before after r
wrote_last (Ok u) whole left last old mid new before between after so_far told none =
    let all : IsTold whole (left ++ []) old mid before between = told_as whole left (left ++ []) old mid before between (sym (append-nil left)) so_far in
    let done : IsTold whole (last ++ []) old new before after = told_then whole left [] old mid new before between after all last told in
    told_all whole old new before after (told_as whole (last ++ []) [] old new before after (append-nil last ∙ none) done)
wrote_last (Err halt) whole left last old mid new before between after so_far told none =
    let all : IsTold whole (left ++ []) old mid before between = told_as whole left (left ++ []) old mid before between (sym (append-nil left)) so_far in
    cut_then whole left [] old mid new before between after all halt told
