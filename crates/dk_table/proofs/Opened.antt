-- A trace that is begun behind the rows by which its kinds are found.
use Rattle.std.proofs.Common.{◌≡◌, ◌∙◌, ◌++◌, ℕ, true, false, List, Option, None, Result, Err, refl, sym, ap, subst}
use Rattle.dk_decl.specs.declared.decls.PointDecl.{PointDecl}
use Rattle.dk_io.specs.Streams.{AddsFront, Texts, with_bytes}
use Rattle.dk_io.specs.declared.outside.Stream.TheVariants.{Report}
use Rattle.dk_io.proofs.Writing.{added_nil}
use Rattle.dk_write.specs.Texts.{Begins, Declares, block_text, trace_text}
use Rattle.dk_table.specs.Writing.Forms.{form_of, rows_text}
use Rattle.dk_table.specs.Streams.Stops.{Writes}
use Rattle.dk_table.specs.Streams.{Step, Stream, first_refusal, rows_before, stream_by, told_steps}
use Rattle.dk_table.specs.Traces.{are_named, declaration_of}
use Rattle.dk_table.specs.declared.columns.ColumnKind.{ColumnKind}
use Rattle.dk_table.specs.declared.faults.Refusal.{Refusal}
use Rattle.dk_table.specs.declared.faults.TableWhy.TheVariants.{BadName}
use Rattle.dk_table.specs.declared.streaming.stops.Stop.{Stop}
use Rattle.dk_table.specs.declared.streaming.stops.Stop.TheVariants.{NoMemory, Refused, Unread, Unstarted, Write}
use Rattle.dk_table.specs.declared.writing.Form.{Form}
use Rattle.dk_table.proofs.Formed.{trace_told}
use Rattle.dk_table.proofs.Sent.{adds_more, adds_none, writes_after}
use Rattle.dk_table.proofs.Streamed.{by_named, by_unnamed}

module _ (point : List ℕ) (names : List (List ℕ)) (kinds : List ColumnKind) (steps : List Step) where
  abbrev d : PointDecl
  d = declaration_of point names kinds

  abbrev stream : Stream
  stream = stream_by d kinds steps

  abbrev T : List Step
  T = told_steps kinds steps

  abbrev head : List ℕ
  head = block_text Begins ++ block_text (Declares d)

  pub unnamed_ends : (A : Type 0) (old : Texts) (now : ℕ) → are_named d ≡ false
      → Writes {A = A} (trace_text stream.written) stream.refusal old old now now (Err (Refused (record { file = 0; row = 1; why = BadName })))
  unnamed_ends A old now named =
      subst (λ (s : Stream). Writes {A = A} (trace_text s.written) s.refusal old old now now (Err (Refused (record { file = 0; row = 1; why = BadName })))) (sym (by_unnamed d kinds steps named))
      (refl, sym (added_nil old Report), refl)

  pub none_ends : (A : Type 0) (old : Texts) (now : ℕ) → Writes {A = A} (trace_text stream.written) stream.refusal old old now now (Err NoMemory)
  none_ends A old now = (adds_none old (trace_text stream.written), refl)

  module _ (named : are_named d ≡ true) (form : Form) (formed : form ≡ form_of d kinds) where
    text_is : head ++ rows_text form (rows_before T) ≡ trace_text stream.written
    text_is =
        ap (λ (f : Form). head ++ rows_text f (rows_before T)) formed ∙ trace_told point names kinds head (rows_before T) refl
        ∙ ap (λ (s : Stream). trace_text s.written) (sym (by_named d kinds steps named))

    refusal_is : first_refusal T ≡ stream.refusal
    refusal_is = ap (λ (s : Stream). s.refusal) (sym (by_named d kinds steps named))

    -- the header lines and the declaration weren't written
    pub head_stops : (A B : Type 0) (stop : Stop) (old new : Texts) (before after : ℕ) → Writes {A = A} head None old new before after (Err stop)
        → Writes {A = B} (trace_text stream.written) stream.refusal old new before after (Err stop)
    head_stops A B (Refused r) old new before after (some, is, calm) = absurd (cc some)
    head_stops A B (Unstarted place) old new before after h = absurd h
    head_stops A B (Unread place) old new before after h = absurd h
    head_stops A B Write old new before after (front, rose) = (subst (AddsFront old new Report) text_is (adds_more old new head (rows_text form (rows_before T)) front), rose)
    head_stops A B NoMemory old new before after (front, calm) = (subst (AddsFront old new Report) text_is (adds_more old new head (rows_text form (rows_before T)) front), calm)

    -- they were, and the rows or a front of them
    pub rows_end : {A : Type 0} (r : Result A Stop) (old mid new : Texts) (before between after : ℕ) → mid ≡ with_bytes old Report head → between ≡ before
        → Writes (rows_text form (rows_before T)) (first_refusal T) mid new between after r → Writes (trace_text stream.written) stream.refusal old new before after r
    rows_end r old mid new before between after is calm h =
        subst (λ (text : List ℕ). Writes text stream.refusal old new before after r) text_is
        (subst (λ (o : Option Refusal). Writes (head ++ rows_text form (rows_before T)) o old new before after r) refusal_is
        (writes_after r head (rows_text form (rows_before T)) (first_refusal T) old mid new before between after is calm h))

-- a stop says the same of any answer
pub stop_recast : (A B : Type 0) (stop : Stop) (due : List ℕ) (refusal : Option Refusal) (old new : Texts) (before after : ℕ)
    → Writes {A = A} due refusal old new before after (Err stop) → Writes {A = B} due refusal old new before after (Err stop)
stop_recast A B (Refused r) due refusal old new before after h = h
stop_recast A B (Unstarted place) due refusal old new before after h = h
stop_recast A B (Unread place) due refusal old new before after h = h
stop_recast A B Write due refusal old new before after h = h
stop_recast A B NoMemory due refusal old new before after h = h
