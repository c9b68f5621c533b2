-- Rows that are told, one after another.
use Rattle.std.proofs.Common.{◌≡◌, ◌∙◌, ◌∷◌, ◌++◌, [], ℕ, Bool, true, false, List, Option, Some, None, Result, Ok, Err, append_assoc, append-nil, refl, sym, ap, subst, if◌then◌else◌}
use Rattle.std.proofs.lemmas.Grind.{flat_map-append}
use Rattle.dk_io.specs.Streams.{AddsFront, Texts}
use Rattle.dk_io.specs.declared.outside.Stream.TheVariants.{Report}
use Rattle.dk_table.specs.Writing.Forms.{row_text, rows_text}
use Rattle.dk_table.specs.Tables.PlacedRows.{Placed}
use Rattle.dk_table.specs.Streams.Stages.{steps_by}
use Rattle.dk_table.specs.Streams.Stops.{Gathers, stop_of_halt}
use Rattle.dk_table.specs.Streams.{Step, first_refusal, row_steps, rows_before, told_steps}
use Rattle.dk_table.specs.Traces.{bad_cell, is_told}
use Rattle.dk_table.specs.Writing.{HaltHasCause, IsTold}
use Rattle.dk_table.specs.declared.columns.ColumnKind.{ColumnKind}
use Rattle.dk_table.specs.declared.faults.Refusal.{Refusal}
use Rattle.dk_table.specs.declared.streaming.stops.Stop.{Stop}
use Rattle.dk_table.specs.declared.streaming.stops.Stop.TheVariants.{Refused}
use Rattle.dk_table.specs.declared.writing.Form.{Form}
use Rattle.dk_table.specs.declared.writing.Halt.{Halt}
use Rattle.dk_table.proofs.Pieces.{told_nothing}
use Rattle.dk_table.proofs.Sent.{gathers_halt}
use Rattle.dk_table.proofs.Streamed.{Apart, before_apart, refused_behind, refused_in_front, told_apart}

-- what steps gather
abbrev pub Gathered : {A : Type 0} → Form → List Step → List ℕ → List ℕ → Texts → Texts → ℕ → ℕ → Result A Stop → Type 0
Gathered form steps text left old new before after r = Gathers (text ++ rows_text form (rows_before steps)) (first_refusal steps) left old new before after r

-- ---- one row
told_yes : (kinds : List ColumnKind) (row : Placed) → is_told kinds row ≡ true → told_steps kinds (Ok row ∷ []) ≡ Ok row ∷ []
told_yes kinds row told = ap (λ (b : Bool). (if b then Ok row else Err (bad_cell row)) ∷ []) told

told_no : (kinds : List ColumnKind) (row : Placed) → is_told kinds row ≡ false → told_steps kinds (Ok row ∷ []) ≡ Err (bad_cell row) ∷ []
told_no kinds row told = ap (λ (b : Bool). (if b then Ok row else Err (bad_cell row)) ∷ []) told

nothing_told : (text : List ℕ) (old : Texts) (now : ℕ) → IsTold (text ++ []) text old old now now
nothing_told text old now = subst (λ (due : List ℕ). IsTold due text old old now now) (sym (append-nil text)) (told_nothing text old now)

pub cell_refused : (A : Type 0) (form : Form) (kinds : List ColumnKind) (row : Placed) (text : List ℕ) (old : Texts) (now : ℕ) (refusal : Refusal)
    → is_told kinds row ≡ false → bad_cell row ≡ refusal → Gathered {A = A} form (told_steps kinds (Ok row ∷ [])) text text old old now now (Err (Refused refusal))
cell_refused A form kinds row text old now refusal told is =
    subst (λ (steps : List Step). Gathered {A = A} form steps text text old old now now (Err (Refused refusal))) (sym (told_no kinds row told))
    (ap (λ (r : Refusal). Some r) is, nothing_told text old now)

one_row : (form : Form) (text : List ℕ) (row : Placed) → text ++ row_text form row ≡ text ++ rows_text form (row ∷ [])
one_row form text row = ap (λ (l : List ℕ). text ++ l) (sym (append-nil (row_text form row)))

pub row_gathered : {A : Type 0} (u : A) (form : Form) (kinds : List ColumnKind) (row : Placed) (text left : List ℕ) (old new : Texts) (before after : ℕ)
    → is_told kinds row ≡ true → IsTold (text ++ row_text form row) left old new before after
    → Gathered form (told_steps kinds (Ok row ∷ [])) text left old new before after (Ok u)
row_gathered u form kinds row text left old new before after told gathered =
    subst (λ (steps : List Step). Gathered form steps text left old new before after (Ok u)) (sym (told_yes kinds row told))
    (refl, subst (λ (due : List ℕ). IsTold due left old new before after) (one_row form text row) gathered)

pub row_halted : (A : Type 0) (why : Halt) (form : Form) (kinds : List ColumnKind) (row : Placed) (text left : List ℕ) (old new : Texts) (before after : ℕ)
    → is_told kinds row ≡ true → AddsFront old new Report (text ++ row_text form row) × HaltHasCause before after why
    → Gathered {A = A} form (told_steps kinds (Ok row ∷ [])) text left old new before after (Err (stop_of_halt why))
row_halted A why form kinds row text left old new before after told h =
    subst (λ (steps : List Step). Gathered {A = A} form steps text left old new before after (Err (stop_of_halt why))) (sym (told_yes kinds row told))
    (gathers_halt A why (text ++ rows_text form (row ∷ [])) left None old new before after
    (subst (λ (due : List ℕ). AddsFront old new Report due × HaltHasCause before after why) (one_row form text row) h))

-- ---- a header, and a row that is refused
pub header_gathered : {A : Type 0} (u : A) (header : Bool) (names : List (List ℕ)) (form : Form) (kinds : List ColumnKind) (row : Placed) (text : List ℕ) (old : Texts) (now : ℕ)
    → steps_by row (Ok false) ≡ row_steps header names row → Gathered form (told_steps kinds (row_steps header names row)) text text old old now now (Ok u)
header_gathered u header names form kinds row text old now is =
    subst (λ (steps : List Step). Gathered form (told_steps kinds steps) text text old old now now (Ok u)) is (refl, nothing_told text old now)

pub row_refused : (A : Type 0) (header : Bool) (names : List (List ℕ)) (form : Form) (kinds : List ColumnKind) (row : Placed) (text : List ℕ) (old : Texts) (now : ℕ) (refusal : Refusal)
    → steps_by row (Err refusal) ≡ row_steps header names row → Gathered {A = A} form (told_steps kinds (row_steps header names row)) text text old old now now (Err (Refused refusal))
row_refused A header names form kinds row text old now refusal is =
    subst (λ (steps : List Step). Gathered {A = A} form (told_steps kinds steps) text text old old now now (Err (Refused refusal))) is (refl, nothing_told text old now)

-- ---- rows behind it
module _ (form : Form) (kinds : List ColumnKind) (all own rest : List Step) (is : all ≡ own ++ rest) (text : List ℕ) where
  abbrev T : List Step → List Step
  T steps = told_steps kinds steps

  told_all : T all ≡ T own ++ T rest
  told_all = ap T is ∙ told_apart kinds own rest

  abbrev ahead : Apart (T own) (T rest)
  ahead = before_apart (T own) (T rest)

  pub behind : List ℕ
  behind = rows_text form ahead.more

  pub parts_told : text ++ rows_text form (rows_before (T all)) ≡ (text ++ rows_text form (rows_before (T own))) ++ behind
  unfolding behind
  parts_told =
      ap (λ (steps : List Step). text ++ rows_text form (rows_before steps)) told_all
      ∙ ap (λ (rows : List Placed). text ++ rows_text form rows) ahead.is
      ∙ ap (λ (l : List ℕ). text ++ l) (flat_map-append (row_text form) (rows_before (T own)) ahead.more)
      ∙ sym (append_assoc text (rows_text form (rows_before (T own))) (rows_text form ahead.more))

  pub refused_ahead : (whole : Option Refusal) → first_refusal (T all) ≡ whole → (r : Refusal) → first_refusal (T own) ≡ Some r → (whole ≡ Some r) × (behind ≡ [])
  unfolding behind
  refused_ahead whole same r some =
      (sym same ∙ ap first_refusal told_all ∙ refused_in_front (T own) (T rest) r some, ap (rows_text form) (ahead.some r some))

  pub none_ahead : first_refusal (T own) ≡ None → behind ≡ rows_text form (rows_before (T rest))
  unfolding behind
  none_ahead none = ap (rows_text form) (ahead.none none)

  pub still_refused : (whole : Option Refusal) → first_refusal (T all) ≡ whole → first_refusal (T own) ≡ None → first_refusal (T rest) ≡ whole
  still_refused whole same none = sym (ap first_refusal told_all ∙ refused_behind (T own) (T rest) none) ∙ same
