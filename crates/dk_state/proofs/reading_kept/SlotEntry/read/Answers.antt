use Rattle.std.specs.Prelude.{◌≤◌, ◌++◌, ◌∷◌, All, length}
use Rattle.std.specs.Fmt.{decimal}
use Rattle.std.proofs.Common.{◌∙◌, subst, sym}
use Rattle.dk_state.specs.Fitting.{FitsPlace}
use Rattle.dk_state.specs.Lines.{behind_blank, fields_text}
use Rattle.dk_state.specs.States.{state_fields}
use Rattle.dk_state.proofs.KeptLines.{leaders_first, slot_onto, vars_text}
use Rattle.dk_state.proofs.StateFields.{state_first, state_no_number}
use Rattle.dk_state.proofs.reading_kept.SlotEntry.read.Goals as goal

pub returns-clause-read : goal.returns-clause-read
returns-clause-read c s rest fits last is =
    let told = fields_text (state_fields s.state) ++ 10 ∷ rest in
    let passed = c.pass.ensures.read (behind_blank (decimal s.row.0) ++ (vars_text s.leaders ++ told)) (is ∙ slot_onto s rest) in
    let row = c.row-row.ensures.read s.row (vars_text s.leaders ++ told) fits.row (leaders_first s s.leaders rest) passed in
    let leaders = c.in_ok-leaders.ensures.read s.leaders told fits.leaders (state_no_number s.state (10 ∷ rest)) (state_first s.state (10 ∷ rest)) row.1 in
    let list = c.as_slice.ensures ∙ leaders.0 in
    let few : length c.as_slice.result.now ≤ 3 = subst (λ vars. length vars ≤ 3) (sym list) fits.few in
    let tuple = c.tuple-leaders.ensures.read few in
    let both = tuple.0 ∙ list in
    let state = c.in_ok-state.ensures.read s.state rest fits.state (tuple.1 ∙ leaders.1) in
    ((λ i. record { row = row.0 i; leaders = both i; state = state.0 i }), c.pass-2.ensures.read rest state.1)

pub returns-clause-within : goal.returns-clause-within
returns-clause-within c = record {
  row = c.row-row.ensures.within;
  few = c.tuple-leaders.ensures.few;
  leaders = c.tuple-leaders.ensures.within (subst (All FitsPlace) (sym c.as_slice.ensures) c.in_ok-leaders.ensures.within);
  state = c.in_ok-state.ensures.within;
}
