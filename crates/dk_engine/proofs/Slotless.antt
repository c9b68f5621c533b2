-- Leaders that have no slot.
use Rattle.std.specs.Prelude.{◌≡◌, ◌&&◌, ◌∷◌, [], Bool, true, false, List, cond, map, not, refl}
use Rattle.std.proofs.Common.{ap}
use Rattle.dk_base.specs.declared.kinds.VarId.{VarId}
use Rattle.dk_base.specs.declared.kinds.VarInfo.{VarInfo}
use Rattle.dk_constants.specs.Known.{Entries}
use Rattle.dk_forms.specs.declared.states.State.{State}
use Rattle.dk_forms.specs.declared.states.State.TheVariants.{Broken}
use Rattle.dk_suppress.specs.Rules.{is_suppressed}
use Rattle.dk_template.specs.Admitted.{admits, is_written}
use Rattle.dk_template.specs.declared.grammar.RowId.{RowId}
use Rattle.dk_engine.specs.Feeding.{has_slot, is_broken}
use Rattle.dk_engine.specs.Reading.Parts.{all_known}
use Rattle.dk_engine.specs.Sweeps.{considered}
use Rattle.dk_engine.specs.declared.slots.slot.Slot.{Slot}

second_false : (a b c : Bool) → b ≡ false → (a && (b && c)) ≡ false
second_false true b c e = ap (λ x. x && c) e
second_false false b c e = refl

fourth_false : (a b c d e : Bool) → d ≡ false → (a && (b && (c && (d && e)))) ≡ false
fourth_false true true c d e f = second_false c d e f
fourth_false true false c d e f = refl
fourth_false false b c d e f = refl

module _ (infos : List VarInfo) (known : Entries) (answered : RowId → List VarId → State) (row : RowId) (vars : List VarId) where
  pub unwritten : is_written row vars ≡ false → has_slot infos known answered row vars ≡ false
  unwritten out = second_false (admits row infos vars) (is_written row vars) _ out

  pub broken_out : answered row vars ≡ Broken → has_slot infos known answered row vars ≡ false
  broken_out breaks =
      fourth_false (admits row infos vars) (is_written row vars) (not (all_known known vars)) (not (is_broken (answered row vars))) (not (is_suppressed answered row vars)) (ap (λ s. not (is_broken s)) breaks)

  pub not_considered : has_slot infos known answered row vars ≡ false → considered infos known answered row vars ≡ []
  not_considered out = ap (λ b. map (λ (vs : List VarId). (let s : Slot = record { row = row; leaders = vs; state = answered row vs } in s)) (cond b (vars ∷ []) [])) out
