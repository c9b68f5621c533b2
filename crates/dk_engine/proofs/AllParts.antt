-- What answers before and after a sample, and all parts after it.
use Rattle.std.specs.Prelude.{◌≡◌, ◌+◌, ℕ, [], ◌∷◌, length, refl}
use Rattle.std.proofs.Common.{ap, arith, sym, ◌∙◌}
use Rattle.std.proofs.lemmas.List.{length-append}
use Rattle.dk_presence.specs.Patterns.{capped}
use Rattle.dk_template.specs.Premises.{row_of, suffices}
use Rattle.dk_engine.proofs.Telling.{premise_told}
use Rattle.dk_engine.proofs.PremiseSlots.{asks_admitted, slot_all, slot_tells, usable}
use Rattle.dk_engine.proofs.OneMore.{read_after_is_fit}
use Rattle.dk_engine.proofs.Readings.{reading_is_fit}
use Rattle.dk_engine.proofs.Standing.{IsOld, all_front, old_each, untouched_by_old}
use Rattle.dk_engine.proofs.Unchanging.{first_sample_has_no_slots}
use Rattle.dk_engine.specs.Feeding.Step.{slot_vars}
use Rattle.dk_engine.specs.StepLaws.{FedPartsAreKept, FirstPartsAreKept, FreedPremisesAreUntouched, PremisesAskTheirSlots, ReadingTells}
use Rattle.dk_instances.specs.Laws.{IsSample}

pub reading_tells : ReadingTells
reading_tells grammar infos samples sample kept now step point =
    let sampled = all_front (IsSample infos) samples sample step.all in (
      record { each = reading_is_fit grammar infos point samples sampled kept step.before },
      record { each = read_after_is_fit grammar infos point samples sampled kept step.before sample },
    )

pub premises_ask_their_slots : PremisesAskTheirSlots
premises_ask_their_slots grammar infos samples answered tells row vars admitted p of =
    let can = usable grammar infos vars row admitted p of in
    premise_told tells row vars admitted p of
    ∙ (slot_tells grammar infos vars p can samples ∙ ap (suffices p) (sym (tells.each (row_of p) can.row (slot_vars p vars) (asks_admitted grammar infos vars p can))))

pub fed_parts_are_kept : FedPartsAreKept
fed_parts_are_kept grammar infos samples sample kept now step held are slots exact =
    let long = length-append samples (sample ∷ []) in
    record {
      number = ap (λ n. capped (n + 1)) step.before.number ∙ (once_more (length samples) ∙ ap capped (sym long));
      leaders = step.after.leaders;
      known = step.after.known;
      held = are;
      slots = exact;
    }
  where
    once_more : (n : ℕ) → capped (capped n + 1) ≡ capped (n + 1)
    once_more n = omega arith

-- ---- what spares work
pub freed_premises_are_untouched : FreedPremisesAreUntouched
freed_premises_are_untouched grammar infos before after slots now candidates row vars freed =
    let p = freed.premise in
    let can = usable grammar infos vars row freed.placed.over.admitted p freed.of_row in
    untouched_by_old now (slot_vars p vars) (slot_all (IsOld now) p vars can.roles (old_each now vars freed.untouched))

pub first_parts_are_kept : FirstPartsAreKept
first_parts_are_kept grammar infos sample leaders lead known constants held are = record {
  number = refl;
  leaders = lead;
  known = constants;
  held = are;
  slots = first_sample_has_no_slots grammar infos sample leaders lead known constants;
}
