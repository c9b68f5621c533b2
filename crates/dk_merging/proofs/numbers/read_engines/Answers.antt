use Rattle.std.specs.Prelude.{◌≡◌, ◌<◌, ◌+◌, ℕ, All, List, length}
use Rattle.std.proofs.Common.{◌∙◌, arith, get_or, inl, inr, subst}
use Rattle.std.proofs.lemmas.Bool.{cases_lt}
use Rattle.std.proofs.lemmas.List.{get_or_default}
use Rattle.dk_engine.specs.Reading.Levels.{Whole}
use Rattle.dk_state.specs.Fitting.{FitsSlot}
use Rattle.dk_merging.specs.Engines.{IsSound}
use Rattle.dk_merging.proofs.numbers.read_engines.Goals as goal

-- one engine more of which this is so
one_more : (P : Whole → Type 0) (engines : List Whole) (i : ℕ) (engine : Whole) → i < length engines → engine ≡ get_or engines i engine
    → ((k : ℕ) (d : Whole) → k < i → P (get_or engines k d)) → P engine → (k : ℕ) (d : Whole) → k < i + 1 → P (get_or engines k d)
one_more P engines i engine within is before here k d l = elim (cases_lt k i) as (λ _. P (get_or engines k d)) [
  | inl less ↦ before k d less
  | inr more ↦
      let at : i ≡ k = omega (arith, l, more) in
      subst (λ n. P (get_or engines n d)) at (subst P (is ∙ get_or_default engines i engine d within) here)
]

pub loop-engine-preserved : goal.loop-engine-preserved
loop-engine-preserved c =
    let engines = c.args.engines.now in
    let i = c.loop-engine.engine-index in
    let engine = c.engine-item.result in
    record {
      within = one_more (λ e. All FitsSlot e.kept.slots) engines i engine c.loop-engine-test.true c.engine-item.is c.loop-engine.invariant.within c.read_engine.ensures;
      sound = one_more IsSound engines i engine c.loop-engine-test.true c.engine-item.is c.loop-engine.invariant.sound c.tell_sound.ensures;
    }
