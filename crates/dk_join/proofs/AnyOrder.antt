-- Engines that are joined in any order and in any groups make the same parts.
use Rattle.std.specs.Prelude.{◌≡◌, ℕ, List}
use Rattle.std.proofs.Common.{ap, ◌∙◌, sym}
use Rattle.std.proofs.lemmas.List.Elements.{All-append}
use Rattle.dk_base.specs.declared.kinds.VarId.{VarId}
use Rattle.dk_base.specs.declared.kinds.VarInfo.{VarInfo}
use Rattle.dk_base.specs.declared.values.Value.{Value}
use Rattle.dk_classes.specs.Leaders.{own_leaders}
use Rattle.dk_engine.proofs.AnyOrder.{order_does_not_matter}
use Rattle.dk_engine.proofs.DeterminedParts.{kept_parts_determined}
use Rattle.dk_engine.specs.Exact.{AreSamples, IsKeptOf}
use Rattle.dk_engine.specs.Saved.{parts_of}
use Rattle.dk_engine.specs.declared.kept.Kept.{Kept}
use Rattle.dk_instances.specs.Laws.{IsSample}
use Rattle.dk_presence.specs.Patterns.{capped, pattern_count, patterns_of as sample_patterns, times}
use Rattle.dk_snapshot.specs.Classes.{classes_of}
use Rattle.dk_snapshot.specs.Entries.{all_known_of}
use Rattle.dk_snapshot.specs.Patterns.{patterns_of}
use Rattle.dk_template.specs.declared.grammar.Grammar.{Grammar}
use Rattle.dk_join.proofs.Determined.{one_order}
use Rattle.dk_join.specs.Laws.{Alone, AreJoins, Joins, OrderOfJoinsDoesNotMatter, Together, all_samples, kept_by}

-- how often a pattern stands in the samples
abbrev counted_in : List (List Value) → List VarId → List VarId → ℕ
counted_in samples leaders p = capped (times p (sample_patterns (own_leaders leaders) samples))

-- what is kept of the same samples is saved in the same way
saved_alike : (g : Grammar) (infos : List VarInfo) (samples : List (List Value)) (kept other : Kept) → IsKeptOf g infos samples kept → IsKeptOf g infos samples other → parts_of kept ≡ parts_of other
saved_alike g infos samples kept other is also =
    let same = kept_parts_determined g infos samples kept other is also in
    let number = same.number in
    let leaders = same.leaders in
    let known = same.known in
    let slots = same.slots in
    let counts : (p : List VarId) → pattern_count kept.held p ≡ pattern_count other.held p =
    λ p. is.held.counted p ∙ (ap (λ ls. counted_in samples ls p) leaders ∙ sym (also.held.counted p)) in
    let patterns : patterns_of (own_leaders kept.leaders) kept.held ≡ patterns_of (own_leaders other.leaders) other.held =
    ap (λ ls. patterns_of (own_leaders ls) kept.held) leaders ∙ one_order (own_leaders other.leaders) kept.held other.held is.held.form also.held.form counts in
    λ i. record { samples = number i; classes = classes_of (leaders i); patterns = patterns i; known = all_known_of (known i); slots = slots i }

module _ (g : Grammar) (infos : List VarInfo) where
  -- what joins make stands for the samples of all
  all_stand : (joins : Joins) → AreJoins g infos joins → AreSamples infos (all_samples joins) × IsKeptOf g infos (all_samples joins) (kept_by joins)
  all_stand (Alone samples kept) are = are
  all_stand (Together first second kept) are =
      let one = all_stand first are.0 in
      let other = all_stand second are.1 in (
        All-append (IsSample infos) (all_samples first) (all_samples second) one.0 other.0,
        are.2.stands (all_samples first) (all_samples second) (record { first_samples = one.0; second_samples = other.0; first_kept = one.1; second_kept = other.1 }),
      )

pub order_of_joins_does_not_matter : OrderOfJoinsDoesNotMatter
order_of_joins_does_not_matter g infos joins others are also same =
    saved_alike g infos (all_samples others) (kept_by joins) (kept_by others)
    (order_does_not_matter g infos (all_samples joins) (all_samples others) same (kept_by joins) (all_stand g infos joins are).1)
    (all_stand g infos others also).1
