-- What the join of two engines stands for, and that it can be saved where their samples are few.
use Rattle.std.specs.Prelude.{◌≡◌, ◌<◌, ◌≤◌, ◌+◌, ◌^◌, ◌++◌, ℕ, List, length}
use Rattle.std.proofs.Common.{ap, ◌∙◌, arith, subst, sym}
use Rattle.std.proofs.lemmas.List.{length-append}
use Rattle.std.proofs.lemmas.List.Elements.{All-append}
use Rattle.dk_base.specs.declared.kinds.VarId.{VarId}
use Rattle.dk_base.specs.declared.kinds.VarInfo.{VarInfo}
use Rattle.dk_base.specs.declared.values.Value.{Value}
use Rattle.dk_classes.specs.Leaders.{own_leaders}
use Rattle.dk_constants.specs.Known.{Entries}
use Rattle.dk_instances.specs.Laws.{IsSample}
use Rattle.dk_snapshot.specs.Classes.{classes_of}
use Rattle.dk_snapshot.specs.Entries.{all_known_of}
use Rattle.dk_snapshot.specs.Patterns.{patterns_of}
use Rattle.dk_snapshot.specs.declared.known.Known.{Known}
use Rattle.dk_snapshot.specs.declared.pattern.Pattern.{Pattern}
use Rattle.dk_presence.specs.Patterns.{capped}
use Rattle.dk_presence.specs.declared.held.Held.{Held}
use Rattle.dk_engine.proofs.Saving.{kept_parts_are_saved}
use Rattle.dk_engine.specs.Exact.{AreOfPoint, AreSamples, IsKeptOf}
use Rattle.dk_engine.specs.Feeding.{slots_of}
use Rattle.dk_engine.specs.Saved.{AreSavedParts, parts_of}
use Rattle.dk_engine.specs.declared.kept.Kept.{Kept}
use Rattle.dk_engine.specs.declared.saved.parts.Parts.{Parts}
use Rattle.dk_engine.specs.declared.slots.slot.Slot.{Slot}
use Rattle.dk_template.specs.declared.grammar.Grammar.{Grammar}
use Rattle.dk_join.proofs.Determined.{joined_parts_are_determined}
use Rattle.dk_join.proofs.Exact.{joined_parts_are_exact}
use Rattle.dk_join.specs.Joined.{AreJoinedLeaders, AreJoinedParts, AreJoinedPatterns, IsJoinOf, joined_known}
use Rattle.dk_join.specs.Joining.{read_joined}
use Rattle.dk_join.specs.Laws.{AreKeptOf}

module _ (g : Grammar) (infos : List VarInfo) (first second : Kept) (parts : Parts) (join : AreJoinedParts g infos first second parts) where
  -- what can't be saved of one join can't be saved of any
  pub none_is_saved : (AreSavedParts g infos parts → ⊥) → (others : Parts) → AreJoinedParts g infos first second others → AreSavedParts g infos others → ⊥
  none_is_saved none others also saved = none (subst (AreSavedParts g infos) (joined_parts_are_determined g infos first second others parts also join) saved)

  module _ (point : AreOfPoint infos) (some : 0 < first.samples) (also_some : 0 < second.samples) (samples others : List (List Value)) (are : AreKeptOf g infos samples others first second) where
    all_sampled : AreSamples infos (samples ++ others)
    all_sampled = All-append (IsSample infos) samples others are.first_samples are.second_samples

    all_kept : IsKeptOf g infos (samples ++ others) join.kept
    all_kept = joined_parts_are_exact g infos point samples others first second are some also_some join.kept join.joined

    -- parts that stand for what they are saved as stand for both lists
    pub stands_for_both : (kept : Kept)
        → ((all : List (List Value)) (other : Kept) → AreSamples infos all → IsKeptOf g infos all other → parts_of other ≡ parts → IsKeptOf g infos all kept)
        → IsKeptOf g infos (samples ++ others) kept
    stands_for_both kept stands = stands (samples ++ others) join.kept all_sampled all_kept join.saved

    -- few samples make parts that can be saved
    pub few_are_saved : length samples + length others ≤ 2 ^ 40 → AreSavedParts g infos parts
    few_are_saved few =
        let long = length-append samples others in
        let number = are.first_kept.number in
        subst (AreSavedParts g infos) join.saved (kept_parts_are_saved g infos point (samples ++ others) all_sampled join.kept all_kept (omega (arith, long, number, some)) (omega (arith, long, few)))

-- parts that are made piece by piece, and put into order, are a join's
module _ (g : Grammar) (infos : List VarInfo) (first second : Kept) (leaders own : List VarId) (own_is : own ≡ own_leaders leaders) (are : AreJoinedLeaders first.leaders second.leaders leaders)
    (known : Entries) (known_is : known ≡ joined_known first second own) (held : List Held) (held_are : AreJoinedPatterns first second own held)
    (slots : List Slot) (slots_are : slots ≡ slots_of g infos own known (read_joined first second)) (samples : ℕ) (samples_are : samples ≡ capped (first.samples + second.samples)) where
  is_join : IsJoinOf g infos first second (record { samples = samples; leaders = leaders; known = known; held = held; slots = slots })
  is_join = record {
    number = samples_are;
    leaders = are;
    known = known_is ∙ ap (joined_known first second) own_is;
    held = subst (λ ls. AreJoinedPatterns first second ls held) own_is held_are;
    slots = slots_are ∙ ap (λ ls. slots_of g infos ls known (read_joined first second)) own_is;
  }

  pub parts_are_joined : (members : List (List VarId)) → members ≡ classes_of leaders → (patterns : List Pattern) → patterns ≡ patterns_of own held → (constants : List Known) → constants ≡ all_known_of known
      → AreJoinedParts g infos first second (record { samples = samples; classes = members; patterns = patterns; known = constants; slots = slots })
  parts_are_joined members members_are patterns patterns_are constants constants_are =
      let in_order : patterns_of (own_leaders leaders) held ≡ patterns = sym (patterns_are ∙ ap (λ ls. patterns_of ls held) own_is) in
      record {
        kept = record { samples = samples; leaders = leaders; known = known; held = held; slots = slots };
        joined = is_join;
        saved = λ i. record { samples = samples; classes = sym members_are i; patterns = in_order i; known = sym constants_are i; slots = slots };
      }
