-- What is kept of samples has the sizes of the samples.
use Rattle.std.specs.Prelude.{◌≡◌, List, [], ◌∷◌, filter, flat_map, length}
use Rattle.std.proofs.Common.{◌∙◌, ap, arith, sym}
use Rattle.std.proofs.lemmas.List.{length-map}
use Rattle.dk_base.specs.declared.kinds.VarId.{VarId}
use Rattle.dk_base.specs.declared.kinds.VarInfo.{VarInfo}
use Rattle.dk_base.specs.declared.values.Value.{Value}
use Rattle.dk_classes.proofs.OwnLeaders.{own_ascend}
use Rattle.dk_classes.specs.Leaders.{own_leaders}
use Rattle.dk_engine.specs.Exact.{IsKeptOf}
use Rattle.dk_engine.specs.declared.kept.Kept.{Kept}
use Rattle.dk_instances.specs.Instances.{rows_of}
use Rattle.dk_presence.specs.Patterns.{patterns_of}
use Rattle.dk_template.specs.declared.grammar.Grammar.{Grammar}
use Rattle.dk_template.specs.declared.grammar.RowId.{RowId}
use Rattle.dk_report.proofs.Constants.{constants_count}
use Rattle.dk_report.proofs.Distinct.{patterns_count}
use Rattle.dk_report.proofs.Leaders.{leaders_are}
use Rattle.dk_report.proofs.SlotsCount.{no_slots, of_row, place_of, slots_are}
use Rattle.dk_report.specs.Laws.{KeptPartsHaveSizes}
use Rattle.dk_report.specs.Sizes.{counts_of, each_once, is_constant_in, own_leaders_in, sizes_of, slot_tuples}

module _ (g : Grammar) (infos : List VarInfo) (samples : List (List Value)) (kept : Kept) (is : IsKeptOf g infos samples kept) where
  abbrev own : List VarId
  own = own_leaders kept.leaders

  same : own ≡ own_leaders_in infos samples
  same = leaders_are infos samples kept.leaders is.leaders

  slots-count : length kept.slots ≡ length (slot_tuples g infos samples)
  slots-count = by samples is same
    where
      by : (xs : List (List Value)) → IsKeptOf g infos xs kept → own_leaders kept.leaders ≡ own_leaders_in infos xs → length kept.slots ≡ length (slot_tuples g infos xs)
      by [] k e = no_slots g infos kept k
      by (x ∷ xs) k e =
          sym (length-map kept.slots place_of)
          ∙ (ap (λ (ps : List (RowId × List VarId)). length ps) (slots_are g infos (x ∷ xs) kept k (omega arith)))
          ∙ ap (λ (ls : List VarId). length (flat_map (of_row infos (x ∷ xs) ls) (rows_of g))) e

  pub sizes_are : counts_of kept ≡ sizes_of g infos samples
  sizes_are =
      let leaders = ap (λ (vs : List VarId). length vs) same in
      let constants = constants_count own (own_ascend kept.leaders) samples kept.known is.known ∙ ap (λ (vs : List VarId). length (filter (is_constant_in samples) vs)) same in
      let patterns = patterns_count (patterns_of own samples) kept.held is.held.form is.held.counted ∙ ap (λ (vs : List VarId). length (each_once (patterns_of vs samples))) same in
      let number = is.number in
      let slots = slots-count in
      λ k. record { samples = number k; leaders = leaders k; constants = constants k; patterns = patterns k; slots = slots k }

pub kept_parts_have_sizes : KeptPartsHaveSizes
kept_parts_have_sizes g infos samples kept is = sizes_are g infos samples kept is
