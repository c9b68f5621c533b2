-- The joined parts are what is kept of both lists.
use Rattle.std.specs.Prelude.{◌<◌, ◌++◌, ◌^◌, Contains, List, length}
use Rattle.std.proofs.Common.{arith, get_or, subst, sym}
use Rattle.std.proofs.lemmas.List.{length-append}
use Rattle.std.proofs.lemmas.List.Elements.{Contains-get_or}
use Rattle.dk_base.specs.declared.kinds.VarId.{VarId}
use Rattle.dk_base.specs.declared.kinds.VarInfo.{VarInfo}
use Rattle.dk_base.specs.declared.values.Value.{Value}
use Rattle.dk_classes.proofs.OwnLeaders.{own_ascend}
use Rattle.dk_classes.specs.Classes.{AreLeaders, var_kinds}
use Rattle.dk_classes.specs.Leaders.{own_leaders}
use Rattle.dk_constants.specs.Constants.{AreConstants}
use Rattle.dk_engine.proofs.Leading.{long_leaders}
use Rattle.dk_engine.proofs.SlotLists.{slots_exact}
use Rattle.dk_engine.specs.Exact.{AreOfPoint, ArePatterns, AreSlots, IsKeptOf}
use Rattle.dk_engine.specs.declared.kept.Kept.{Kept}
use Rattle.dk_template.specs.declared.grammar.Grammar.{Grammar}
use Rattle.dk_join.proofs.Answering.{read_joined_is_fit}
use Rattle.dk_join.proofs.Counting.{patterns_of_both}
use Rattle.dk_join.proofs.Knowing.{constants_of_both}
use Rattle.dk_join.proofs.Leading.{agrees_with_leader, leader_leads, leaders_of_both, within_first}
use Rattle.dk_join.specs.Joined.{IsJoinOf}
use Rattle.dk_join.specs.Joining.{read_joined}
use Rattle.dk_join.specs.Laws.{AreKeptOf, JoinedPartsAreExact}

module _ (g : Grammar) (infos : List VarInfo) (point : AreOfPoint infos) (samples others : List (List Value)) (first second : Kept) (are : AreKeptOf g infos samples others first second)
    (some : 0 < first.samples) (also_some : 0 < second.samples) (kept : Kept) (join : IsJoinOf g infos first second kept) where
  abbrev led : List VarId
  led = own_leaders kept.leaders

  some_first : 0 < length samples
  some_first = let number = are.first_kept.number in omega (arith, number, some)

  some_second : 0 < length others
  some_second = let number = are.second_kept.number in omega (arith, number, also_some)

  few_first : length first.leaders < 2 ^ 32
  few_first = let long = long_leaders infos samples first.leaders are.first_kept.leaders in let few = point.few in omega (arith, long, few)

  few_second : length second.leaders < 2 ^ 32
  few_second = let long = long_leaders infos others second.leaders are.second_kept.leaders in let few = point.few in omega (arith, long, few)

  leaders_exact : AreLeaders (var_kinds infos) (samples ++ others) kept.leaders
  leaders_exact = leaders_of_both (var_kinds infos) samples others first.leaders second.leaders kept.leaders are.first_kept.leaders are.second_kept.leaders join.leaders

  known_exact : AreConstants led (samples ++ others) kept.known
  known_exact = subst (AreConstants led (samples ++ others)) (sym join.known)
      (constants_of_both (var_kinds infos) samples others some_first some_second first second are.first_kept.leaders are.second_kept.leaders few_first few_second are.first_kept.known are.second_kept.known kept.leaders join.leaders)

  module _ (v : VarId) where
    in_first : Contains led v → v.0 < length first.leaders
    in_first has = within_first first.leaders second.leaders kept.leaders join.leaders v has

    in_second : Contains led v → v.0 < length second.leaders
    in_second has =
        let l = in_first has in
        let one = long_leaders infos samples first.leaders are.first_kept.leaders in
        let two = long_leaders infos others second.leaders are.second_kept.leaders in
        omega (arith, l, one, two)

  patterns_exact : ArePatterns led (samples ++ others) kept.held
  patterns_exact = patterns_of_both samples others first second led
      (λ k d l. leader_leads (var_kinds infos) samples first.leaders are.first_kept.leaders few_first (get_or led k d) (in_first (get_or led k d) (Contains-get_or led k d l)))
      (λ k d l. leader_leads (var_kinds infos) others second.leaders are.second_kept.leaders few_second (get_or led k d) (in_second (get_or led k d) (Contains-get_or led k d l)))
      (λ k d l. agrees_with_leader (var_kinds infos) samples first.leaders are.first_kept.leaders few_first (get_or led k d) (in_first (get_or led k d) (Contains-get_or led k d l)))
      (λ k d l. agrees_with_leader (var_kinds infos) others second.leaders are.second_kept.leaders few_second (get_or led k d) (in_second (get_or led k d) (Contains-get_or led k d l)))
      are.first_kept.held are.second_kept.held kept.held join.held

  slots_are_exact : AreSlots g infos (samples ++ others) kept.leaders kept.known kept.slots
  slots_are_exact = subst (AreSlots g infos (samples ++ others) kept.leaders kept.known) (sym join.slots)
      (slots_exact g infos (samples ++ others) (let long = length-append samples others in let one = some_first in omega (arith, long, one)) kept.leaders (own_ascend kept.leaders) kept.known (read_joined first second)
      (λ row of vars a. read_joined_is_fit g infos point samples others first second are row of vars a))

  all_exact : IsKeptOf g infos (samples ++ others) kept
  all_exact = record {
    number = (let n = join.number in let a = are.first_kept.number in let b = are.second_kept.number in let long = length-append samples others in omega (arith, n, a, b, long));
    leaders = leaders_exact;
    known = known_exact;
    held = patterns_exact;
    slots = slots_are_exact;
  }

pub joined_parts_are_exact : JoinedPartsAreExact
joined_parts_are_exact g infos point samples others first second are some also_some kept join = all_exact g infos point samples others first second are some also_some kept join
