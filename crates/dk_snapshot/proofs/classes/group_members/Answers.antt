use Rattle.std.specs.Prelude.{◌≡◌, ◌<◌, ◌++◌, ◌∷◌, [], length}
use Rattle.std.proofs.Common.{◌∙◌, ap, arith, get_or}
use Rattle.std.proofs.lemmas.List.{get_or_default, length-set}
use Rattle.dk_classes.specs.Leaders.{var}
use Rattle.dk_snapshot.proofs.Grouping.{grouped_more}
use Rattle.dk_snapshot.proofs.classes.group_members.Goals as goal

pub loop-v-preserved : goal.loop-v-preserved
loop-v-preserved c =
    let i = c.loop-v.v in
    let leaders = c.args.classes.now in
    let groups = c.loop-v.groups.items in
    let leader = c.leader-leader.result.0 in
    let all = c.requires.count in
    let before = c.requires.classes.before i (omega (arith, all)) in
    let led = c.leader-leader.ensures in
    let within : leader < length groups = omega (arith, all, before, led, c.loop-v.invariant.long) in
    let grown : c.push.new.self ≡ get_or groups leader [] ++ var i ∷ [] =
    c.in_ok-push.ensures.ok ∙ ap (λ ms. ms ++ var i ∷ []) (c.index_mut-group.ensures.value ∙ get_or_default groups leader c.index_mut-group.result.now [] within)
    in
    record {
      long = length-set groups leader c.push.new.self ∙ c.loop-v.invariant.long;
      each = λ k l. grouped_more leaders i groups c.push.new.self leader (omega (arith, all)) (c.loop-v.invariant.long ∙ all) led (omega (arith, within, c.loop-v.invariant.long, all)) grown
          (λ j m. c.loop-v.invariant.each j (omega (arith, m, all))) k (omega (arith, l, all));
    }
