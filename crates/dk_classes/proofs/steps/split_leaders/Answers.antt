use Rattle.std.proofs.Common.{◌≡◌, ◌+◌, ◌∙◌, sym, subst, length, get_or, arith, refl}
use Rattle.dk_base.specs.Values.{values_of}
use Rattle.dk_classes.specs.Leaders.{var}
use Rattle.dk_classes.specs.Classes.{IsFirst, IsLike, IsSplit, NewBelow, new_with}
use Rattle.dk_classes.specs.Keys.{HaveKeys}
use Rattle.dk_classes.proofs.Firsts.{each_more, long_more, new_from, new_more}
use Rattle.dk_classes.proofs.steps.split_leaders.Goals as goal

pub loop-v-preserved : goal.loop-v-preserved
loop-v-preserved c =
    let leaders = c.args.leaders.now in
    let sample = values_of c.args.sample.now in
    let split = c.loop-v.split.items in
    let first = c.in_ok-first.first in
    let keys = c.first_like.new.keys.keys in
    let v = c.loop-v.v in
    let is = c.in_ok-push.ensures.items in
    let inv = c.loop-v.invariant in
    let here : IsFirst (IsLike leaders sample v) first.0 = c.in_ok-first.ensures.first in
    record {
      long = long_more c.push.new.self.items split first v is inv.long;
      each = each_more (IsLike leaders sample) c.push.new.self.items split first v is inv.long inv.each here;
      new = subst (NewBelow leaders sample (v + 1)) (sym c.in_ok-new.ensures) (new_more leaders sample v c.loop-v.new inv.new first (get_or leaders v (var 0)) here refl);
      keys = subst (λ more. HaveKeys sample more keys) (sym c.in_ok-new.ensures) (subst (λ new. HaveKeys sample (new_with new v first (get_or leaders v (var 0))) keys) c.as_slice.ensures c.in_ok-first.ensures.keys);
    }

pub returns-clause-new : goal.returns-clause-new
returns-clause-new c =
    let leaders = c.args.leaders.now in
    let sample = values_of c.args.sample.now in
    let inv = c.loop-v.invariant in
    let all : c.loop-v.v ≡ length leaders = omega arith in
    let is : IsSplit leaders sample c.loop-v.split.items = record { long = inv.long ∙ all; each = λ v l. inv.each v (omega (arith, all)) } in
    new_from leaders sample c.loop-v.split.items c.loop-v.new is (subst (λ n. NewBelow leaders sample n c.loop-v.new) all inv.new)
