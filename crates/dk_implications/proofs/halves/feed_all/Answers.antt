use Rattle.std.specs.Prelude.{◌<◌, length}
use Rattle.std.proofs.Common.{◌∙◌, arith, subst}
use Rattle.std.proofs.lemmas.List.{get_or_default, length-set}
use Rattle.dk_base.specs.Values.{values_of}
use Rattle.dk_implications.proofs.Feeding.{alike_more, all_alike, all_fed, done_more, left_more}
use Rattle.dk_implications.specs.Standing.{AreAlike, AreFed}
use Rattle.dk_implications.specs.declared.halves.Halves.{Halves}
use Rattle.dk_implications.proofs.halves.feed_all.Goals as goal

pub loop-place-preserved : goal.loop-place-preserved
loop-place-preserved c =
    let sample = values_of c.args.sample.now in
    let old = c.args.all.now in
    let all = c.loop-place.all in
    let place = c.loop-place.place in
    let so_far = c.loop-place.invariant in
    let test = c.loop-place-test.true in
    let long = so_far.long in
    let within : place < length all = omega (arith, test, long) in
    let item : Halves = c.index-all-place.result in
    let fed : Halves = c.feed.new.self in
    record {
      long = length-set all place fed ∙ so_far.long;
      done =
          done_more sample old all place fed within
          (λ d. subst (λ (h : Halves). AreFed sample h fed) (get_or_default all place item d within ∙ so_far.left place d (omega arith)) c.in_ok-feed.ensures.fed)
          so_far.done;
      left = left_more sample old all place fed within so_far.left;
    }

pub returns-in_err-feed-clause-alike : goal.returns-in_err-feed-clause-alike
returns-in_err-feed-clause-alike c =
    let sample = values_of c.args.sample.now in
    let old = c.args.all.now in
    let all = c.loop-place.all in
    let place = c.loop-place.place in
    let so_far = c.loop-place.invariant in
    let test = c.loop-place-test.true in
    let long = so_far.long in
    let within : place < length all = omega (arith, test, long) in
    let item : Halves = c.index-all-place.result in
    let fed : Halves = c.feed.new.self in
    alike_more sample old all place fed within so_far.long
    (λ d. subst (λ (h : Halves). AreAlike h fed) (get_or_default all place item d within ∙ so_far.left place d (omega arith)) c.feed.ensures.alike)
    so_far.done so_far.left

pub returns-clause-alike : goal.returns-clause-alike
returns-clause-alike c =
    let so_far = c.loop-place.invariant in
    let test = c.loop-place-test.false in
    all_alike (values_of c.args.sample.now) c.args.all.now c.loop-place.all c.loop-place.place (omega (arith, test)) so_far.long so_far.done

pub returns-clause-fed : goal.returns-clause-fed
returns-clause-fed c =
    let so_far = c.loop-place.invariant in
    let test = c.loop-place-test.false in
    all_fed (values_of c.args.sample.now) c.args.all.now c.loop-place.all c.loop-place.place (omega (arith, test)) so_far.long so_far.done
