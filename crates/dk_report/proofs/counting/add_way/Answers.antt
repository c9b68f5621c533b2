use Rattle.std.specs.Prelude.{◌≡◌, ◌<◌, ℕ, IfSome, None, Option, length, refl, slice_index_or}
use Rattle.std.proofs.Common.{◌∙◌, arith, subst, sym}
use Rattle.std.proofs.lemmas.List.{get_or-set_other, get_or_read, length-set}
use Rattle.dk_presence.specs.Patterns.{capped}
use Rattle.dk_report.proofs.Counts.{all-done, place-done}
use Rattle.dk_report.specs.Counting.{brought}
use Rattle.dk_report.proofs.counting.add_way.Goals as goal

pub loop-place-init : goal.loop-place-init
loop-place-init c = record {
  long = refl;
  done = λ count are v l. absurd (omega (arith, l));
  rest = λ v l. refl;
}

pub loop-place-preserved : goal.loop-place-preserved
loop-place-preserved c =
    let found = c.loop-place.found.items in
    let place = c.loop-place.place in
    let so_far = c.loop-place.invariant in
    let test = c.loop-place-test.true in
    let end = c.len-place-end.ensures in
    let long = so_far.long in
    let within : place < length found = omega (arith, test, end, long) in
    let more = brought c.args.engine.now.kept c.args.way.now in
    let here : c.index.result.now ≡ slice_index_or found place None = get_or_read found place c.index.result.now within c.index.ensures None in
    record {
      long = length-set found place c.sum.result ∙ so_far.long;
      done =
          place-done c.args.found.now.items more found place c.sum.result within (so_far.rest place (omega arith))
          (λ n before. c.sum.ensures n (more place) (subst (λ (o : Option ℕ). IfSome o (λ x. x ≡ capped n)) (sym here) before) c.count_through-more.ensures) so_far.done;
      rest = λ v l. get_or-set_other found place v c.sum.result None (λ same. omega (arith, l, same)) ∙ so_far.rest v (omega (arith, l));
    }

pub returns : goal.returns
returns c =
    let so_far = c.loop-place.invariant in
    let test = c.loop-place-test.false in
    let end = c.len-place-end.ensures in
    let long = so_far.long in
    all-done c.args.found.now.items (brought c.args.engine.now.kept c.args.way.now) c.loop-place.found.items c.loop-place.place (omega (arith, test, end, long)) so_far.done
