use Rattle.std.proofs.Common.{◌≡◌, ◌+◌, ◌*◌, ◌∙◌, ap, get_or}
use Rattle.std.proofs.lemmas.List.{get_or_default, length-set}
use Rattle.dk_base.specs.declared.kinds.VarId.{VarId}
use Rattle.dk_presence.specs.Patterns.{has}
use Rattle.dk_engine.proofs.MappingFacts.{before_more, has_next, passed_all, rest_more, row_more}
use Rattle.dk_engine.proofs.saved.mapping.push_pattern.Goals as goal

pub loop-k-preserved : goal.loop-k-preserved
loop-k-preserved c =
    let old = c.args.row.now in
    let row = c.loop-k.row in
    let leaders = c.args.leaders.now in
    let present = c.args.present.now in
    let i = c.loop-k.k in
    let within = c.loop-k-test.true in
    let v : VarId = get_or leaders i (record { 0 = 0 }) in
    let is : v ≡ get_or leaders i v = get_or_default leaders i (record { 0 = 0 }) v within in
    let next = c.place_from-place.result in
    let told = c.place_from-place.ensures in
    let so_far = c.loop-k.invariant in
    let stands = c.stands_at.result in
    let before = passed_all leaders present i c.loop-k.place next v within is so_far.before told.passed in
    let has_it : has present v ≡ stands = has_next present v next stands c.requires.present before told.next c.stands_at.ensures.stands c.stands_at.ensures.not in
    let word = get_or row i 0 * 2 + c.bit.result in
    record {
      long = length-set row i word ∙ so_far.long;
      within = told.within;
      before = before_more leaders present i c.loop-k.place next v c.requires.leaders within is so_far.before told.passed;
      done = row_more old row leaders present i word v stands so_far.long within is has_it (ap (λ n. get_or row i 0 * 2 + n) c.bit.ensures) so_far.done so_far.rest;
      rest = rest_more old row i word so_far.rest;
    }
