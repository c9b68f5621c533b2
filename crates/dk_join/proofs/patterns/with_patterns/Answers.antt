use Rattle.std.specs.Prelude.{◌≡◌, ◌<◌, ◌+◌, List}
use Rattle.std.proofs.Common.{◌∙◌, ap, arith, get_or, subst, sym}
use Rattle.std.proofs.lemmas.List.{take_all}
use Rattle.std.proofs.lemmas.List.Kept.{AllPairs-filter}
use Rattle.dk_base.specs.declared.kinds.VarId.{VarId}
use Rattle.dk_engine.specs.Reading.Parts.{leader_of}
use Rattle.dk_join.proofs.Tallying.{times_more}
use Rattle.dk_join.specs.Joined.{present_with, times_present}
use Rattle.dk_presence.specs.Patterns.{capped, has, pattern_count}
use Rattle.dk_presence.specs.declared.held.Held.{Held}
use Rattle.dk_samples.specs.Leaders.{VarsAscend}
use Rattle.dk_join.proofs.patterns.with_patterns.Goals as goal

pub add-requires-clause-ascend : goal.add-requires-clause-ascend
add-requires-clause-ascend c =
    subst VarsAscend (sym c.in_ok-present.ensures)
    (AllPairs-filter (λ (v w : VarId). v.0 < w.0) (λ v. has c.as_slice.result.now (leader_of c.args.old.now v)) c.args.leaders.now c.requires.ascend)

pub loop-pattern-preserved : goal.loop-pattern-preserved
loop-pattern-preserved c = λ so_far h p.
    let old = c.args.old.now in
    let leaders = c.args.leaders.now in
    let held = c.args.held.now in
    let i = c.loop-pattern.pattern-index in
    let d : Held = c.pattern-item.result in
    let present = c.in_ok-present.present in
    let same : present ≡ present_with old leaders (get_or held i d).leaders = c.in_ok-present.ensures ∙ ap (present_with old leaders) (c.as_slice.ensures ∙ ap (λ (k : Held). k.leaders) c.pattern-item.is) in
    ap (λ (t : List Held). pattern_count t p) c.in_ok-tally.ensures
    ∙ times_more old leaders held i d c.loop-pattern-test.true p (so_far p) present d.count same (ap (λ (k : Held). k.count) c.pattern-item.is) c.loop-pattern.tally (c.loop-pattern.invariant so_far h p)

pub returns : goal.returns
returns c = λ so_far h p.
    let old = c.args.old.now in
    let leaders = c.args.leaders.now in
    let held = c.args.held.now in
    c.loop-pattern.invariant so_far h p
    ∙ ap (λ (hs : List Held). capped (so_far p + times_present old leaders hs p)) (take_all c.loop-pattern.pattern-index held (omega (arith, c.loop-pattern-test.false)))
