use Rattle.std.proofs.Common.{◌<◌, ap, sym, subst, ◌∙◌}
use Rattle.std.proofs.lemmas.List.{take_all}
use Rattle.std.proofs.lemmas.List.Kept.{AllPairs-filter}
use Rattle.dk_base.specs.Values.{values_of}
use Rattle.dk_samples.specs.Leaders.{VarsAscend}
use Rattle.dk_samples.specs.Samples.{is_present, value_in}
use Rattle.dk_presence.specs.Patterns.{present_in}
use Rattle.dk_presence.proofs.presence.present_leaders.Goals as goal

pub returns-clause-ascend : goal.returns-clause-ascend
returns-clause-ascend c up =
    let leaders = c.args.leaders.now in
    let sample = values_of c.args.sample.now in
    subst VarsAscend (sym (c.loop-leader.invariant ∙ ap (λ ls. present_in ls sample) (take_all c.loop-leader.leader-index leaders c.loop-leader-test.false)))
    (AllPairs-filter (λ v w. v.0 < w.0) (λ v. is_present (value_in sample v)) leaders up)
