use Rattle.std.specs.Prelude.{◌≡◌, ◌<◌, ◌&&◌, List, false, length, true}
use Rattle.std.specs.List.{list_all}
use Rattle.std.proofs.Common.{◌∙◌, ap, arith, get_or, sym}
use Rattle.std.proofs.lemmas.List.{take_all}
use Rattle.dk_hierarchy.proofs.Joining.{one_apart}
use Rattle.dk_hierarchy.specs.Merging.{agree_through, merged_agree, same_kinds}
use Rattle.dk_hierarchy.specs.declared.way.Way.{Way}
use Rattle.dk_hierarchy.proofs.merged.MergedAnswers.agree.Goals as goal

pub returns-then-not-same_kinds : goal.returns-then-not-same_kinds
unfolding merged_agree
returns-then-not-same_kinds c =
    let joint = c.args.self.now in
    let v = c.args.v in
    let w = c.args.w in
    let apart : same_kinds joint.here.infos v w ≡ false = sym (c.same_kinds.ensures ∙ ap (λ infos. same_kinds infos v w) c.vars.ensures) ∙ c.if-not-same_kinds.true in
    sym (ap (λ b. b && list_all (agree_through joint v w) joint.ways) apart)

pub returns-then-not-agree_through : goal.returns-then-not-agree_through
unfolding merged_agree
returns-then-not-agree_through c =
    let joint = c.args.self.now in
    let v = c.args.v in
    let w = c.args.w in
    let i = c.loop-way.way-index in
    let d : Way = c.way-item.result in
    let alike : same_kinds joint.here.infos v w ≡ true = sym (c.same_kinds.ensures ∙ ap (λ infos. same_kinds infos v w) c.vars.ensures) ∙ c.if-not-same_kinds.false in
    let same = c.ways-ways.ensures.ways in
    let long = ap length same in
    let within : i < length joint.ways = omega (arith, long, c.loop-way-test.true) in
    let at : d ≡ get_or joint.ways i d = c.way-item.is ∙ ap (λ (ws : List Way). get_or ws i d) same in
    let apart : agree_through joint v w (get_or joint.ways i d) ≡ false = ap (agree_through joint v w) (sym at) ∙ (sym c.agree_through.ensures ∙ c.if-not-agree_through.true) in
    sym (ap (λ b. b && list_all (agree_through joint v w) joint.ways) alike ∙ one_apart joint v w joint.ways i d within apart)

pub returns : goal.returns
unfolding merged_agree
returns c =
    let joint = c.args.self.now in
    let v = c.args.v in
    let w = c.args.w in
    let alike : same_kinds joint.here.infos v w ≡ true = sym (c.same_kinds.ensures ∙ ap (λ infos. same_kinds infos v w) c.vars.ensures) ∙ c.if-not-same_kinds.false in
    let same = c.ways-ways.ensures.ways in
    let each : list_all (agree_through joint v w) joint.ways ≡ true =
    ap (list_all (agree_through joint v w)) (sym (take_all c.loop-way.way-index c.ways-ways.result.now (omega (arith, c.loop-way-test.false)) ∙ same)) ∙ c.loop-way.invariant in
    sym (ap (λ b. b && list_all (agree_through joint v w) joint.ways) alike ∙ each)
