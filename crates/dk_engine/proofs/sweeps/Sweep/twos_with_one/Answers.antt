use Rattle.std.specs.Prelude.{◌≡◌, ◌++◌}
use Rattle.std.proofs.Common.{ap, ◌∙◌, append_assoc}
use Rattle.std.proofs.lemmas.Result.{on_ok_weaker}
use Rattle.dk_engine.proofs.Fitting.{found, pairs_found}
use Rattle.dk_engine.specs.Feeding.{read_after}
use Rattle.dk_engine.specs.Sweeps.{pairs}
use Rattle.dk_engine.proofs.sweeps.Sweep.twos_with_one.Goals as goal

pub returns : goal.returns
returns c =
    let s = c.args.self.now in
    let answered = read_after s.answers.now.whole.kept s.answers.now.sample in
    let row = c.args.row in
    let of = c.args.of.now in
    let before = c.args.before.now in
    let leaders = c.args.leaders.now in
    let a = c.args.roles.0 in
    let b = c.args.roles.1 in
    let takes = c.requires.takes in
    let p = pairs s.infos.now s.known.now answered row of.all leaders.all in
    let q = pairs s.infos.now s.known.now answered row before.all of.all in
    let first =
    pairs_found s.infos.now s.known.now answered row a b takes of.all leaders.all c.at.result.now c.at-2.result.now
    (found s.infos.now s.known.now answered row a of.infos.now of.all c.at.result.now c.requires.of c.at.ensures) (found s.infos.now s.known.now answered row b leaders.infos.now leaders.all c.at-2.result.now c.requires.leaders c.at-2.ensures) in
    let second =
    pairs_found s.infos.now s.known.now answered row a b takes before.all of.all c.at-3.result.now c.at-4.result.now
    (found s.infos.now s.known.now answered row a before.infos.now before.all c.at-3.result.now c.requires.before c.at-3.ensures) (found s.infos.now s.known.now answered row b of.infos.now of.all c.at-4.result.now c.requires.of c.at-4.ensures) in
    on_ok_weaker c.pairs-2.result (λ (e : c.pairs-2.new.slots ≡ c.pairs.new.slots ++ pairs s.infos.now s.known.now answered row c.at-3.result.now c.at-4.result.now).
    e ∙ ap (λ ss. c.pairs.new.slots ++ ss) second ∙ (ap (λ ss. ss ++ q) (c.in_ok-pairs.ensures ∙ ap (λ ss. c.args.slots.now ++ ss) first) ∙ append_assoc c.args.slots.now p q)) c.pairs-2.ensures
