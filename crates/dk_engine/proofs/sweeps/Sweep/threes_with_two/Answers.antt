use Rattle.std.specs.Prelude.{◌≡◌, ◌++◌, ◌∷◌, []}
use Rattle.std.proofs.Common.{ap, ◌∙◌, append_assoc}
use Rattle.std.proofs.lemmas.Result.{on_ok_weaker}
use Rattle.dk_engine.proofs.Fitting.{found, triples_found}
use Rattle.dk_engine.specs.Feeding.{read_after}
use Rattle.dk_engine.specs.Sweeps.{triples}
use Rattle.dk_engine.proofs.sweeps.Sweep.threes_with_two.Goals as goal

pub returns : goal.returns
returns c =
    let s = c.args.self.now in
    let answered = read_after s.answers.now.whole.kept s.answers.now.sample in
    let row = c.args.row in
    let v = c.args.v ∷ [] in
    let w = c.args.w ∷ [] in
    let leaders = c.args.leaders.now in
    let all = leaders.all in
    let a = c.args.roles.0 in
    let b = c.args.roles.1 in
    let d = c.args.roles.2 in
    let takes = c.requires.takes in
    let t = triples s.infos.now s.known.now answered row v w all in
    let u = triples s.infos.now s.known.now answered row v all w in
    let x = triples s.infos.now s.known.now answered row all v w in
    let was = c.args.slots.now in
    let first = triples_found s.infos.now s.known.now answered row a b d takes v w all c.one.result.now c.one-2.result.now c.at.result.now
    c.one.ensures c.one-2.ensures (found s.infos.now s.known.now answered row d leaders.infos.now all c.at.result.now c.requires.leaders c.at.ensures) in
    let second = triples_found s.infos.now s.known.now answered row a b d takes v all w c.one-3.result.now c.at-2.result.now c.one-4.result.now
    c.one-3.ensures (found s.infos.now s.known.now answered row b leaders.infos.now all c.at-2.result.now c.requires.leaders c.at-2.ensures) c.one-4.ensures in
    let third = triples_found s.infos.now s.known.now answered row a b d takes all v w c.at-3.result.now c.one-5.result.now c.one-6.result.now
    (found s.infos.now s.known.now answered row a leaders.infos.now all c.at-3.result.now c.requires.leaders c.at-3.ensures) c.one-5.ensures c.one-6.ensures in
    on_ok_weaker c.triples-3.result (λ (e : c.triples-3.new.slots ≡ c.triples-2.new.slots ++ triples s.infos.now s.known.now answered row c.at-3.result.now c.one-5.result.now c.one-6.result.now).
    e ∙ ap (λ ss. c.triples-2.new.slots ++ ss) third
    ∙ (ap (λ ss. ss ++ x) (c.in_ok-triples-2.ensures ∙ (ap (λ ss. c.triples.new.slots ++ ss) second ∙ ap (λ ss. ss ++ u) (c.in_ok-triples.ensures ∙ ap (λ ss. was ++ ss) first)))
    ∙ (ap (λ ss. ss ++ x) (append_assoc was t u) ∙ append_assoc was (t ++ u) x))) c.triples-3.ensures
