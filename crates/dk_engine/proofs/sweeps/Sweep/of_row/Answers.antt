use Rattle.std.specs.Prelude.{◌≡◌, ◌++◌}
use Rattle.std.proofs.Common.{ap, ◌∙◌, sym}
use Rattle.std.proofs.lemmas.Result.{on_ok_weaker}
use Rattle.dk_template.specs.declared.templates.Template.{Template}
use Rattle.dk_engine.proofs.Fitting.{firsts_found, found, pairs_found, row_of_one, row_of_three, row_of_two, triples_found}
use Rattle.dk_engine.specs.Feeding.{read_after}
use Rattle.dk_engine.specs.Sweeps.{firsts, pairs, triples}
use Rattle.dk_engine.proofs.sweeps.Sweep.of_row.Goals as goal

pub returns-in-One : goal.returns-in-One
returns-in-One c =
    let s = c.args.self.now in
    let answered = read_after s.answers.now.whole.kept s.answers.now.sample in
    let row = c.args.row in
    let all = c.args.leaders.now.all in
    let there = c.args.leaders.now.infos.now in
    let a = c.in-One.a in
    let takes = sym (ap (λ (t : Template). t.takes) c.template_at.ensures) ∙ c.in-One.is in
    let told = firsts_found s.infos.now s.known.now answered row a takes all c.at.result.now (found s.infos.now s.known.now answered row a there all c.at.result.now c.requires.infos c.at.ensures) ∙ row_of_one s.infos.now s.known.now answered row a takes all in
    on_ok_weaker c.firsts.result (λ (e : c.firsts.new.slots ≡ c.args.slots.now ++ firsts s.infos.now s.known.now answered row c.at.result.now). e ∙ ap (λ ss. c.args.slots.now ++ ss) told) c.firsts.ensures

pub returns-in-Two : goal.returns-in-Two
returns-in-Two c =
    let s = c.args.self.now in
    let answered = read_after s.answers.now.whole.kept s.answers.now.sample in
    let row = c.args.row in
    let all = c.args.leaders.now.all in
    let there = c.args.leaders.now.infos.now in
    let a = c.in-Two.a in
    let b = c.in-Two.b in
    let takes = sym (ap (λ (t : Template). t.takes) c.template_at.ensures) ∙ c.in-Two.is in
    let first = found s.infos.now s.known.now answered row a there all c.at-in-Two.result.now c.requires.infos c.at-in-Two.ensures in
    let second = found s.infos.now s.known.now answered row b there all c.at-in-Two-2.result.now c.requires.infos c.at-in-Two-2.ensures in
    let told = pairs_found s.infos.now s.known.now answered row a b takes all all c.at-in-Two.result.now c.at-in-Two-2.result.now first second ∙ row_of_two s.infos.now s.known.now answered row a b takes all in
    on_ok_weaker c.pairs.result (λ (e : c.pairs.new.slots ≡ c.args.slots.now ++ pairs s.infos.now s.known.now answered row c.at-in-Two.result.now c.at-in-Two-2.result.now). e ∙ ap (λ ss. c.args.slots.now ++ ss) told) c.pairs.ensures

pub returns-in-Three : goal.returns-in-Three
returns-in-Three c =
    let s = c.args.self.now in
    let answered = read_after s.answers.now.whole.kept s.answers.now.sample in
    let row = c.args.row in
    let all = c.args.leaders.now.all in
    let there = c.args.leaders.now.infos.now in
    let a = c.in-Three.a in
    let b = c.in-Three.b in
    let d = c.in-Three.c in
    let takes = sym (ap (λ (t : Template). t.takes) c.template_at.ensures) ∙ c.in-Three.is in
    let first = found s.infos.now s.known.now answered row a there all c.at-in-Three.result.now c.requires.infos c.at-in-Three.ensures in
    let second = found s.infos.now s.known.now answered row b there all c.at-in-Three-2.result.now c.requires.infos c.at-in-Three-2.ensures in
    let third = found s.infos.now s.known.now answered row d there all c.at-in-Three-3.result.now c.requires.infos c.at-in-Three-3.ensures in
    let told = triples_found s.infos.now s.known.now answered row a b d takes all all all c.at-in-Three.result.now c.at-in-Three-2.result.now c.at-in-Three-3.result.now first second third ∙ row_of_three s.infos.now s.known.now answered row a b d takes all in
    on_ok_weaker c.triples.result (λ (e : c.triples.new.slots ≡ c.args.slots.now ++ triples s.infos.now s.known.now answered row c.at-in-Three.result.now c.at-in-Three-2.result.now c.at-in-Three-3.result.now). e ∙ ap (λ ss. c.args.slots.now ++ ss) told) c.triples.ensures
