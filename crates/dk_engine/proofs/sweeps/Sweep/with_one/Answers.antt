use Rattle.std.specs.Prelude.{◌≡◌, ◌++◌, length}
use Rattle.std.proofs.Common.{ap, ◌∙◌, arith, sym}
use Rattle.std.proofs.lemmas.Result.{on_ok_weaker}
use Rattle.dk_template.specs.Templates.{roles_of}
use Rattle.dk_template.specs.declared.templates.Takes.{Takes}
use Rattle.dk_template.specs.declared.templates.Template.{Template}
use Rattle.dk_engine.proofs.Fitting.{firsts_found, found}
use Rattle.dk_engine.proofs.Swept.{with_one_role, with_three_roles, with_two_roles}
use Rattle.dk_engine.specs.Feeding.{read_after}
use Rattle.dk_engine.specs.Sweeps.{firsts, threes_with_one, twos_with_one}
use Rattle.dk_engine.proofs.sweeps.Sweep.with_one.Goals as goal

pub returns-in-One : goal.returns-in-One
returns-in-One c =
    let s = c.args.self.now in
    let answered = read_after s.answers.now.whole.kept s.answers.now.sample in
    let row = c.args.row in
    let of = c.args.of.now.all in
    let a = c.in-One.a in
    let takes = sym (ap (λ (t : Template). t.takes) c.template_at.ensures) ∙ c.in-One.is in
    let suited = found s.infos.now s.known.now answered row a c.args.of.now.infos.now of c.at.result.now c.requires.of c.at.ensures in
    let told = firsts_found s.infos.now s.known.now answered row a takes of c.at.result.now suited ∙ with_one_role s.infos.now s.known.now answered row c.args.of.now.all c.args.before.now.all c.args.leaders.now.all (ap (λ (t : Takes). length (roles_of t)) takes) in
    on_ok_weaker c.firsts.result (λ (e : c.firsts.new.slots ≡ c.args.slots.now ++ firsts s.infos.now s.known.now answered row c.at.result.now). e ∙ ap (λ ss. c.args.slots.now ++ ss) told) c.firsts.ensures

pub returns-in-Two : goal.returns-in-Two
returns-in-Two c =
    let s = c.args.self.now in
    let answered = read_after s.answers.now.whole.kept s.answers.now.sample in
    let row = c.args.row in
    let takes = sym (ap (λ (t : Template). t.takes) c.template_at.ensures) ∙ c.in-Two.is in
    let told = with_two_roles s.infos.now s.known.now answered row c.args.of.now.all c.args.before.now.all c.args.leaders.now.all (ap (λ (t : Takes). length (roles_of t)) takes) in
    on_ok_weaker c.twos_with_one.result (λ (e : c.twos_with_one.new.slots ≡ c.args.slots.now ++ twos_with_one s.infos.now s.known.now answered row c.args.of.now.all c.args.before.now.all c.args.leaders.now.all). e ∙ ap (λ ss. c.args.slots.now ++ ss) told) c.twos_with_one.ensures

pub returns-in-Three : goal.returns-in-Three
returns-in-Three c =
    let s = c.args.self.now in
    let answered = read_after s.answers.now.whole.kept s.answers.now.sample in
    let row = c.args.row in
    let takes = sym (ap (λ (t : Template). t.takes) c.template_at.ensures) ∙ c.in-Three.is in
    let three = ap (λ (t : Takes). length (roles_of t)) takes in
    let told = with_three_roles s.infos.now s.known.now answered row c.args.of.now.all c.args.before.now.all c.args.leaders.now.all (λ e. absurd (omega (arith, three, e))) (λ e. absurd (omega (arith, three, e))) in
    on_ok_weaker c.threes_with_one.result (λ (e : c.threes_with_one.new.slots ≡ c.args.slots.now ++ threes_with_one s.infos.now s.known.now answered row c.args.of.now.all c.args.before.now.all c.args.leaders.now.all). e ∙ ap (λ ss. c.args.slots.now ++ ss) told) c.threes_with_one.ensures
