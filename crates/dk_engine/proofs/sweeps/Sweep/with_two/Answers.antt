use Rattle.std.specs.Prelude.{◌≡◌, ◌++◌, ◌∷◌, [], length}
use Rattle.std.proofs.Common.{ap, ◌∙◌, arith, sym}
use Rattle.std.proofs.lemmas.List.{append-nil}
use Rattle.std.proofs.lemmas.Result.{on_ok_weaker}
use Rattle.dk_template.specs.Templates.{roles_of}
use Rattle.dk_template.specs.declared.templates.Takes.{Takes}
use Rattle.dk_template.specs.declared.templates.Template.{Template}
use Rattle.dk_engine.proofs.Swept.{both_one_role, both_three_roles, both_two_roles}
use Rattle.dk_engine.specs.Feeding.{read_after}
use Rattle.dk_engine.specs.Sweeps.{pairs, threes_with_two}
use Rattle.dk_engine.proofs.sweeps.Sweep.with_two.Goals as goal

pub returns-in-One : goal.returns-in-One
returns-in-One c =
    let s = c.args.self.now in
    let answered = read_after s.answers.now.whole.kept s.answers.now.sample in
    let row = c.args.row in
    let takes = sym (ap (λ (t : Template). t.takes) c.template_at.ensures) ∙ c.in-One.is in
    let told = both_one_role s.infos.now s.known.now answered row c.args.v c.args.w c.args.leaders.now.all (ap (λ (t : Takes). length (roles_of t)) takes) in
    sym (append-nil c.args.slots.now) ∙ ap (λ ss. c.args.slots.now ++ ss) told

pub returns-in-Two : goal.returns-in-Two
returns-in-Two c =
    let s = c.args.self.now in
    let answered = read_after s.answers.now.whole.kept s.answers.now.sample in
    let row = c.args.row in
    let takes = sym (ap (λ (t : Template). t.takes) c.template_at.ensures) ∙ c.in-Two.is in
    let told = both_two_roles s.infos.now s.known.now answered row c.args.v c.args.w c.args.leaders.now.all (ap (λ (t : Takes). length (roles_of t)) takes) in
    on_ok_weaker c.pairs.result (λ (e : c.pairs.new.slots ≡ c.args.slots.now ++ pairs s.infos.now s.known.now answered row (c.args.v ∷ []) (c.args.w ∷ [])). e ∙ ap (λ ss. c.args.slots.now ++ ss) told) c.pairs.ensures

pub returns-in-Three : goal.returns-in-Three
returns-in-Three c =
    let s = c.args.self.now in
    let answered = read_after s.answers.now.whole.kept s.answers.now.sample in
    let row = c.args.row in
    let takes = sym (ap (λ (t : Template). t.takes) c.template_at.ensures) ∙ c.in-Three.is in
    let three = ap (λ (t : Takes). length (roles_of t)) takes in
    let told = both_three_roles s.infos.now s.known.now answered row c.args.v c.args.w c.args.leaders.now.all (λ e. absurd (omega (arith, three, e))) (λ e. absurd (omega (arith, three, e))) in
    on_ok_weaker c.threes_with_two.result (λ (e : c.threes_with_two.new.slots ≡ c.args.slots.now ++ threes_with_two s.infos.now s.known.now answered row c.args.v c.args.w c.args.leaders.now.all). e ∙ ap (λ ss. c.args.slots.now ++ ss) told) c.threes_with_two.ensures
