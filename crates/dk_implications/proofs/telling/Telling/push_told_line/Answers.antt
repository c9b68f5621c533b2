use Rattle.std.specs.Prelude.{◌≡◌, ◌++◌, [], Bool, OnOk, if◌then◌else◌}
use Rattle.std.proofs.Common.{ap, append-nil, subst, sym, ◌∙◌}
use Rattle.dk_implications.specs.Implications.{implication}
use Rattle.dk_implications.specs.Reports.{implication_line}
use Rattle.dk_implications.proofs.telling.Telling.push_told_line.Goals as goal

pub returns-then-not-told : goal.returns-then-not-told
returns-then-not-told c =
    let whole = c.args.self.now.whole.now in
    let text = c.args.text.now in
    let line = implication_line whole.infos (implication c.args.b c.args.truth c.args.instance.now) in
    sym (ap (λ t. text ++ (if t then line else [])) (sym c.in_ok-told.ensures ∙ c.if-not-told.true) ∙ append-nil text)

pub returns : goal.returns
returns c =
    let whole = c.args.self.now.whole.now in
    let line = implication_line whole.infos (implication c.args.b c.args.truth c.args.instance.now) in
    let Told : Bool → Type 0 = λ t. OnOk c.push_implication.result (c.push_implication.new.text ≡ c.args.text.now ++ (if t then line else [])) in
    subst Told (sym (sym c.in_ok-told.ensures ∙ c.if-not-told.false)) c.push_implication.ensures
