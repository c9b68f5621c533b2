use Rattle.std.proofs.Common.{◌∙◌, rules}
use Rattle.dk_expr.proofs.Numbered.{made_of}
use Rattle.std.proofs.lemmas.Result.{on_ok_weaker}
use Rattle.dk_expr.proofs.Factors.{constant_found, on_both}
use Rattle.dk_expr.proofs.steps.push_constant.Goals as goal

pub returns-clause-keeps : goal.returns-clause-keeps
returns-clause-keeps c = on_ok_weaker c.push_some-2.result (λ keeps x there. keeps x (c.in_ok-push_some.ensures.keeps x there)) c.push_some-2.ensures.keeps

pub returns-clause-finds : goal.returns-clause-finds
returns-clause-finds c =
    on_both c.push_some-2.result
    (λ keeps second.
    constant_found c.args.text.now c.args.found c.push_some.new.list c.push_some-2.new.list _ c.map.result (search rules) c.in_ok-push_some.ensures.finds keeps
    (λ z more small first is. made_of c.step_at-step.result c.map.result _ _ _ (c.step_at-step.ensures.read z more small first (c.rest.ensures ∙ is)) c.map.ensures.cases (λ b made. search rules)) second)
    c.push_some-2.ensures.keeps c.push_some-2.ensures.finds
