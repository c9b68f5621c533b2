use Rattle.std.proofs.Common.{◌∙◌, ap}
use Rattle.std.specs.Prelude.{◌++◌, ◌∷◌, []}
use Rattle.dk_expr.proofs.Pushed.{last_put, rest_put}
use Rattle.dk_expr.proofs.values.+push_values.Goals as goal

pub returns-in-Some : goal.returns-in-Some
returns-in-Some t c =
    rest_put c.args.bytes.now c.split_at.result.0.now c.split_at.result.1.now c.value_len.result c.value_len.ensures.value c.split_at.ensures.front c.split_at.ensures.back
    c.args.values.now c.push.new.self (c.in_ok-push.ensures.ok ∙ ap (λ v. c.args.values.now ++ v ∷ []) c.in_ok-from_slice.ensures) c.push_values.result c.args.most c.in-Some.rest.now
    c.push_values.new.values c.in-Some.ensures.front c.push_values.ensures

pub returns-in-None : goal.returns-in-None
returns-in-None t c =
    last_put c.args.bytes.now c.split_at.result.0.now c.split_at.result.1.now c.value_len.result c.value_len.ensures.value c.split_at.ensures.front c.split_at.ensures.back
    c.args.values.now c.push.new.self (c.in_ok-push.ensures.ok ∙ ap (λ v. c.args.values.now ++ v ∷ []) c.in_ok-from_slice.ensures) c.args.most c.in-None.ensures.read
