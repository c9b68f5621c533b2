use Rattle.std.proofs.Common.{◌++◌, codes}
use Rattle.std.proofs.lemmas.Result.{on_ok_weaker}
use Rattle.dk_generate.specs.Records.{head_text, nonce_text}
use Rattle.dk_generate.proofs.Joined.{joined}
use Rattle.dk_generate.proofs.records.push_head.Goals as goal

pub returns : goal.returns
unfolding head_text
returns c =
    let nonce = nonce_text c.args.number in
    on_ok_weaker c.push_nonce.result
    (λ e. joined c.args.text.now (codes "\n") (c.args.point.now ++ (codes "\n" ++ nonce)) _ _ c.in_ok-append.ensures.ok
    (joined c.append.new.self c.args.point.now (codes "\n" ++ nonce) _ _ c.in_ok-append-2.ensures.ok
    (joined c.append-2.new.self (codes "\n") nonce _ _ c.in_ok-append-3.ensures.ok e))) c.push_nonce.ensures
