use Rattle.std.proofs.Common.{◌++◌, codes}
use Rattle.std.specs.Fmt.{decimal}
use Rattle.std.proofs.lemmas.Result.{on_ok_weaker}
use Rattle.dk_generate.specs.Records.{nonce_text}
use Rattle.dk_generate.proofs.Joined.{joined}
use Rattle.dk_generate.proofs.records.push_nonce.Goals as goal

pub returns : goal.returns
unfolding nonce_text
returns c =
    let number = decimal c.args.number in
    on_ok_weaker c.append-2.result
    (λ e. joined c.args.text.now (codes "this_invocation_nonce\n") (number ++ codes "\n") _ _ c.in_ok-append.ensures.ok
    (joined c.append.new.self number (codes "\n") _ _ c.in_ok-append_number.ensures.ok e)) c.append-2.ensures.ok
