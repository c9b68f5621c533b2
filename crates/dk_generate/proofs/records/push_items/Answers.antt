use Rattle.std.proofs.Common.{◌++◌, ◌∙◌, ap, append_assoc, codes, map, sym}
use Rattle.std.specs.Fmt.{decimal}
use Rattle.std.specs.List.{join_with_byte}
use Rattle.std.proofs.lemmas.Result.{on_ok_weaker}
use Rattle.dk_generate.specs.Records.{items_text}
use Rattle.dk_generate.proofs.Joined.{joined}
use Rattle.dk_generate.proofs.records.push_items.Goals as goal

pub returns : goal.returns
unfolding items_text
returns c =
    let items = join_with_byte 32 (map decimal c.args.items.now) in
    on_ok_weaker c.append-2.result
    (λ e. joined c.args.text.now (codes "this.items[..]\n[") ((items ++ codes "]") ++ codes "\n1\n") _ _ c.in_ok-append.ensures.ok
    (joined c.append.new.self items (codes "]\n1\n") _ _ c.in_ok-push_joined.ensures e
    ∙ ap (λ t. c.append.new.self ++ t) (sym (append_assoc items (codes "]") (codes "\n1\n"))))) c.append-2.ensures.ok
