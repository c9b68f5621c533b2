use Rattle.json.specs.Tree.{json_tokens}
use Rattle.dk_json.proofs.Tokens.{one_more}
use Rattle.dk_json.proofs.texts.push_each.Goals as goal

pub loop-item-preserved : goal.loop-item-preserved
loop-item-preserved g c =
    one_more (λ x. json_tokens (g.T.Told.json_of x)) c.args.items.now c.loop-item.item-index c.item-item.result c.args.writer.now c.loop-item.writer c.push_to.new.writer
    c.loop-item-test.true c.item-item.is c.loop-item.invariant c.in_ok-push_to.ensures
