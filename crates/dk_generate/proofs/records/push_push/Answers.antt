use Rattle.std.proofs.Common.{◌++◌, codes}
use Rattle.std.proofs.lemmas.Result.{on_ok_weaker}
use Rattle.dk_generate.specs.Records.{head_text, number_text, push_text, stack_text}
use Rattle.dk_generate.proofs.Joined.{joined}
use Rattle.dk_generate.proofs.records.push_push.Goals as goal

pub returns : goal.returns
unfolding push_text
returns c =
    let entry = head_text (codes "Stack.push(int):::ENTER") c.args.number in
    let before = stack_text c.args.before.now in
    let item = number_text (codes "x") c.args.item in
    let exit = head_text (codes "Stack.push(int):::EXIT1") c.args.number in
    let after = stack_text c.args.after.now in
    on_ok_weaker c.push_value-2.result
    (λ e. joined c.args.text.now entry (before ++ (item ++ (exit ++ (after ++ item)))) _ _ c.in_ok-push_head.ensures
    (joined c.push_head.new.text before (item ++ (exit ++ (after ++ item))) _ _ c.in_ok-push_stack.ensures
    (joined c.push_stack.new.text item (exit ++ (after ++ item)) _ _ c.in_ok-push_value.ensures
    (joined c.push_value.new.text exit (after ++ item) _ _ c.in_ok-push_head-2.ensures
    (joined c.push_head-2.new.text after item _ _ c.in_ok-push_stack-2.ensures e))))) c.push_value-2.ensures
