use Rattle.std.proofs.Common.{◌++◌, codes}
use Rattle.std.proofs.lemmas.Result.{on_ok_weaker}
use Rattle.dk_generate.specs.Records.{head_text, number_text, pop_text, stack_text}
use Rattle.dk_generate.proofs.Joined.{joined}
use Rattle.dk_generate.proofs.records.push_pop.Goals as goal

pub returns : goal.returns
unfolding pop_text
returns c =
    let entry = head_text (codes "Stack.pop():::ENTER") c.args.number in
    let before = stack_text c.args.before.now in
    let exit = head_text (codes "Stack.pop():::EXIT2") c.args.number in
    let after = stack_text c.args.after.now in
    let item = number_text (codes "return") c.args.item in
    on_ok_weaker c.push_value.result
    (λ e. joined c.args.text.now entry (before ++ (exit ++ (after ++ item))) _ _ c.in_ok-push_head.ensures
    (joined c.push_head.new.text before (exit ++ (after ++ item)) _ _ c.in_ok-push_stack.ensures
    (joined c.push_stack.new.text exit (after ++ item) _ _ c.in_ok-push_head-2.ensures
    (joined c.push_head-2.new.text after item _ _ c.in_ok-push_stack-2.ensures e)))) c.push_value.ensures
