use Rattle.std.proofs.Common.{◌≡◌, ◌≤◌, length, rules}
use Rattle.dk_binary.proofs.Words.{ends_tell}
use Rattle.dk_binary.proofs.texts.same_text.Goals as goal

pub returns-in-Some-Some-Some-Some : goal.returns-in-Some-Some-Some-Some
returns-in-Some-Some-Some-Some c =
    let k = c.in-Some-Some-Some-Some in let a = c.args.a.now in let b = c.args.b.now in
    let long : length a ≡ length b = search rules in
    let few : length a ≤ 16 = search rules in
    ends_tell a b long k.ensures.cases.enough few k.ensures.cases.same k.ensures'.cases.same k.ensures''.cases.1.same k.ensures'''.cases.1.same
    c.same_word.ensures c.same_word-in-Some-Some-Some-Some.ensures
