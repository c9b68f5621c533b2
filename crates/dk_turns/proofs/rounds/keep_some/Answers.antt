use Rattle.std.proofs.Common.{◌≡◌, ◌==◌, ◌<◌, true, length, rules}
use Rattle.dk_turns.proofs.Fronting.{blank_is}
use Rattle.dk_turns.proofs.Rounding.{none_kept, one_kept}
use Rattle.dk_turns.proofs.rounds.keep_some.Goals as goal

pub returns-then-is_empty : goal.returns-then-is_empty
returns-then-is_empty c =
    let none : (length c.args.file.now == 0) ≡ true = cc in
    none_kept c.args.left.now.items c.args.file.now (blank_is c.args.file.now none)

pub returns : goal.returns
returns c =
    let some : 0 < length c.args.file.now = search rules in
    one_kept c.args.left.now.items c.push.new.self.items c.args.file (c.requires some) c.in_ok-push.ensures.items
