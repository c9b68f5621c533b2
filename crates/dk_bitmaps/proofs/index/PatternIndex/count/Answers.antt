use Rattle.std.proofs.Common.{◌∙◌}
use Rattle.dk_bitmaps.proofs.Counts.{one_long, three_long, two_long}
use Rattle.dk_bitmaps.proofs.index.PatternIndex.count.Goals as goal

pub returns-in-len1 : goal.returns-in-len1
returns-in-len1 c = c.count_three.ensures ∙ one_long c.args.self.now c.args.leaders.now _ c.in-len1.len_at_least c.in-len1.len_below

pub returns-in-len2 : goal.returns-in-len2
returns-in-len2 c = c.count_three-in-len2.ensures ∙ two_long c.args.self.now c.args.leaders.now _ _ c.in-len2.len_at_least c.in-len2.len_below

pub returns-in-len3 : goal.returns-in-len3
returns-in-len3 c = c.count_three-in-len3.ensures ∙ three_long c.args.self.now c.args.leaders.now _ _ _ c.in-len3.len_at_least c.in-len3.len_below
