use Rattle.std.proofs.Common.{◌≡◌, ◌<◌, true, get_or}
use Rattle.dk_base.specs.Pieces.{cuts}
use Rattle.dk_base.proofs.Splits.{ends_at_cut, ends_at_end, not_at_once}
use Rattle.dk_base.proofs.splitting.piece_len.Goals as goal

pub returns-then-cuts-clause-cut_off : goal.returns-then-cuts-clause-cut_off
returns-then-cuts-clause-cut_off c =
    let cut : cuts c.args.cut c.loop-i.place (get_or c.args.text.now c.loop-i.i 0) ≡ true = cc in
    let positive : 0 < c.loop-i.i = not_at_once c.args.cut c.loop-i.place c.args.text.now c.loop-i.i c.requires c.loop-i.invariant.first cut in
    ends_at_cut c.args.cut c.loop-i.place c.args.text.now c.loop-i.i c.loop-i-test.true positive cut c.loop-i.invariant.so_far

pub returns-clause-cut_off : goal.returns-clause-cut_off
returns-clause-cut_off c =
    ends_at_end c.args.cut c.loop-i.place c.args.text.now c.loop-i.i c.requires c.loop-i-test.false c.loop-i.invariant.so_far
