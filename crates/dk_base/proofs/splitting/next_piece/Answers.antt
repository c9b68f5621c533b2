use Rattle.std.proofs.Common.{◌≡◌, ◌∙◌, get_or, true, sym, ap}
use Rattle.std.proofs.lemmas.List.{drop_all}
use Rattle.dk_base.specs.Pieces.{outside, cuts, pieces}
use Rattle.dk_base.proofs.Splits.{pieces_one_on, no_pieces}
use Rattle.dk_base.proofs.splitting.next_piece.Goals as goal

pub loop-i-preserved : goal.loop-i-preserved
loop-i-preserved c =
    let cut : cuts c.args.cut outside (get_or c.args.text.now c.loop-i.i 0) ≡ true = cc in
    pieces_one_on c.args.cut c.args.text.now c.loop-i.i c.loop-i-test.true cut ∙ c.loop-i.invariant

pub returns-clause-first : goal.returns-clause-first
returns-clause-first c =
    sym c.loop-i.invariant ∙ ap (pieces c.args.cut) (drop_all c.loop-i.i c.args.text.now c.loop-i-test.false) ∙ no_pieces c.args.cut
