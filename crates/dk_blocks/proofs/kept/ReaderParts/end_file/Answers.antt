use Rattle.std.proofs.Common.{sym, subst}
use Rattle.dk_blocks.specs.History.{file_ended}
use Rattle.dk_blocks.specs.Keeping.{Keeping}
use Rattle.dk_blocks.specs.Standing.{Stands}
use Rattle.dk_blocks.proofs.kept.ReaderParts.end_file.Goals as goal

pub returns-clause-stands : goal.returns-clause-stands
unfolding Stands file_ended
returns-clause-stands c h stands =
    let own = subst (λ (k : Keeping). Stands k h) (sym c.self.view_is) stands in
    record { table = own.table; header = own.header; calls = c.clear.ensures; many = own.many }
