use Rattle.std.proofs.Common.{sym, subst}
use Rattle.dk_blocks.specs.History.{file_ended}
use Rattle.dk_blocks.specs.Standing.{ReaderStandsFor}
use Rattle.dk_core.specs.Keeping.{Keeping}
use Rattle.dk_core.specs.Standing.{Stands}
use Rattle.dk_core.proofs.kept.SessionParts.end_file.Goals as goal

pub returns-clause-reads : goal.returns-clause-reads
returns-clause-reads c h reads =
    c.end_file.ensures.stands h (subst (λ (k : Keeping). ReaderStandsFor k.reader h) (sym c.self.view_is) reads)

pub returns-clause-stands : goal.returns-clause-stands
unfolding Stands file_ended
returns-clause-stands c h stands =
    let own = subst (λ (k : Keeping). Stands k h) (sym c.self.view_is) stands in
    record { reader = c.end_file.ensures.stands h own.reader; engines = own.engines; grammar = own.grammar }
