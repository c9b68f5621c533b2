use Rattle.std.proofs.Common.{◌≡◌, []}
use Rattle.dk_blocks.specs.History.{nothing_by}
use Rattle.dk_blocks.specs.Standing.{points_of as points_in}
use Rattle.dk_core.proofs.Keeping.{no_engines}
use Rattle.dk_core.proofs.Taking.{table_of}
use Rattle.dk_core.proofs.kept.SessionParts.new.Goals as goal

pub invariant_of-result : goal.invariant_of-result
invariant_of-result c =
    let none : points_in c.in_ok-new.field-0 ≡ [] = table_of c.in_ok-new.field-0 (nothing_by c.args.grammar) (c.in_ok-new.ensures.stands c.args.grammar) in
    let sound = no_engines (points_in c.in_ok-new.field-0) c.args.grammar c.new-2.result.items none c.new-2.ensures.items in
    record { engines = sound.0; grammar = sound.1 }
