use Rattle.std.specs.Prelude.{[]}
use Rattle.dk_hierarchy.proofs.Descending.{by_none}
use Rattle.dk_hierarchy.proofs.Standing.{merged_at}
use Rattle.dk_hierarchy.proofs.TableEngines.{engine_got}
use Rattle.dk_hierarchy.proofs.merged.merge.Goals as goal

pub returns-clause-stands : goal.returns-clause-stands
returns-clause-stands c =
    merged_at c.args.points.now c.args.p.0 c.args.engines.now c.requires.engines c.index-engines-p.result
    (engine_got c.args.points.now c.args.engines.now c.requires.engines c.args.p.0 c.index-engines-p.result c.requires.point c.index-engines-p.is) c.in_ok-ways.ways
    (by_none c.args.points.now c.args.p.0 c.in_ok-ways.ways [] c.in_ok-ways.ensures)
