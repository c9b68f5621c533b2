use Rattle.dk_hierarchy.proofs.Standing.{merged_by}
use Rattle.dk_hierarchy.proofs.TableEngines.{engine_got}
use Rattle.dk_hierarchy.proofs.merged.merge_by.Goals as goal

pub returns-clause-stands : goal.returns-clause-stands
returns-clause-stands c =
    merged_by c.args.points.now c.args.p.0 c.args.engines.now c.requires.engines c.index-engines-p.result
    (engine_got c.args.points.now c.args.engines.now c.requires.engines c.args.p.0 c.index-engines-p.result c.requires.point c.index-engines-p.is) c.in_ok-ways.ways
    c.args.shortcuts.now c.in_ok-ways.ensures c.requires.shortcuts.hold
