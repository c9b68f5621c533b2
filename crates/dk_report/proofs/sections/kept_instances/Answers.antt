use Rattle.dk_hierarchy.proofs.Passing.{no_shortcuts}
use Rattle.dk_report.proofs.sections.kept_instances.Goals as goal

pub kept_by-requires-clause-shortcuts : goal.kept_by-requires-clause-shortcuts
kept_by-requires-clause-shortcuts c = no_shortcuts c.args.points.now c.args.engines.now
