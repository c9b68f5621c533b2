use Rattle.dk_hierarchy.proofs.Passing.{no_shortcuts}
use Rattle.dk_report.proofs.sections.push_section.Goals as goal

pub push_section_by-requires-clause-shortcuts : goal.push_section_by-requires-clause-shortcuts
push_section_by-requires-clause-shortcuts c = no_shortcuts c.args.points.now c.args.engines.now
