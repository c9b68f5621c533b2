use Rattle.std.proofs.Common.{◌∙◌, sym}
use Rattle.dk_core.specs.Standing.{SessionStandsFor}
use Rattle.dk_core.specs.Sections.{section_of}
use Rattle.dk_run.specs.Commands.{is_selected, report_options}
use Rattle.dk_run.proofs.Sections.{no_section}
use Rattle.dk_run.proofs.Writing.{told_nothing}
use Rattle.dk_run.proofs.reporting.tell_section.Goals as goal

pub returns-then-not-has : goal.returns-then-not-has
returns-then-not-has g c =
    told_nothing (SessionStandsFor c.args.session.now) (λ h. section_of (report_options c.args.command.now) (is_selected c.args.command.now) h c.args.p) _ _
    (λ h stands. sym (no_section (report_options c.args.command.now) (is_selected c.args.command.now) h c.args.p (sym (c.requires.has h stands) ∙ c.if-not-has.true)))
