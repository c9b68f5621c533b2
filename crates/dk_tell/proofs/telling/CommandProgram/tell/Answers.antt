use Rattle.std.proofs.Common.{◌∙◌, ap, ℕ, List, subst, sym}
use Rattle.dk_claims.specs.declared.sections.Section.{Section}
use Rattle.dk_driver.specs.Standing.{StandsFor as FeedStandsFor, told_by}
use Rattle.dk_formats.specs.Telling.{IsTold}
use Rattle.dk_points.specs.Table.{Point}
use Rattle.dk_program.proofs.Writing.{whole_ends}
use Rattle.dk_tell.specs.Reports.{IsToldOf}
use Rattle.dk_tell.specs.Standing.{Stands, sections_of}
use Rattle.dk_tell.proofs.telling.CommandProgram.tell.Goals as goal

pub returns-in-Ok : goal.returns-in-Ok
returns-in-Ok g c =
    whole_ends (FeedStandsFor Stands c.args.feed) (λ h records. IsToldOf c.args.self.now.format (sections_of c.args.feed.consumer) (told_by h records)) _ _ _ _ c.end_with.result
    c.as_slice.result.now
    (λ h records stands. subst (λ (text : List ℕ). IsTold c.args.self.now.format (sections_of c.args.feed.consumer) h.table text) (sym c.as_slice.ensures)
    (subst (λ (ps : List Point). IsTold c.args.self.now.format (sections_of c.args.feed.consumer) ps c.in-Ok.text) (c.points.ensures.table h records stands)
    (subst (λ (sections : List Section). IsTold c.args.self.now.format sections c.points.result.now c.in-Ok.text) (c.as_slice-sections.ensures ∙ ap sections_of c.consumer.ensures) c.in-Ok.ensures)))
    c.end_with.ensures
