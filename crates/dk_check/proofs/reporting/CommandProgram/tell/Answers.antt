use Rattle.std.proofs.Common.{ℕ, List, subst, sym}
use Rattle.dk_driver.specs.Standing.{StandsFor as FeedStandsFor, told_by}
use Rattle.dk_program.proofs.Writing.{whole_ends}
use Rattle.dk_check.specs.Standing.{StandsFor, claims_of}
use Rattle.dk_check.specs.Statuses.{IsReportOf}
use Rattle.dk_check.proofs.reporting.CommandProgram.tell.Goals as goal

pub returns-in-Ok : goal.returns-in-Ok
returns-in-Ok g c =
    whole_ends (FeedStandsFor StandsFor c.args.feed) (λ h records. IsReportOf c.args.self.now.traces.names (claims_of c.args.feed.consumer) (told_by h records)) _ _ _ _ c.end_with.result
    c.as_slice-in-Ok.result.now
    (λ h records stands. subst (λ (text : List ℕ). IsReportOf c.args.self.now.traces.names (claims_of c.args.feed.consumer) (told_by h records) text) (sym c.as_slice-in-Ok.ensures)
    (subst (λ (names : List (List ℕ)). IsReportOf names (claims_of c.args.feed.consumer) (told_by h records) c.in-Ok.text) c.as_slice.ensures (c.in-Ok.ensures h records stands)))
    c.end_with.ensures
