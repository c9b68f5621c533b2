-- The report of the checker.
use Rattle.std.proofs.Common.{◌≡◌, ◌∙◌, ℕ, List, map, ap, sym, subst}
use Rattle.std.specs.List.{AllZip}
use Rattle.dk_blocks.specs.History.{History}
use Rattle.dk_claims.specs.declared.claims.Claim.{Claim}
use Rattle.dk_driver.specs.Consuming.{Record}
use Rattle.dk_driver.specs.Files.{file_name_at}
use Rattle.dk_driver.proofs.Taking.{table_of}
use Rattle.dk_driver.specs.Standing.{StandsFor as FeedStandsFor, points_of, told_by}
use Rattle.dk_driver.specs.declared.feed.Feed.{Feed}
use Rattle.dk_points.specs.Table.{Point}
use Rattle.dk_verdicts.specs.Records.{Record as Checked}
use Rattle.dk_verdicts.specs.Reports.{verdict_lines}
use Rattle.dk_verdicts.specs.Standing as verdicts
use Rattle.dk_verdicts.specs.Verdicts.{IsVerdict}
use Rattle.dk_verdicts.specs.declared.verdicts.Verdict.{Verdict}
use Rattle.dk_check.specs.Standing.{StandsFor, checked, claims_of}
use Rattle.dk_check.specs.Statuses.{IsReportOf}
use Rattle.dk_check.specs.declared.checking.Checking.{Checking}

-- the lines of the verdicts are the report of what was told
report_is : (names : List (List ℕ)) (claims : List Claim) (found : List Verdict) (ps : List Point) (c : Checking) (h : History) (records : List Record) (text : List ℕ)
    → ps ≡ h.table → StandsFor c (told_by h records)
    → ((rs : List Checked) → verdicts.StandsFor c.checker ps rs → AllZip (IsVerdict ps rs) claims found)
    → text ≡ verdict_lines (file_name_at names) claims found → IsReportOf names claims (told_by h records) text
report_is names claims found ps c h records text same stands judged is = record {
  verdicts = found;
  judged = subst (λ (l : List Point). AllZip (IsVerdict l (map checked records)) claims found) same
      (judged (map checked records) (subst (λ (l : List Point). verdicts.StandsFor c.checker l (map checked records)) (sym same) stands.checker));
  is_text = is;
}

-- of the feed, whose consumer and points are known by other names
pub report_told : (names : List (List ℕ)) (claims : List Claim) (listed found : List Verdict) (ps : List Point) (own : Checking) (feed : Feed Checking) (text : List ℕ)
    → own ≡ feed.consumer → ps ≡ points_of feed → claims ≡ claims_of own → listed ≡ found
    → ((rs : List Checked) → verdicts.StandsFor own.checker ps rs → AllZip (IsVerdict ps rs) (claims_of own) found)
    → text ≡ verdict_lines (file_name_at names) claims listed
    → (h : History) (records : List Record) → FeedStandsFor StandsFor feed h records → IsReportOf names (claims_of feed.consumer) (told_by h records) text
report_told names claims listed found ps own feed text same points of lists judged is h records stands =
    let line : List Claim → List Verdict → List ℕ = verdict_lines (file_name_at names) in
    subst (λ (c : Checking). IsReportOf names (claims_of c) (told_by h records) text) same
    (report_is names (claims_of own) found ps own h records text (points ∙ table_of feed.events.reader h stands.events)
    (subst (λ (c : Checking). StandsFor c (told_by h records)) (sym same) stands.consumer) judged
    (is ∙ ap (λ (l : List Claim). line l listed) of ∙ ap (line (claims_of own)) lists))
