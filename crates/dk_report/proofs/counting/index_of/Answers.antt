use Rattle.std.proofs.Common.{◌≡◌, ◌∙◌, ap}
use Rattle.dk_bitmaps.specs.Bitmaps.{Indexed}
use Rattle.dk_classes.specs.Leaders.{own_leaders}
use Rattle.dk_report.proofs.Indexes.{index-is}
use Rattle.dk_report.proofs.Reported.{if_ok}
use Rattle.dk_report.specs.Counting.{IsIndexOf}
use Rattle.dk_report.proofs.counting.index_of.Goals as goal

pub returns : goal.returns
returns c =
    let kept = c.args.engine.now.kept in
    let held = c.presence.result.now in
    let leaders = c.leaders.result.now in
    if_ok c.of.result (λ (index : Indexed). index ≡ record { held = held; leaders = leaders }) (IsIndexOf kept)
    (λ index. index-is kept held leaders index c.presence.ensures (c.leaders.ensures.all ∙ ap own_leaders c.classes.ensures)) c.of.ensures
