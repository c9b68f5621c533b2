use Rattle.std.proofs.Common.{ap, length}
use Rattle.std.proofs.lemmas.Result.{IfOk-weaker}
use Rattle.dk_page.proofs.Counting.{next_heading}
use Rattle.dk_page.proofs.headings.Headings.next.Goals as goal

pub returns : goal.returns
returns c =
    IfOk-weaker c.id_behind.result _ _
    (λ id is names stands.
    next_heading c.args.self.now c.push.new.self c.args.name.now id (length c.under-count.result.now) names (ap length c.under-count.ensures)
    c.in_ok-push.ensures is stands) c.id_behind.ensures
