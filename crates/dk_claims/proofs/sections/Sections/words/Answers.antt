use Rattle.std.proofs.Common.{◌∙◌, sym}
use Rattle.std.proofs.lemmas.Result.{on_ok_weaker}
use Rattle.dk_claims.proofs.Sectioning.{line_taken, remark_taken}
use Rattle.dk_claims.proofs.sections.Sections.words.Goals as goal

pub returns-then-is_remark : goal.returns-then-is_remark
returns-then-is_remark c =
    remark_taken c.args.self.now c.args.line.now c.if-self.false c.requires (sym c.is_remark.ensures ∙ c.if-is_remark.true)

pub returns : goal.returns
returns c =
    on_ok_weaker c.push.result (λ pushed. line_taken c.args.self.now c.args.line.now c.push.new.self c.in_ok-report_line.field-0
    c.if-self.false c.requires (sym c.is_remark.ensures ∙ c.if-is_remark.false) c.in_ok-report_line.ensures pushed) c.push.ensures.ok
