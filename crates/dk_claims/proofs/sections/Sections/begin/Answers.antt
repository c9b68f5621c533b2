use Rattle.std.proofs.Common.{◌∙◌, sym}
use Rattle.std.proofs.lemmas.Result.{on_ok_weaker}
use Rattle.dk_claims.proofs.Sectioning.{begun, closed_as_nothing, closed_as_some}
use Rattle.dk_claims.proofs.sections.Sections.begin.Goals as goal

pub returns-then-is_nothing : goal.returns-then-is_nothing
returns-then-is_nothing c =
    begun c.args.self.now c.args.heading.now c.replace-last.result c.replace-last.new.dest c.args.self.now.closed c.requires.ruler c.requires.words
    c.replace-last.ensures.value (c.replace-last.ensures.after ∙ c.in_ok-section.ensures)
    (closed_as_nothing c.args.self.now.closed c.replace-last.result (sym c.is_nothing.ensures ∙ c.if-is_nothing.true))

pub returns : goal.returns
returns c =
    on_ok_weaker c.push.result (λ pushed. begun c.args.self.now c.args.heading.now c.replace-last.result c.replace-last.new.dest c.push.new.self
    c.requires.ruler c.requires.words c.replace-last.ensures.value (c.replace-last.ensures.after ∙ c.in_ok-section.ensures)
    (closed_as_some c.args.self.now.closed c.push.new.self c.replace-last.result (sym c.is_nothing.ensures ∙ c.if-is_nothing.false) pushed)) c.push.ensures.ok
