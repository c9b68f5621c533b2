use Rattle.std.proofs.Common.{◌∙◌, sym}
use Rattle.dk_claims.proofs.Sectioning.{all_sections, closed_as_nothing, closed_as_some}
use Rattle.dk_claims.proofs.sections.Sections.into_list.Goals as goal

pub returns-then-is_nothing : goal.returns-then-is_nothing
returns-then-is_nothing c lines stands =
    closed_as_nothing c.args.self.closed c.args.self.current (sym c.is_nothing.ensures ∙ c.if-is_nothing.true)
    ∙ all_sections c.args.self lines stands

pub returns : goal.returns
returns c lines stands =
    closed_as_some c.args.self.closed c.push.new.self c.args.self.current (sym c.is_nothing.ensures ∙ c.if-is_nothing.false) c.in_ok-push.ensures.ok
    ∙ all_sections c.args.self lines stands
