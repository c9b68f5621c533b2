use Rattle.std.proofs.Common.{ℕ, List, subst}
use Rattle.std.proofs.lemmas.Result.{on_ok_weaker}
use Rattle.dk_claims.specs.declared.sections.ReportLine.{ReportLine}
use Rattle.dk_formats.specs.Steps.{AddsJson}
use Rattle.dk_formats.proofs.Adding.{json_added}
use Rattle.dk_formats.proofs.json.push_json.Goals as goal

pub returns : goal.returns
returns c =
    let infos = c.args.vars.now in
    let old : List ℕ = c.args.text.now in
    on_ok_weaker c.push_lines.result (λ adds.
    json_added infos c.args.section.now old c.push_lines.new.text
    (subst (λ (point : List ℕ). AddsJson infos point c.args.section.now.lines old c.push_lines.new.text) c.as_slice.ensures
    (subst (λ (lines : List ReportLine). AddsJson infos c.as_slice.result.now lines old c.push_lines.new.text) c.as_slice-2.ensures adds))) c.push_lines.ensures
