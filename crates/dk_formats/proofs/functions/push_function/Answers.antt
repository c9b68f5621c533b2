use Rattle.std.proofs.Common.{◌∙◌, ◌++◌, ℕ, List, ap, subst}
use Rattle.std.proofs.lemmas.Result.{on_ok_weaker}
use Rattle.dk_claims.specs.declared.sections.ReportLine.{ReportLine}
use Rattle.dk_functions.specs.Functions.{opening}
use Rattle.dk_formats.specs.Steps.{AreParts}
use Rattle.dk_formats.proofs.Adding.{function_added}
use Rattle.dk_formats.proofs.functions.push_function.Goals as goal

pub returns : goal.returns
returns c =
    let l = c.args.language in
    let infos = c.args.vars.now in
    let parts = c.in_ok-parts.parts in
    let old : List ℕ = c.args.text.now in
    let one : List ℕ = c.append.new.self in
    let two : List ℕ = c.push_opening.new.text in
    on_ok_weaker c.push_closing.result (λ closed.
    function_added l infos c.args.section.now parts old one two c.append-2.new.self c.push_closing.new.text
    (subst (λ (lines : List ReportLine). AreParts l infos lines parts) c.as_slice.ensures c.in_ok-parts.ensures)
    (c.in_ok-append.ensures.ok ∙ ap (λ (t : List ℕ). old ++ t) c.as_slice-2.ensures)
    (c.in_ok-push_opening.ensures ∙ ap (λ (p : List ℕ). one ++ opening l infos p) c.as_slice-3.ensures)
    (c.in_ok-append-2.ensures.ok ∙ ap (λ (t : List ℕ). two ++ t) c.as_slice-4.ensures)
    closed) c.push_closing.ensures
