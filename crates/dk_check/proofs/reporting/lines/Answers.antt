use Rattle.std.proofs.Common.{◌≡◌, ◌∙◌, ◌++◌, ◌∷◌, [], ◌+◌, ℕ, List, Some, ap, append_assoc, arith, drop, length, length-append, rules, sym}
use Rattle.std.proofs.lemmas.List.{append-nil}
use Rattle.std.proofs.lemmas.Slice.Zip.{zip_end, zip_turn}
use Rattle.std.specs.Iterator.Adapters.{zip_first, zip_second}
use Rattle.std.specs.Slice.Iter.{iter_rest}
use Rattle.dk_driver.specs.Files.{file_name_at}
use Rattle.dk_verdicts.specs.Reports.{verdict_line, verdict_lines}
use Rattle.dk_check.proofs.VerdictLines.{lines_more, lines_over}
use Rattle.dk_check.proofs.reporting.lines.Goals as goal

pub loop-claim-init : goal.loop-claim-init
loop-claim-init c = ap (λ (l : List ℕ). l ++ verdict_lines (file_name_at c.args.names.now) c.args.claims.now c.args.verdicts.now) (sym c.new-text.ensures)

pub loop-claim-preserved : goal.loop-claim-preserved
loop-claim-preserved c =
    let name : ℕ → List ℕ = file_name_at c.args.names.now in
    let n : ℕ = length c.loop-claim.yielded in
    let first : iter_rest (zip_first c.into_iter-claim-iterator.result) ≡ c.args.claims.now = search rules in
    let second : iter_rest (zip_second c.into_iter-claim-iterator.result) ≡ c.args.verdicts.now = search rules in
    let is : c.next.result ≡ Some (c.in-Some.claim, c.in-Some.verdict) = search rules in
    let turn = zip_turn c.args.claims.now c.args.verdicts.now c.loop-claim.yielded c.into_iter-claim-iterator.result c.loop-claim.claim-iterator c.next.new.self c.next.result
    first second c.loop-claim.yielded_by (c.in-Some.claim, c.in-Some.verdict) is c.next.ensures.steps in
    let line : List ℕ = verdict_line name c.in-Some.claim.now c.in-Some.verdict.now in
    let rest : List ℕ = verdict_lines name (drop (n + 1) c.args.claims.now) (drop (n + 1) c.args.verdicts.now) in
    let pushed : c.push_verdict.new.text ≡ c.loop-claim.text ++ line = c.in_ok-push_verdict.ensures name c.file_of.ensures in
    let long : length (c.loop-claim.yielded ++ (c.in-Some.claim, c.in-Some.verdict) ∷ []) ≡ n + 1 = omega (arith, length-append c.loop-claim.yielded ((c.in-Some.claim, c.in-Some.verdict) ∷ [])) in
    c.loop-claim.invariant
    ∙ ap (λ (l : List ℕ). c.loop-claim.text ++ l) (lines_more name c.args.claims.now c.args.verdicts.now n c.in-Some.claim.now c.in-Some.verdict.now turn.0 turn.1 (turn.2 c.in-Some.claim.now) (turn.3 c.in-Some.verdict.now))
    ∙ sym (append_assoc c.loop-claim.text line rest)
    ∙ ap (λ (l : List ℕ). l ++ rest) (sym pushed)
    ∙ ap (λ (k : ℕ). c.push_verdict.new.text ++ verdict_lines name (drop k c.args.claims.now) (drop k c.args.verdicts.now)) (sym long)

pub returns : goal.returns
returns c =
    let name : ℕ → List ℕ = file_name_at c.args.names.now in
    let first : iter_rest (zip_first c.into_iter-claim-iterator.result) ≡ c.args.claims.now = search rules in
    let second : iter_rest (zip_second c.into_iter-claim-iterator.result) ≡ c.args.verdicts.now = search rules in
    let all = zip_end c.args.claims.now c.args.verdicts.now c.loop-claim.yielded c.into_iter-claim-iterator.result c.loop-claim.claim-iterator c.next.new.self c.next.result
    first second c.loop-claim.yielded_by c.in-None.is c.next.ensures.steps in
    sym (c.loop-claim.invariant
    ∙ ap (λ (l : List ℕ). c.loop-claim.text ++ l) (lines_over name c.args.claims.now c.args.verdicts.now (length c.loop-claim.yielded) all)
    ∙ append-nil c.loop-claim.text)
