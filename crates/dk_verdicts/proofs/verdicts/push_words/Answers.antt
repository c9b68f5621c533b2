use Rattle.std.proofs.Common.{◌≡◌, ◌++◌, ◌∙◌, ap, ℕ, List, subst, sym}
use Rattle.std.specs.Fmt.{decimal}
use Rattle.dk_verdicts.proofs.Lines.{on_ok, violated_text}
use Rattle.dk_verdicts.specs.Reports.{IsNamed, verdict_text}
use Rattle.dk_verdicts.specs.declared.verdicts.Verdict.{Verdict}
use Rattle.dk_verdicts.proofs.verdicts.push_words.Goals as goal

pub returns-in_ok-append-in-Violated-3 : goal.returns-in_ok-append-in-Violated-3
returns-in_ok-append-in-Violated-3 c =
    on_ok c.append_number-in-Violated.result _ _
    (λ last name named.
    subst (λ (v : Verdict). c.append_number-in-Violated.new.self ≡ c.args.text.now ++ verdict_text name v) (sym c.in-Violated.is)
    (violated_text c.args.text.now c.append-in-Violated.new.self c.append-in-Violated-2.new.self c.append-in-Violated-3.new.self c.append_number-in-Violated.new.self (decimal c.in-Violated.line) c.args.file.now name c.in-Violated.file c.in-Violated.line
    c.in_ok-append-in-Violated.ensures.ok (c.in_ok-append-in-Violated-2.ensures.ok ∙ ap (λ (l : List ℕ). c.append-in-Violated.new.self ++ l) c.as_bytes.ensures.value) c.in_ok-append-in-Violated-3.ensures.ok last
    (subst (λ (v : Verdict). IsNamed name v c.args.file.now) c.in-Violated.is named)))
    c.append_number-in-Violated.ensures.ok
