use Rattle.std.proofs.Common.{◌∙◌, ◌++◌, ℕ, List, ap, append_assoc}
use Rattle.dk_languages.specs.Rows.{separator_in}
use Rattle.dk_languages.specs.Tellings.{value_text}
use Rattle.dk_languages.proofs.Growing.{one_more}
use Rattle.dk_languages.proofs.tellings.push_rest.Goals as goal

pub loop-value-preserved : goal.loop-value-preserved
loop-value-preserved g c =
    let between = separator_in c.args.language in
    let said = value_text c.args.language c.args.row c.args.roles.now c.args.state.now in
    let literal = g.T.Literal.literal_of c.args.language in
    let old : List ℕ = c.loop-value.text in
    one_more c.args.values.now c.loop-value.value-index c.value-item.result c.loop-value-test.true c.value-item.is
    (λ x. between ++ said (literal x)) c.args.text.now old c.push_value.new.text c.loop-value.invariant
    (c.in_ok-push_value.ensures
    ∙ ap (λ (t : List ℕ). t ++ said (literal c.value-item.result)) (c.in_ok-append.ensures.ok ∙ ap (λ (s : List ℕ). old ++ s) (c.as_bytes.ensures.value ∙ c.separator_in.ensures))
    ∙ append_assoc old between (said (literal c.value-item.result)))
