use Rattle.std.proofs.Common.{◌∙◌, ◌++◌, ap, sym}
use Rattle.std.proofs.lemmas.Result.{on_ok_weaker}
use Rattle.std.specs.List.{join_by}
use Rattle.dk_forms.specs.declared.states.State.{State}
use Rattle.dk_languages.specs.Literals.{literals, string_text}
use Rattle.dk_languages.specs.Literals.Numbers.{number_text}
use Rattle.dk_languages.specs.Rows.{separator_in}
use Rattle.dk_languages.specs.Tellings.{value_text}
use Rattle.dk_languages.proofs.Growing.{join_by-map}
use Rattle.dk_languages.proofs.tellings.push_known.Goals as goal

pub returns-in-Ints : goal.returns-in-Ints
returns-in-Ints c =
    let said = value_text c.args.language c.args.row c.args.roles.now c.args.state.now in
    let between = separator_in c.args.language in
    on_ok_weaker c.push_values.result
    (λ added. added
    ∙ ap (λ ks. c.args.text.now ++ join_by (λ k. said (number_text c.args.language k)) between ks) c.as_slice.ensures.items
    ∙ ap (λ t. c.args.text.now ++ t) (sym (join_by-map said (number_text c.args.language) between c.in-Ints.known))
    ∙ ap (λ (s : State). c.args.text.now ++ join_by said between (literals c.args.language s)) (sym c.in-Ints.is))
    c.push_values.ensures

pub returns-in-Texts : goal.returns-in-Texts
returns-in-Texts c =
    let said = value_text c.args.language c.args.row c.args.roles.now c.args.state.now in
    let between = separator_in c.args.language in
    on_ok_weaker c.push_values-in-Texts.result
    (λ added. added
    ∙ ap (λ ts. c.args.text.now ++ join_by (λ t. said (string_text c.args.language t)) between ts) c.as_slice-in-Texts.ensures
    ∙ ap (λ t. c.args.text.now ++ t) (sym (join_by-map said (string_text c.args.language) between c.in-Texts.known))
    ∙ ap (λ (s : State). c.args.text.now ++ join_by said between (literals c.args.language s)) (sym c.in-Texts.is))
    c.push_values-in-Texts.ensures
