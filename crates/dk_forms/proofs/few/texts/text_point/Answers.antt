use Rattle.std.proofs.Common.{rules, sym, ap, ◌∙◌, ◌≡◌, ◌∷◌, []}
use Rattle.dk_forms.specs.declared.states.State.TheVariants.{Texts}
use Rattle.dk_forms.proofs.TextsLaws.{texts_of-one}
use Rattle.dk_forms.proofs.few.texts.text_point.Goals as goal

pub returns : goal.returns
returns c =
    let one : c.push.new.self ≡ c.args.value.now ∷ [] = search rules in
    ap Texts one ∙ sym (texts_of-one c.args.value.now)
