use Rattle.std.proofs.Common.{◌∙◌, ◌++◌, ◌∷◌, [], ℕ, List, ap}
use Rattle.std.proofs.lemmas.Result.{on_ok_weaker}
use Rattle.dk_languages.proofs.Letters.{letter_here, letter_nowhere}
use Rattle.dk_languages.proofs.fillings.push_letter.Goals as goal

pub returns-then-filling-letter : goal.returns-then-filling-letter
returns-then-filling-letter c =
    let here =
    letter_here c.args.fillings.now c.loop-filling.filling-index c.args.letter c.filling-item.result c.loop-filling-test.true c.filling-item.is c.if-filling-letter.true in
    on_ok_weaker c.append.result
    (λ added. added
    ∙ ap (λ (old : List ℕ). old ++ c.as_slice.result.now) c.loop-filling.invariant.0
    ∙ ap (λ (t : List ℕ). c.args.text.now ++ t) (c.as_slice.ensures ∙ here ∙ c.loop-filling.invariant.1))
    c.append.ensures.ok

pub returns : goal.returns
returns c =
    let nowhere = letter_nowhere c.args.fillings.now c.loop-filling.filling-index c.args.letter c.loop-filling-test.false in
    on_ok_weaker c.push.result
    (λ added. added
    ∙ ap (λ (old : List ℕ). old ++ c.args.letter ∷ []) c.loop-filling.invariant.0
    ∙ ap (λ (t : List ℕ). c.args.text.now ++ t) (nowhere ∙ c.loop-filling.invariant.1))
    c.push.ensures.ok
