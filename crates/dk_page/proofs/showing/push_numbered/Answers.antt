use Rattle.std.proofs.Common.{◌≡◌, ◌∙◌, ◌++◌, ◌∷◌, [], ◌/◌, ◌%◌, ℕ, List, ap, codes}
use Rattle.std.proofs.lemmas.Result.{on_ok_weaker}
use Rattle.std.specs.Char.{digit_char}
use Rattle.dk_page.proofs.Adding.{more, more_as}
use Rattle.dk_page.proofs.showing.push_numbered.Goals as goal

pub returns : goal.returns
returns c =
    let b = c.args.byte in
    let first = c.hexadecimal_digit.result in
    let second = c.hexadecimal_digit-2.result in
    let digits : List ℕ = digit_char (b / 16) ∷ digit_char (b % 16) ∷ [] in
    let are : first ∷ second ∷ [] ≡ digits =
    ap (λ (d : ℕ). d ∷ second ∷ []) c.hexadecimal_digit.ensures ∙ ap (λ (d : ℕ). digit_char (b / 16) ∷ d ∷ []) c.hexadecimal_digit-2.ensures in
    on_ok_weaker c.append-3.result
    (λ last. more c.args.text.now (codes "<var>\\x" ++ digits) (codes "</var>") c.append-2.new.self c.append-3.new.self
    (more_as c.args.text.now (codes "<var>\\x") digits (first ∷ second ∷ []) c.append.new.self c.append-2.new.self c.in_ok-append.ensures.ok
    c.in_ok-append-2.ensures.ok are) last) c.append-3.ensures.ok
