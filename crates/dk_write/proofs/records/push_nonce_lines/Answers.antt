use Rattle.std.proofs.Common.{◌≡◌, ◌++◌, ◌∙◌, ◌∷◌, [], ℤ, ap, codes, of_z, to_z, w64}
use Rattle.std.specs.Fmt.{signed_decimal}
use Rattle.std.proofs.lemmas.Int.{to_z-of_z}
use Rattle.dk_lines.specs.Passing.{joined}
use Rattle.dk_write.proofs.Loops.{more_lines, on_ok}
use Rattle.dk_write.proofs.records.push_nonce_lines.Goals as goal

pub returns : goal.returns
returns c =
    let same : to_z w64 (of_z w64 c.args.number) ≡ c.args.number = to_z-of_z w64 c.args.number c.ranges.number in
    on_ok c.push_number_line.result
    (λ last. more_lines c.args.text.now c.push_line.new.text c.push_number_line.new.text (codes "this_invocation_nonce" ∷ []) (signed_decimal c.args.number ∷ []) c.in_ok-push_line.ensures
    (last ∙ ap (λ (z : ℤ). c.push_line.new.text ++ joined (signed_decimal z ∷ [])) same))
    c.push_number_line.ensures
