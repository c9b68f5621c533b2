use Rattle.std.specs.Prelude.{◌≡◌, ℤ, Some}
use Rattle.std.proofs.Common.{◌∙◌, SFits, ap, rules, sym, w64}
use mir.Syntax.{w128}
use Rattle.std.proofs.lemmas.Int.{to_z-of_z}
use Rattle.dk_base.specs.Numbers.{integer_of}
use Rattle.dk_state.proofs.Numerals.{integer_back}
use Rattle.dk_state.proofs.front.wide_in.Goals as goal

pub returns-in-Some-clause-read : goal.returns-in-Some-clause-read
returns-in-Some-clause-read c = λ z small is.
    let y = c.in-Some.number in
    let fits : SFits w64 y = search rules in
    let wide : SFits w128 c.from.result = record { sfits = c.from.type_inv } in
    let same : y ≡ z = integer_back z y small (sym c.in-Some.is ∙ (c.parse_integer.ensures ∙ ap integer_of is)) in
    ap (λ (x : ℤ). Some x) (to_z-of_z w128 c.from.result wide ∙ (c.from.ensures ∙ (to_z-of_z w64 y fits ∙ same)))
