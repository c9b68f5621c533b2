use Rattle.std.specs.Prelude.{◌<◌, ◌^◌, ◌∷◌, [], codes, refl}
use Rattle.std.specs.Fmt.{decimal}
use Rattle.std.proofs.Common.{◌∙◌, arith}
use Rattle.dk_state.specs.Saved.{version_of}
use Rattle.dk_state.proofs.Onto.{fields_onto, line_onto}
use Rattle.dk_template.specs.declared.grammar.Grammar.{Grammar}
use Rattle.dk_template.specs.declared.grammar.Grammar.TheVariants.{One, Two}
use Rattle.dk_state.proofs.loading.grammar.Goals as goal

small : (g : Grammar) → version_of g < 2 ^ 64
small One = omega arith
small Two = omega arith

pub returns : goal.returns
returns c g rest is =
    let passed = c.pass.ensures.read (fields_onto (decimal (version_of g) ∷ []) (10 ∷ rest)) (is ∙ line_onto (codes "daikon-state") (decimal (version_of g) ∷ []) rest) in
    let version = c.natural-version.ensures.read (version_of g) (10 ∷ rest) (small g) refl passed in
    (c.grammar_of.ensures g version.0, c.pass-2.ensures.read rest version.1)
