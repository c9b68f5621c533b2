use Rattle.std.specs.Prelude.{◌++◌, ◌∷◌, refl}
use Rattle.std.proofs.Common.{◌∙◌, ap, append-nil}
use Rattle.dk_base.specs.Values.Spelling.{bool_text}
use Rattle.dk_base.specs.declared.values.Value.TheVariants.{Bool}
use Rattle.dk_state.specs.Lines.{behind_blank}
use Rattle.dk_state.proofs.reading_states.truth.Goals as goal

pub returns-clause-read : goal.returns-clause-read
returns-clause-read c b rest is =
    let value = c.in_ok-value.ensures.read (Bool b) (10 ∷ rest) refl tt refl (is ∙ ap (λ t. t ++ 10 ∷ rest) (append-nil (behind_blank (bool_text b)))) in
    (c.truth_in.ensures.read b value.0, value.1)
