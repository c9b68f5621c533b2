use Rattle.std.specs.Prelude.{◌++◌, ◌∷◌, refl}
use Rattle.std.proofs.Common.{◌∙◌, ap, append-nil}
use Rattle.dk_base.specs.Values.Spelling.{hash_text}
use Rattle.dk_base.specs.declared.values.Value.TheVariants.{Hash}
use Rattle.dk_state.specs.Lines.{behind_blank}
use Rattle.dk_state.proofs.reading_states.code.Goals as goal

pub returns-clause-read : goal.returns-clause-read
returns-clause-read c h rest small is =
    let value = c.in_ok-value.ensures.read (Hash h) (10 ∷ rest) refl small refl (is ∙ ap (λ t. t ++ 10 ∷ rest) (append-nil (behind_blank (hash_text h)))) in
    (c.code_in.ensures.read h value.0, value.1)
