use Rattle.std.specs.Prelude.{◌++◌, ◌∷◌}
use Rattle.std.proofs.Common.{◌∙◌, ap, append_assoc}
use Rattle.dk_state.specs.Lines.{behind_blank, fields_text}
use Rattle.dk_state.specs.StateWords.{state_word_in, told_fields}
use Rattle.dk_state.proofs.StateFields.{told_first, word_first}
use Rattle.dk_state.proofs.reading_states.state.Goals as goal

pub returns-clause-read : goal.returns-clause-read
returns-clause-read c s rest fits is =
    let first = word_first s in
    let told = fields_text (told_fields s) in
    let start = is ∙ ap (λ fs. fields_text fs ++ 10 ∷ rest) first.fields ∙ append_assoc (behind_blank first.text) told (10 ∷ rest) in
    let field = c.field.ensures.read first.text (told ++ 10 ∷ rest) first.plain (told_first (told_fields s) rest) start in
    c.state_of_word.ensures.read s rest (c.word_in-word.ensures ∙ ap state_word_in field.0 ∙ first.word) fits field.1
