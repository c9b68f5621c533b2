-- What stands for a letter, filling by filling.
use Rattle.std.proofs.Common.{◌≡◌, ◌==◌, ◌<◌, ◌≤◌, ◌+◌, ◌∙◌, ◌∷◌, [], ℕ, List, length, drop, get_or, ap, eq-eqb, sym}
use Rattle.std.proofs.lemmas.List.{at_drop_all, at_drop_more}
use Rattle.std.specs.Prelude.{if◌then◌else◌}
use Rattle.dk_languages.specs.Holes.{filled_letter}
use Rattle.dk_languages.specs.declared.fillings.Filling.{Filling}

module _ (fillings : List Filling) (i b : ℕ) where
  pub letter_here : (f : Filling) → i < length fillings → f ≡ get_or fillings i f → f.letter ≡ b → f.text ≡ filled_letter (drop i fillings) b
  letter_here f within is same =
      sym (at_drop_more (λ fs. filled_letter fs b) fillings i f within
      ∙ ap (λ (g : Filling). if g.letter == b then g.text else filled_letter (drop (i + 1) fillings) b) (sym is)
      ∙ ap (λ t. if t then f.text else filled_letter (drop (i + 1) fillings) b) (eq-eqb f.letter b same))

  pub letter_nowhere : length fillings ≤ i → b ∷ [] ≡ filled_letter (drop i fillings) b
  letter_nowhere past = sym (at_drop_all (λ fs. filled_letter fs b) fillings i past)
