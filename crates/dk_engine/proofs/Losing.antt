-- What the rules ask of a row loses as much as all rules.
use Rattle.std.specs.Prelude.{◌≡◌, ◌&&◌, true, not, refl}
use Rattle.std.specs.List.{list_any}
use Rattle.std.proofs.Common.{ap, ◌∙◌}
use Rattle.std.proofs.lemmas.Bool.{false≢true}
use Rattle.std.proofs.lemmas.Bool.Decides.{Decides-int_eq}
use Rattle.dk_forms.specs.declared.states.State.{State}
use Rattle.dk_suppress.proofs.AskedRows.{asked_any}
use Rattle.dk_suppress.specs.Rules.{ask_alike, asked_of}
use Rattle.dk_template.specs.Premises.{is_greatest_to, is_least_from, is_only, suffices}
use Rattle.dk_template.specs.declared.answers.Premise.{Premise}
use Rattle.dk_template.specs.declared.answers.Premise.TheVariants.{Holds, LeastAtLeast, GreatestAtMost, Only}
use Rattle.dk_template.specs.declared.grammar.RowId.{RowId}
use Rattle.dk_engine.specs.Feeding.Narrow.{loses}

-- premises that ask the same
suffice_alike : (s : State) (p q : Premise) → ask_alike p q ≡ true → suffices p s ≡ suffices q s
suffice_alike s (Holds r a) (Holds t b) h = refl
suffice_alike s (LeastAtLeast r a k) (LeastAtLeast t b l) h = ap (λ m. is_least_from m s) ((Decides-int_eq k l).0 h)
suffice_alike s (GreatestAtMost r a k) (GreatestAtMost t b l) h = ap (λ m. is_greatest_to m s) ((Decides-int_eq k l).0 h)
suffice_alike s (Only a k) (Only b l) h = ap (λ m. is_only m s) ((Decides-int_eq k l).0 h)
suffice_alike s (Holds r a) (LeastAtLeast t b l) h = absurd (false≢true h)
suffice_alike s (Holds r a) (GreatestAtMost t b l) h = absurd (false≢true h)
suffice_alike s (Holds r a) (Only b l) h = absurd (false≢true h)
suffice_alike s (LeastAtLeast r a k) (Holds t b) h = absurd (false≢true h)
suffice_alike s (LeastAtLeast r a k) (GreatestAtMost t b l) h = absurd (false≢true h)
suffice_alike s (LeastAtLeast r a k) (Only b l) h = absurd (false≢true h)
suffice_alike s (GreatestAtMost r a k) (Holds t b) h = absurd (false≢true h)
suffice_alike s (GreatestAtMost r a k) (LeastAtLeast t b l) h = absurd (false≢true h)
suffice_alike s (GreatestAtMost r a k) (Only b l) h = absurd (false≢true h)
suffice_alike s (Only a k) (Holds t b) h = absurd (false≢true h)
suffice_alike s (Only a k) (LeastAtLeast t b l) h = absurd (false≢true h)
suffice_alike s (Only a k) (GreatestAtMost t b l) h = absurd (false≢true h)

pub asked_lose : (row : RowId) (old new : State) → list_any (λ p. suffices p old && not (suffices p new)) (asked_of row) ≡ loses row old new
asked_lose row old new =
    asked_any (λ p. suffices p old && not (suffices p new))
    (λ p q same. ap (λ b. b && not (suffices p new)) (suffice_alike old p q same) ∙ ap (λ b. suffices q old && not b) (suffice_alike new p q same))
    row
