-- Proper states of rows with a relation.
use Rattle.std.specs.Prelude.{◌≡◌, true, refl}
use Rattle.std.proofs.lemmas.Bool.{false≢true}
use Rattle.dk_forms.specs.declared.states.State.{State}
use Rattle.dk_forms.specs.declared.states.State.TheVariants.{Empty, Broken, Holds}
use Rattle.dk_forms.specs.Plain.{IsPlainState}
use Rattle.dk_template.specs.Fitting.{fits}
use Rattle.dk_template.specs.Laws.{PlainStatesFitWhereTheyHold}
use Rattle.dk_template.specs.declared.templates.StateForm.TheVariants.{Plain}

-- a state of the form plain that fits is Holds
pub plain_fits : (s : State) → IsPlainState s → fits s ≡ true → s ≡ Holds
plain_fits Empty p f = absurd (false≢true f)
plain_fits Broken p f = absurd (false≢true f)
plain_fits Holds p f = refl
plain_fits _ p f = absurd p

pub plain_states_fit_where_they_hold : PlainStatesFitWhereTheyHold
plain_states_fit_where_they_hold Plain s e p f = plain_fits s p f
plain_states_fit_where_they_hold _ s e p f = absurd (false≢true e)
