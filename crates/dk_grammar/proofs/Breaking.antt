-- A tuple leaves Holds as it is exactly where it satisfies the relation.
use Rattle.std.specs.Prelude.{◌≡◌, ◌↔◌, [], ◌∷◌, Bool, true, false, not, List, IsTrue, refl}
use Rattle.std.proofs.Common.{subst, sym}
use Rattle.dk_base.specs.declared.values.Value.{Value}
use Rattle.dk_forms.specs.Plain.{plain_join, plain_of}
use Rattle.dk_forms.specs.declared.states.State.{State}
use Rattle.dk_forms.specs.declared.states.State.TheVariants.{Broken, Holds}
use Rattle.dk_meanings.proofs.RowLaws.{plain_rows}
use Rattle.dk_meanings.specs.Meanings.{relation_of, state_of}
use Rattle.dk_template.specs.Joins.{joined}
use Rattle.dk_template.specs.Proper.{IsProper}
use Rattle.dk_template.specs.Templates.{IsRow, form_of}
use Rattle.dk_template.specs.declared.grammar.RowId.{RowId}
use Rattle.dk_template.specs.declared.templates.StateForm.{StateForm}
use Rattle.dk_template.specs.declared.templates.StateForm.TheVariants.{Plain}

-- Holds is proper for a row with a relation
pub holds_is_proper : {form : StateForm} → form ≡ Plain → IsProper form Holds
holds_is_proper e = subst (λ f. IsProper f Holds) (sym e) tt

-- that Broken is Holds
abbrev AreApart : State → Type 0
AreApart Broken = Unit {0}
AreApart _ = ⊥

stays_where : (b r : Bool) → IsTrue b ↔ (plain_join Holds (plain_of (r ∷ [])) ≡ Holds) → not b ≡ not r
stays_where true true h = refl
stays_where false false h = refl
stays_where true false h = absurd (subst AreApart (h.0 refl) tt)
stays_where false true h = sym (h.1 refl)

pub breaks_where : (row : RowId) → IsRow row → form_of row ≡ Plain → (tuple : List Value) {stays : Bool}
    → IsTrue stays ↔ (joined (form_of row) Holds (state_of row (tuple ∷ [])) ≡ Holds) → not stays ≡ not (relation_of row tuple)
breaks_where row is plain tuple {stays} h =
    stays_where stays (relation_of row tuple) (subst (λ s. IsTrue stays ↔ (plain_join Holds s ≡ Holds)) (plain_rows row is plain (tuple ∷ []))
    (subst (λ f. IsTrue stays ↔ (joined f Holds (state_of row (tuple ∷ [])) ≡ Holds)) plain h))
