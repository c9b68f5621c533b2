-- The laws of the rows.
use Rattle.std.specs.Prelude.{◌≡◌, ◌-◌, Bool, List, [], ◌∷◌, nat_le, true}
use Rattle.std.proofs.Common.{arith, ap, subst, sym, ◌∙◌}
use Rattle.std.specs.Cmp.{first_so, second_so}
use Rattle.std.proofs.lemmas.Bool.{leb-true}
use Rattle.dk_base.specs.declared.kinds.Kind.{Kind}
use Rattle.dk_base.specs.declared.values.Value.{Value}
use Rattle.dk_forms.specs.Plain.{plain_of}
use Rattle.dk_meanings.proofs.MeaningLaws.{meaning_laws, relation_state}
use Rattle.dk_meanings.proofs.Tables.{Agrees, agrees}
use Rattle.dk_meanings.specs.Laws.{PlainRowsStateTheirRelation, RowsKeepTheirLaws, is_row}
use Rattle.dk_meanings.specs.Meaning.{state_by}
use Rattle.dk_meanings.specs.Meanings.{meaning_of, relation_of, state_of}
use Rattle.dk_template.specs.Rows.{RowLaws}
use Rattle.dk_template.specs.Templates.{IsRow, form_of, is_plain, role_kinds, template_of}
use Rattle.dk_template.specs.declared.grammar.RowId.{RowId}
use Rattle.dk_template.specs.declared.templates.StateForm.{StateForm}
use Rattle.dk_template.specs.declared.templates.StateForm.TheVariants as form

agrees_of : (r : RowId) → IsRow r → Agrees (template_of r) (meaning_of r)
agrees_of r is =
    let low = is.0 in
    let high = is.1 in
    agrees (r.0 - 1) (omega (arith, low, high)) _ _

pub laws_of : RowsKeepTheirLaws
unfolding state_of
laws_of r is =
    let a = agrees_of r is in
    subst (λ f. RowLaws (role_kinds r) f (state_by (meaning_of r))) a.0 (meaning_laws (role_kinds r) (meaning_of r) a.1)

-- the same of a row whose kinds and form are known
pub laws_at : (r : RowId) → IsRow r → {kinds : List Kind} {form : StateForm} → role_kinds r ≡ kinds → form_of r ≡ form → RowLaws kinds form (state_of r)
laws_at r is {kinds} {form} k f = subst (λ l. RowLaws l form (state_of r)) k (subst (λ g. RowLaws (role_kinds r) g (state_of r)) f (laws_of r is))

pub plain_rows : PlainRowsStateTheirRelation
unfolding state_of relation_of
plain_rows r is plain tuples = relation_state (meaning_of r) (ap is_plain ((agrees_of r is).0 ∙ plain)) tuples

-- where a test tells that it is a row of the table
pub is_row_by : (r : RowId) → is_row r ≡ true → IsRow r
is_row_by r e = (leb-true 1 r.0 (first_so (nat_le 1 r.0) (nat_le r.0 68) e), leb-true r.0 68 (second_so (nat_le 1 r.0) (nat_le r.0 68) e))

pub laws_by : (r : RowId) → is_row r ≡ true → RowLaws (role_kinds r) (form_of r) (state_of r)
laws_by r e = laws_of r (is_row_by r e)

-- the state of one tuple by a row with a relation
pub plain_row_of_one : (r : RowId) → is_row r ≡ true → form_of r ≡ form.Plain → (t : List Value) {holds : Bool} → holds ≡ relation_of r t → plain_of (holds ∷ []) ≡ state_of r (t ∷ [])
plain_row_of_one r e plain t h = ap (λ b. plain_of (b ∷ [])) h ∙ sym (plain_rows r (is_row_by r e) plain (t ∷ []))
