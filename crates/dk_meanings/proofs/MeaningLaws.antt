-- The laws of a row, by what it says.
use Rattle.std.specs.Prelude.{◌≡◌, true, List, All, flat_map, map, refl}
use Rattle.std.proofs.lemmas.Bool.{false≢true}
use Rattle.dk_base.specs.declared.kinds.Kind.{Kind}
use Rattle.dk_base.specs.declared.values.Value.{Value}
use Rattle.dk_forms.proofs.CodeLaws.{code_summary}
use Rattle.dk_forms.proofs.GreatestLaws.{greatest_summary}
use Rattle.dk_forms.proofs.IntsLaws.{ints_summary}
use Rattle.dk_forms.proofs.LeastLaws.{least_summary}
use Rattle.dk_forms.proofs.LineLaws.{line_summary}
use Rattle.dk_forms.proofs.ModulusLaws.{modulus_summary}
use Rattle.dk_forms.proofs.OffsetLaws.{offset_summary}
use Rattle.dk_forms.proofs.PlainLaws.{plain_summary}
use Rattle.dk_forms.proofs.PlaneLaws.{plane_summary}
use Rattle.dk_forms.proofs.Summaries.{along, along_map}
use Rattle.dk_forms.proofs.TextsLaws.{texts_summary}
use Rattle.dk_forms.proofs.TruthLaws.{truth_summary}
use Rattle.dk_forms.specs.Plain.{plain_of}
use Rattle.dk_meanings.proofs.Bounds.{All-flat_map, IsSmall, IsString}
use Rattle.dk_meanings.specs.Meaning.{Meaning, relation, least, greatest, ints, truth, code, texts, modulus, line, plane, offset, form_by, relation_by, state_by}
use Rattle.dk_template.proofs.ProperStates.{offset_of_differences, proper_laws, texts_of_strings}
use Rattle.dk_template.proofs.RowLaws.{row_laws}
use Rattle.dk_template.specs.Rows.{IsTuple, RowLaws}
use Rattle.dk_template.specs.Templates.{is_plain}
use Rattle.dk_template.specs.declared.templates.StateForm.TheVariants as form

-- the values that tuples of these kinds give are within the bounds of proper states
abbrev pub IsBounded : List Kind → Meaning → Type 0
IsBounded kinds (texts values) = (t : List Value) → IsTuple kinds t → All IsString (values t)
IsBounded kinds (offset values) = (t : List Value) → IsTuple kinds t → All IsSmall (values t)
IsBounded kinds _ = Unit {0}

pub meaning_laws : (kinds : List Kind) (m : Meaning) → IsBounded kinds m → RowLaws kinds (form_by m) (state_by m)
meaning_laws kinds (relation r) b = row_laws form.Plain (along_map r plain_summary)
meaning_laws kinds (least values) b = row_laws form.Least (along values least_summary)
meaning_laws kinds (greatest values) b = row_laws form.Greatest (along values greatest_summary)
meaning_laws kinds (ints values) b = row_laws form.Ints (along values ints_summary)
meaning_laws kinds (truth values) b = row_laws form.Truth (along values truth_summary)
meaning_laws kinds (code values) b = row_laws form.Code (along values code_summary)
meaning_laws kinds (texts values) b =
    let s = along values texts_summary in
    record {
      joins = proper_laws form.Texts;
      none = s.none;
      both = s.both;
      same = s.same;
      proper = λ tuples p. (s.proper tuples, texts_of_strings (flat_map values tuples) (All-flat_map IsString (IsTuple kinds) values b tuples p));
    }
meaning_laws kinds (modulus value) b = row_laws form.Modulus (along_map value modulus_summary)
meaning_laws kinds (line point) b = row_laws form.Line (along_map point line_summary)
meaning_laws kinds (plane point) b = row_laws form.Plane (along_map point plane_summary)
meaning_laws kinds (offset values) b =
    let s = along values offset_summary in
    record {
      joins = proper_laws form.Offset;
      none = s.none;
      both = s.both;
      same = s.same;
      proper = λ tuples p. (s.proper tuples, offset_of_differences (flat_map values tuples) (All-flat_map IsSmall (IsTuple kinds) values b tuples p));
    }

-- the state of a relation
pub relation_state : (m : Meaning) → is_plain (form_by m) ≡ true → (tuples : List (List Value)) → state_by m tuples ≡ plain_of (map (relation_by m) tuples)
relation_state (relation r) e tuples = refl
relation_state (least values) e tuples = absurd (false≢true e)
relation_state (greatest values) e tuples = absurd (false≢true e)
relation_state (ints values) e tuples = absurd (false≢true e)
relation_state (truth values) e tuples = absurd (false≢true e)
relation_state (code values) e tuples = absurd (false≢true e)
relation_state (texts values) e tuples = absurd (false≢true e)
relation_state (modulus value) e tuples = absurd (false≢true e)
relation_state (line point) e tuples = absurd (false≢true e)
relation_state (plane point) e tuples = absurd (false≢true e)
relation_state (offset values) e tuples = absurd (false≢true e)
