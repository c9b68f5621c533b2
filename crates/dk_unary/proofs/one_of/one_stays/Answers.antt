use Rattle.std.proofs.Common.{rules, FitsSigned, w64, ◌≡◌, [], ◌∷◌, Some, ap, sym, ◌∙◌}
use Rattle.std.proofs.lemmas.Int.{to_z-of_z}
use Rattle.dk_base.specs.Values.{values_of}
use Rattle.dk_forms.specs.Code.{code_of}
use Rattle.dk_forms.specs.Ints.{ints_of}
use Rattle.dk_forms.specs.Texts.{texts_of}
use Rattle.dk_forms.specs.Truth.{truth_of}
use Rattle.dk_meanings.specs.Meanings.{state_of}
use Rattle.dk_template.proofs.Staying.{proper_by, stays_as}
use Rattle.dk_template.specs.Templates.{form_of}
use Rattle.dk_unary.proofs.Points.{bools_of_one, hashes_of_one, ints_of_one, one_of_str}
use Rattle.dk_unary.proofs.Takes.{one_of_bools, one_of_hashes, one_of_ints, one_of_kind, one_of_strings, one_of_takes}
use Rattle.dk_unary.specs.Rows.{one_of_row}
use Rattle.dk_unary.proofs.one_of.one_stays.Goals as goal

pub int_at-requires-clause-kind : goal.int_at-requires-clause-kind
int_at-requires-clause-kind c = one_of_takes c.args.of (values_of c.args.tuple.now) c.requires.tuple ∙ ap (λ r. Some (one_of_kind r)) c.in-Int.is

pub ints_stays-requires : goal.ints_stays-requires
ints_stays-requires c = proper_by (ap (λ r. form_of (one_of_row r)) c.in-Int.is ∙ one_of_ints) c.args.state.now c.requires.state

pub returns-in-Int : goal.returns-in-Int
returns-in-Int c =
    let t = values_of c.args.tuple.now in
    let x = c.int_at.result in
    let fits : FitsSigned w64 x = search rules in
    stays_as c.args.state.now (ap (λ r. form_of (one_of_row r)) c.in-Int.is ∙ one_of_ints) (ap (λ r. state_of (one_of_row r) (t ∷ [])) c.in-Int.is ∙ ints_of_one t ∙ ap (λ v. ints_of (v ∷ [])) (sym (to_z-of_z w64 x fits ∙ c.int_at.ensures))) c.ints_stays.ensures

pub bool_at-requires-clause-kind : goal.bool_at-requires-clause-kind
bool_at-requires-clause-kind c = one_of_takes c.args.of (values_of c.args.tuple.now) c.requires.tuple ∙ ap (λ r. Some (one_of_kind r)) c.in-Bool.is

pub truth_stays-requires : goal.truth_stays-requires
truth_stays-requires c = proper_by (ap (λ r. form_of (one_of_row r)) c.in-Bool.is ∙ one_of_bools) c.args.state.now c.requires.state

pub returns-in-Bool : goal.returns-in-Bool
returns-in-Bool c =
    let t = values_of c.args.tuple.now in
    stays_as c.args.state.now (ap (λ r. form_of (one_of_row r)) c.in-Bool.is ∙ one_of_bools) (ap (λ r. state_of (one_of_row r) (t ∷ [])) c.in-Bool.is ∙ bools_of_one t ∙ ap (λ v. truth_of (v ∷ [])) (sym c.bool_at.ensures)) c.truth_stays.ensures

pub hash_at-requires-clause-kind : goal.hash_at-requires-clause-kind
hash_at-requires-clause-kind c = one_of_takes c.args.of (values_of c.args.tuple.now) c.requires.tuple ∙ ap (λ r. Some (one_of_kind r)) c.in-Hash.is

pub code_stays-requires : goal.code_stays-requires
code_stays-requires c = proper_by (ap (λ r. form_of (one_of_row r)) c.in-Hash.is ∙ one_of_hashes) c.args.state.now c.requires.state

pub returns-in-Hash : goal.returns-in-Hash
returns-in-Hash c =
    let t = values_of c.args.tuple.now in
    stays_as c.args.state.now (ap (λ r. form_of (one_of_row r)) c.in-Hash.is ∙ one_of_hashes) (ap (λ r. state_of (one_of_row r) (t ∷ [])) c.in-Hash.is ∙ hashes_of_one t ∙ ap (λ v. code_of (v ∷ [])) (sym c.hash_at.ensures)) c.code_stays.ensures

pub text_at-requires-clause-kind : goal.text_at-requires-clause-kind
text_at-requires-clause-kind c = one_of_takes c.args.of (values_of c.args.tuple.now) c.requires.tuple ∙ ap (λ r. Some (one_of_kind r)) c.in-Str.is

pub text_stays-requires : goal.text_stays-requires
text_stays-requires c = (proper_by (ap (λ r. form_of (one_of_row r)) c.in-Str.is ∙ one_of_strings) c.args.state.now c.requires.state).0

pub returns-in-Str : goal.returns-in-Str
returns-in-Str c =
    let t = values_of c.args.tuple.now in
    stays_as c.args.state.now (ap (λ r. form_of (one_of_row r)) c.in-Str.is ∙ one_of_strings) (ap (λ r. state_of (one_of_row r) (t ∷ [])) c.in-Str.is ∙ one_of_str t ∙ ap (λ v. texts_of (v ∷ [])) (sym c.text_at.ensures)) c.text_stays.ensures
