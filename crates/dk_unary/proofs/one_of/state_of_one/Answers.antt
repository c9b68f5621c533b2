use Rattle.std.proofs.Common.{rules, FitsSigned, w64, ◌≡◌, [], ◌∷◌, Some, ap, sym, ◌∙◌}
use Rattle.std.proofs.lemmas.Int.{to_z-of_z}
use Rattle.std.proofs.lemmas.Result.{IfOk-weaker}
use Rattle.dk_base.specs.Values.{values_of}
use Rattle.dk_forms.specs.declared.states.State.TheVariants.{Ints, Truth, Code}
use Rattle.dk_forms.specs.Texts.{texts_of}
use Rattle.dk_meanings.specs.Meanings.{state_of}
use Rattle.dk_unary.proofs.Points.{one_of_bool, one_of_hash, one_of_int, one_of_str}
use Rattle.dk_unary.proofs.Takes.{one_of_kind, one_of_takes}
use Rattle.dk_unary.specs.Rows.{one_of_row}
use Rattle.dk_unary.proofs.one_of.state_of_one.Goals as goal

pub int_at-requires-clause-kind : goal.int_at-requires-clause-kind
int_at-requires-clause-kind c = one_of_takes c.args.of (values_of c.args.tuple.now) c.requires ∙ ap (λ r. Some (one_of_kind r)) c.in-Int.is

pub bool_at-requires-clause-kind : goal.bool_at-requires-clause-kind
bool_at-requires-clause-kind c = one_of_takes c.args.of (values_of c.args.tuple.now) c.requires ∙ ap (λ r. Some (one_of_kind r)) c.in-Bool.is

pub hash_at-requires-clause-kind : goal.hash_at-requires-clause-kind
hash_at-requires-clause-kind c = one_of_takes c.args.of (values_of c.args.tuple.now) c.requires ∙ ap (λ r. Some (one_of_kind r)) c.in-Hash.is

pub text_at-requires-clause-kind : goal.text_at-requires-clause-kind
text_at-requires-clause-kind c = one_of_takes c.args.of (values_of c.args.tuple.now) c.requires ∙ ap (λ r. Some (one_of_kind r)) c.in-Str.is

pub returns-in-Int-clause-state : goal.returns-in-Int-clause-state
returns-in-Int-clause-state c =
    let t = values_of c.args.tuple.now in
    let x = c.int_at.result in
    let fits : FitsSigned w64 x = search rules in
    c.only_int.ensures ∙ ap (λ x. Ints (x ∷ [])) (to_z-of_z w64 x fits ∙ c.int_at.ensures) ∙ sym (one_of_int t) ∙ ap (λ r. state_of (one_of_row r) (t ∷ [])) (sym c.in-Int.is)

pub returns-in-Bool-clause-state : goal.returns-in-Bool-clause-state
returns-in-Bool-clause-state c =
    let t = values_of c.args.tuple.now in
    ap (λ b. Truth b) c.bool_at.ensures ∙ sym (one_of_bool t) ∙ ap (λ r. state_of (one_of_row r) (t ∷ [])) (sym c.in-Bool.is)

pub returns-in-Hash-clause-state : goal.returns-in-Hash-clause-state
returns-in-Hash-clause-state c =
    let t = values_of c.args.tuple.now in
    ap (λ h. Code h) c.hash_at.ensures ∙ sym (one_of_hash t) ∙ ap (λ r. state_of (one_of_row r) (t ∷ [])) (sym c.in-Hash.is)

pub returns-in-Str-clause-state : goal.returns-in-Str-clause-state
returns-in-Str-clause-state c =
    let t = values_of c.args.tuple.now in
    let e = ap (λ s. texts_of (s ∷ [])) c.text_at.ensures ∙ sym (one_of_str t) ∙ ap (λ r. state_of (one_of_row r) (t ∷ [])) (sym c.in-Str.is) in
    IfOk-weaker c.text_point.result _ (λ state. state ≡ state_of (one_of_row c.args.of) (t ∷ [])) (λ s f. f ∙ e) c.text_point.ensures
