use Rattle.std.specs.Prelude.{◌≡◌, ◌∷◌, [], ℤ, List, IsTrue}
use Rattle.std.proofs.Common.{SFits, of_z, rules, subst, sym, to_z, w64}
use Rattle.std.proofs.lemmas.Int.{to_z-of_z}
use Rattle.std.proofs.lemmas.List.Elements.{All-cons, All-nil}
use Rattle.std.proofs.lemmas.Result.{IfOk-weaker, on_err_weaker}
use Rattle.dk_base.specs.Numbers.{fits_i64}
use Rattle.dk_base.specs.declared.values.Value.{Value}
use Rattle.dk_base.specs.declared.values.Value.TheVariants as value
use Rattle.dk_meanings.proofs.RowLaws.{laws_of}
use Rattle.dk_meanings.specs.Meanings.{state_of}
use Rattle.dk_template.specs.Proper.{IsProper}
use Rattle.dk_template.specs.Rows.{IsTuple}
use Rattle.dk_template.specs.Templates.{arity_of, form_of, role_kinds}
use Rattle.dk_template.specs.declared.grammar.RowId.{RowId}
use Rattle.dk_join.proofs.Answering.{texts_may_want}
use Rattle.dk_join.proofs.Breaking.{ints_tuple}
use Rattle.dk_join.proofs.threes.state_of_numbers.Goals as goal

tuple_is : (row : RowId) → arity_of row ≡ 3 → (a b c : ℤ) → SFits w64 a → SFits w64 b → SFits w64 c → IsTrue (fits_i64 a) → IsTrue (fits_i64 b) → IsTrue (fits_i64 c)
    → IsTuple (role_kinds row) (value.Int (to_z w64 (of_z w64 a)) ∷ value.Int (to_z w64 (of_z w64 b)) ∷ value.Int (to_z w64 (of_z w64 c)) ∷ [])
tuple_is row three a b c k l m f g h =
    let x = to_z-of_z w64 a k in
    let y = to_z-of_z w64 b l in
    let z = to_z-of_z w64 c m in
    let tuple : value.Int (to_z w64 (of_z w64 a)) ∷ value.Int (to_z w64 (of_z w64 b)) ∷ value.Int (to_z w64 (of_z w64 c)) ∷ [] ≡ value.Int a ∷ value.Int b ∷ value.Int c ∷ [] =
    λ i. value.Int (x i) ∷ value.Int (y i) ∷ value.Int (z i) ∷ [] in
    subst (IsTuple (role_kinds row)) (sym tuple) (ints_tuple row three a b c f g h)

pub point-requires-clause-tuple : goal.point-requires-clause-tuple
point-requires-clause-tuple c =
    tuple_is c.args.row c.requires.three c.args.a c.args.b c.args.c c.ranges.a c.ranges.b c.ranges.c (search rules) (search rules) (search rules)

pub returns-clause-proper : goal.returns-clause-proper
returns-clause-proper c =
    let row = c.args.row in
    let tuple : List Value = value.Int (to_z w64 (of_z w64 c.args.a)) ∷ value.Int (to_z w64 (of_z w64 c.args.b)) ∷ value.Int (to_z w64 (of_z w64 c.args.c)) ∷ [] in
    let Are : List Value → Type 0 = IsTuple (role_kinds row) in
    let is : Are tuple = tuple_is row c.requires.three c.args.a c.args.b c.args.c c.ranges.a c.ranges.b c.ranges.c (search rules) (search rules) (search rules) in
    IfOk-weaker c.point.result (λ s. s ≡ state_of row (tuple ∷ [])) (λ s. IsProper (form_of row) s)
    (λ s e. subst (IsProper (form_of row)) (sym e) ((laws_of row c.requires.row).proper (tuple ∷ []) (All-cons Are tuple [] is (All-nil Are)))) c.point.ensures.state

pub returns-clause-err : goal.returns-clause-err
returns-clause-err c = on_err_weaker c.point.result (λ e. texts_may_want c.args.row c.requires.row e) c.point.ensures.err
