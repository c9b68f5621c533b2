-- The values of a record, with the derived ones, are a sample of its point's variables.
use Rattle.std.proofs.Common.{◌≡◌, All, List, [], ◌∷◌, sym, subst}
use Rattle.std.specs.List.{AllZip}
use Rattle.dk_base.specs.Shapes.{AreWithDerived}
use Rattle.dk_base.specs.Values.{IsOfKind}
use Rattle.dk_base.specs.Values.Spelling.{IsWritten}
use Rattle.dk_base.specs.declared.kinds.VarInfo.{VarInfo}
use Rattle.dk_base.specs.declared.values.Value.{Value}
use Rattle.dk_derive.proofs.Typed.{values_of_kinds}
use Rattle.dk_derive.specs.Laws.{base_of, var_kinds}
use Rattle.dk_derive.specs.Values.{values_by_form}
use Rattle.dk_instances.specs.Laws.{IsSample}

zipped : (vars : List VarInfo) (values : List Value) → AllZip IsOfKind (var_kinds vars) values → AllZip (λ (v : VarInfo) x. IsOfKind v.kind x) vars values
zipped [] [] h = tt
zipped [] (x ∷ xs) h = absurd h
zipped (v ∷ vars) [] h = absurd h
zipped (v ∷ vars) (x ∷ xs) h = (h.0, zipped vars xs h.1)

-- such values give a sample, if the derived ones are written
pub sample_given : (vars : List VarInfo) (base sample : List Value) → AreWithDerived vars → AllZip IsOfKind (var_kinds (base_of vars)) base → sample ≡ values_by_form vars base → All IsWritten sample
    → IsSample vars sample
sample_given vars base sample derived kinds is written =
    let P : List Value → Type 0 = λ values. AllZip (λ (v : VarInfo) x. IsOfKind v.kind x) vars values in
    record { kinds = subst P (sym is) (zipped vars (values_by_form vars base) (values_of_kinds vars base derived kinds)); written = written }
