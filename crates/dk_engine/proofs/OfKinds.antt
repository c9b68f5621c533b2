-- Values that are one by one of variables' kinds.
use Rattle.std.specs.Prelude.{◌≡◌, ◌<◌, ℕ, zero, suc, List, [], ◌∷◌, length, refl}
use Rattle.std.proofs.Common.{arith, get_or, subst, sym}
use Rattle.dk_base.specs.Values.{IsOfKind, value_of, values_of}
use Rattle.dk_base.specs.declared.kinds.VarInfo.{VarInfo}
use Rattle.dk_base.specs.declared.values.Value.{Value}
use Rattle.dk_base.specs.declared.values.View.{View}
use Rattle.dk_engine.specs.Exact.{AreOfKinds}

pub of_each : (infos : List VarInfo) (xs : List Value) → length infos ≡ length xs
    → ((k : ℕ) (d : VarInfo) (e : Value) → k < length infos → IsOfKind (get_or infos k d).kind (get_or xs k e)) → AreOfKinds infos xs
of_each [] [] e each = tt
of_each [] (x ∷ xs) e each = absurd (omega (arith, e))
of_each (info ∷ infos) [] e each = absurd (omega (arith, e))
of_each (info ∷ infos) (x ∷ xs) e each = (each 0 info x (omega arith), of_each infos xs (omega (arith, e)) (λ k d z l. each (suc k) d z (omega (arith, l))))

pub as_many : (infos : List VarInfo) (xs : List Value) → AreOfKinds infos xs → length infos ≡ length xs
as_many [] [] are = omega arith
as_many [] (x ∷ xs) are = absurd are
as_many (info ∷ infos) [] are = absurd are
as_many (info ∷ infos) (x ∷ xs) are = let e = as_many infos xs are.1 in omega (arith, e)

pub each_of : (infos : List VarInfo) (xs : List Value) → AreOfKinds infos xs → (k : ℕ) (d : VarInfo) (e : Value) → k < length infos → IsOfKind (get_or infos k d).kind (get_or xs k e)
each_of [] xs are k d e l = absurd (omega (arith, l))
each_of (info ∷ infos) [] are k d e l = absurd are
each_of (info ∷ infos) (x ∷ xs) are zero d e l = are.0
each_of (info ∷ infos) (x ∷ xs) are (suc k) d e l = each_of infos xs are.1 k d e (omega (arith, l))

-- ---- views
pub same_got : {A : Type 0} (xs : List A) (k : ℕ) (d e : A) → k < length xs → get_or xs k d ≡ get_or xs k e
same_got [] k d e l = absurd (omega (arith, l))
same_got (x ∷ xs) zero d e l = refl
same_got (x ∷ xs) (suc k) d e l = same_got xs k d e (omega (arith, l))

pub value_got : (vs : List View) (k : ℕ) (d : View) (e : Value) → k < length vs → get_or (values_of vs) k e ≡ value_of (get_or vs k d)
value_got [] k d e l = absurd (omega (arith, l))
value_got (v ∷ vs) zero d e l = refl
value_got (v ∷ vs) (suc k) d e l = value_got vs k d e (omega (arith, l))

-- the kind at a place, told by views, and by values
pub told_by_views : (infos : List VarInfo) (vs : List View) (k : ℕ) (d : VarInfo) (v : View) → k < length infos → k < length vs → (c : VarInfo) (e : Value)
    → IsOfKind (get_or infos k d).kind (value_of (get_or vs k v)) → IsOfKind (get_or infos k c).kind (get_or (values_of vs) k e)
told_by_views infos vs k d v l m c e is =
    subst (λ (i : VarInfo). IsOfKind i.kind (get_or (values_of vs) k e)) (same_got infos k d c l) (subst (IsOfKind (get_or infos k d).kind) (sym (value_got vs k v e m)) is)

pub told_by_values : (infos : List VarInfo) (vs : List View) (k : ℕ) (d : VarInfo) (v : View) → k < length infos → k < length vs → AreOfKinds infos (values_of vs)
    → IsOfKind (get_or infos k d).kind (value_of (get_or vs k v))
told_by_values infos vs k d v l m are = subst (IsOfKind (get_or infos k d).kind) (value_got vs k v (value_of v) m) (each_of infos (values_of vs) are k d (value_of v) l)
