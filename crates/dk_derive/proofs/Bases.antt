-- The values of variables none of which is derived.
use Rattle.std.proofs.Common.{◌≡◌, ◌∙◌, ◌+◌, ◌∷◌, [], ℕ, Bool, true, List, drop, get_or, length, map, sym, ap, arith, if◌then◌else◌}
use Rattle.std.specs.List.{enumerate_from, list_all}
use Rattle.std.proofs.lemmas.Bool.{and_parts}
use Rattle.std.proofs.lemmas.List.{drop_all, drop_more}
use Rattle.dk_base.specs.Shapes.{is_base_form}
use Rattle.dk_base.specs.declared.kinds.VarInfo.{VarInfo}
use Rattle.dk_base.specs.declared.values.Value.{Value}
use Rattle.dk_base.specs.declared.values.Value.TheVariants as value
use Rattle.dk_derive.specs.Values.{derived_value, value_by_form, values_by_form}

-- each has its own value, from the place n on
own_values : (base : List Value) (n : ℕ) (vars : List VarInfo) → n + length vars ≡ length base → list_all (λ v. is_base_form v.form) vars ≡ true
    → map (λ v. value_by_form base v.0 v.1.form) (enumerate_from n vars) ≡ drop n base
own_values base n [] len all = sym (drop_all n base (omega (arith, len)))
own_values base n (v ∷ vars) len all =
    let parts = and_parts (is_base_form v.form) (list_all (λ v. is_base_form v.form) vars) all in
    let own : value_by_form base n v.form ≡ get_or base n value.Missing = ap (λ (b : Bool). if b then get_or base n value.Missing else derived_value base v.form) parts.0 in
    ap (λ (x : Value). x ∷ map (λ v. value_by_form base v.0 v.1.form) (enumerate_from (n + 1) vars)) own
    ∙ ap (λ (xs : List Value). get_or base n value.Missing ∷ xs) (own_values base (n + 1) vars (omega (arith, len)) parts.1)
    ∙ sym (drop_more base n value.Missing (omega (arith, len)))

pub base_values : (vars : List VarInfo) (base : List Value) → length vars ≡ length base → list_all (λ v. is_base_form v.form) vars ≡ true → values_by_form vars base ≡ base
base_values vars base len all = own_values base 0 vars (omega (arith, len)) all
