-- The instances of a grammar are listed.
use Rattle.std.specs.Prelude.{◌≡◌, ◌<◌, ◌&&◌, ℕ, zero, suc, true, All, List, [], ◌∷◌, flat_map, length, map, refl, slice_get, zip, ◌==◌}
use Rattle.std.specs.List.{list_all, range_with_len}
use Rattle.std.proofs.Common.{ap, arith, inl, inr, subst, sym}
use Rattle.std.proofs.lemmas.Bool.{and_parts, eqb-true, false≢true}
use Rattle.std.proofs.lemmas.List.Elements.{All-cons, All-head, All-nil, All-tail}
use Rattle.dk_base.specs.declared.kinds.VarId.{VarId}
use Rattle.dk_base.specs.declared.kinds.VarInfo.{VarInfo}
use Rattle.dk_forms.specs.Laws.{IsIn}
use Rattle.dk_instances.proofs.Members.{contained, in_filter, in_flat, in_map, in_range, is_in, of_filter, of_flat, of_map, of_range}
use Rattle.dk_instances.specs.Instances.{IsInstance, all_vars, are_distinct, asked_of, instances_of, is_asked, rows_of, tuples_over}
use Rattle.dk_instances.specs.Laws.{InstancesAreListed}
use Rattle.dk_template.specs.Admitted.{admits, is_written, suits}
use Rattle.dk_template.specs.Templates.{IsRowOf, arity_of, roles_of, rows_in, template_of}
use Rattle.dk_template.specs.declared.grammar.Grammar.{Grammar}
use Rattle.dk_template.specs.declared.grammar.RowId.{RowId}
use Rattle.dk_template.specs.declared.templates.Role.{Role}

-- ---- rows
pub row_of_grammar : (grammar : Grammar) (row : RowId) → IsIn row (rows_of grammar) → IsRowOf grammar row
row_of_grammar grammar row h =
    let n = of_map {X = ℕ} {Y = RowId} (λ n. record { 0 = n }) row (range_with_len 1 (rows_in grammar)) h in
    let e : row.0 ≡ n.0 = ap (λ (r : RowId). r.0) n.2 in
    let p = of_range n.0 1 (rows_in grammar) n.1 in
    let low = p.0 in
    let high = p.1 in
    (omega (arith, e, low), omega (arith, e, high))

pub row_in : (grammar : Grammar) (row : RowId) → IsRowOf grammar row → IsIn row (rows_of grammar)
row_in grammar row is =
    let low = is.0 in
    let high = is.1 in
    in_map {X = ℕ} {Y = RowId} (λ n. record { 0 = n }) row.0 (range_with_len 1 (rows_in grammar)) (in_range row.0 1 (rows_in grammar) low (omega (arith, high)))

-- ---- tuples of variables
pub in_tuples : (all : List VarId) (n : ℕ) (vars : List VarId) → length vars ≡ n → All (λ v. IsIn v all) vars → IsIn vars (tuples_over n all)
in_tuples all zero [] e h = inl refl
in_tuples all zero (v ∷ vars) e h = absurd (omega (arith, e))
in_tuples all (suc n) [] e h = absurd (omega (arith, e))
in_tuples all (suc n) (v ∷ vars) e h =
    let rest = in_tuples all n vars (omega (arith, e)) (All-tail (λ w. IsIn w all) v vars h) in
    in_flat (λ w. map (λ r. w ∷ r) (tuples_over n all)) (v ∷ vars) v all (in_map (λ r. v ∷ r) vars (tuples_over n all) rest) (All-head (λ w. IsIn w all) v vars h)

-- and only tuples of so many of them are there
pub of_tuples : (all : List VarId) (n : ℕ) (vars : List VarId) → IsIn vars (tuples_over n all) → All (λ v. IsIn v all) vars × (length vars ≡ n)
of_tuples all zero vars h = elim h as (λ _. All (λ v. IsIn v all) vars × (length vars ≡ 0)) [
  | inl e ↦ subst (λ (t : List VarId). All (λ v. IsIn v all) t × (length t ≡ 0)) (sym e) (All-nil (λ v. IsIn v all), refl)
  | inr l ↦ absurd l
]
of_tuples all (suc n) vars h =
    let v = of_flat (λ w. map (λ r. w ∷ r) (tuples_over n all)) vars all h in
    let r = of_map (λ r. v.0 ∷ r) vars (tuples_over n all) v.2 in
    let rest = of_tuples all n r.0 r.1 in
    subst (λ (t : List VarId). All (λ w. IsIn w all) t × (length t ≡ suc n)) (sym r.2) (All-cons (λ w. IsIn w all) v.0 r.0 v.1 rest.0, ap suc rest.1)

there : (role : Role) (infos : List VarInfo) (n : ℕ) → suits role (slice_get infos n) ≡ true → n < length infos
there role [] n s = absurd (false≢true s)
there role (info ∷ infos) zero s = omega arith
there role (info ∷ infos) (suc n) s = let r = there role infos n s in omega (arith, r)

all_there : (infos : List VarInfo) (roles : List Role) (vars : List VarId) → length vars ≡ length roles → list_all (λ (p : Role × VarId). suits p.0 (slice_get infos p.1.0)) (zip roles vars) ≡ true → All (λ v. IsIn v (all_vars infos)) vars
all_there infos [] [] e s = All-nil (λ v. IsIn v (all_vars infos))
all_there infos [] (v ∷ vars) e s = absurd (omega (arith, e))
all_there infos (r ∷ roles) [] e s = absurd (omega (arith, e))
all_there infos (r ∷ roles) (v ∷ vars) e s =
    let parts = and_parts (suits r (slice_get infos v.0)) (list_all (λ (p : Role × VarId). suits p.0 (slice_get infos p.1.0)) (zip roles vars)) s in
    let l = there r infos v.0 parts.0 in
    let here : IsIn v (all_vars infos) = in_map {X = ℕ} {Y = VarId} (λ n. record { 0 = n }) v.0 (range_with_len 0 (length infos)) (in_range v.0 0 (length infos) (omega arith) (omega (arith, l))) in
    All-cons (λ w. IsIn w (all_vars infos)) v vars here (all_there infos roles vars (omega (arith, e)) parts.1)

admitted_in : (infos : List VarInfo) (row : RowId) (vars : List VarId) → admits row infos vars ≡ true → IsIn vars (tuples_over (arity_of row) (all_vars infos))
admitted_in infos row vars a =
    let roles = roles_of (template_of row).takes in
    let parts = and_parts (length vars == length roles) (list_all (λ (p : Role × VarId). suits p.0 (slice_get infos p.1.0)) (zip roles vars)) a in
    let long = eqb-true (length vars) (length roles) parts.0 in
    in_tuples (all_vars infos) (length roles) vars long (all_there infos roles vars long parts.1)

-- ---- instances
abbrev pub of_row : List VarInfo → RowId → List (RowId × List VarId)
of_row infos row = map (λ vars. (row, vars)) (asked_of infos row)

is_instance : (grammar : Grammar) (infos : List VarInfo) (row : RowId) (vars : List VarId) → IsIn (row, vars) (flat_map (of_row infos) (rows_of grammar)) → IsInstance grammar infos row vars
is_instance grammar infos row vars h =
    let r = of_flat (of_row infos) (row, vars) (rows_of grammar) h in
    let v = of_map {X = List VarId} {Y = RowId × List VarId} (λ w. (r.0, w)) (row, vars) (asked_of infos r.0) r.2 in
    let asked = (of_filter (is_asked infos r.0) v.0 (tuples_over (arity_of r.0) (all_vars infos)) v.1).1 in
    subst (λ (i : RowId × List VarId). IsInstance grammar infos i.0 i.1) (sym v.2) (record { of_grammar = row_of_grammar grammar r.0 r.1; asked = asked })

is_listed : (grammar : Grammar) (infos : List VarInfo) (row : RowId) (vars : List VarId) → IsInstance grammar infos row vars → IsIn (row, vars) (flat_map (of_row infos) (rows_of grammar))
is_listed grammar infos row vars is =
    let a = (and_parts (admits row infos vars) (is_written row vars && are_distinct vars) is.asked).0 in
    let tuple = in_filter (is_asked infos row) vars (tuples_over (arity_of row) (all_vars infos)) (admitted_in infos row vars a) is.asked in
    let pair = in_map {X = List VarId} {Y = RowId × List VarId} (λ w. (row, w)) vars (asked_of infos row) tuple in
    in_flat (of_row infos) (row, vars) row (rows_of grammar) pair (row_in grammar row is.of_grammar)

pub instances_listed : InstancesAreListed
unfolding instances_of
instances_listed grammar infos row vars = (
  λ c. is_instance grammar infos row vars (is_in (row, vars) (flat_map (of_row infos) (rows_of grammar)) c.0 c.1 c.2),
  λ is. contained (row, vars) (flat_map (of_row infos) (rows_of grammar)) (is_listed grammar infos row vars is),
)
