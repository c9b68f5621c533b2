-- Small examples of what is derived.
use Rattle.std.proofs.Common.{◌≡◌, ℕ, ℤ, pos, negsuc, List, [], ◌∷◌, codes, drop, map, refl}
use Rattle.dk_base.specs.declared.kinds.Compar.{Compar}
use Rattle.dk_base.specs.declared.kinds.Form.TheVariants as form
use Rattle.dk_base.specs.declared.kinds.Kind.{Kind}
use Rattle.dk_base.specs.declared.kinds.Kind.TheVariants as kind
use Rattle.dk_base.specs.declared.kinds.VarInfo.{VarInfo}
use Rattle.dk_base.specs.declared.values.Value.{Value}
use Rattle.dk_base.specs.declared.values.Value.TheVariants as value
use Rattle.dk_derive.specs.Names.{stem, text_over}
use Rattle.dk_derive.specs.Values.{values_by_form}
use Rattle.dk_derive.specs.Vars.{with_derived_vars}

abbrev declared : List ℕ → Kind → Compar → VarInfo
declared name k c = record { name = name; kind = k; form = form.Declared; compar = c }

-- a[..] and i
abbrev base : List VarInfo
base = declared (codes "a[..]") kind.IntSeq (record { elem = pos 2; index = pos 3 }) ∷ declared (codes "i") kind.Int (record { elem = pos 3; index = negsuc 0 }) ∷ []

names : map (λ v. v.name) (with_derived_vars base) ≡ codes "a[..]" ∷ codes "i" ∷ codes "size(a[..])" ∷ codes "a[0]" ∷ codes "a[-1]"
    ∷ codes "a[i]" ∷ codes "a[0..i]" ∷ codes "a[0..i-1]" ∷ codes "a[i..]" ∷ codes "a[i+1..]" ∷ []
unfolding with_derived_vars text_over stem
names = refl

abbrev pair : ℤ → ℤ → Compar
pair e i = record { elem = e; index = i }

comparabilities : map (λ v. v.compar) (drop 2 (with_derived_vars base))
    ≡ pair (pos 3) (negsuc 0) ∷ pair (pos 2) (negsuc 0) ∷ pair (pos 2) (negsuc 0) ∷ pair (pos 2) (negsuc 0) ∷ pair (pos 2) (pos 3) ∷ pair (pos 2) (pos 3) ∷ pair (pos 2) (pos 3)
    ∷ pair (pos 2) (pos 3) ∷ []
unfolding with_derived_vars
comparabilities = refl

-- what [1 2] and this index give
abbrev given : Value → List Value
given i = drop 2 (values_by_form (with_derived_vars base) (value.IntSeq (pos 1 ∷ pos 2 ∷ []) ∷ i ∷ []))

by_two : given (value.Int (pos 2)) ≡ value.Int (pos 2) ∷ value.Int (pos 1) ∷ value.Int (pos 2) ∷ value.Missing ∷ value.Missing
    ∷ value.IntSeq (pos 1 ∷ pos 2 ∷ []) ∷ value.IntSeq [] ∷ value.Missing ∷ []
unfolding with_derived_vars
by_two = refl

by_minus_one : given (value.Int (negsuc 0)) ≡ value.Int (pos 2) ∷ value.Int (pos 1) ∷ value.Int (pos 2) ∷ value.Missing ∷ value.IntSeq []
    ∷ value.Missing ∷ value.Missing ∷ value.IntSeq (pos 1 ∷ pos 2 ∷ []) ∷ []
unfolding with_derived_vars
by_minus_one = refl

by_none : given value.Missing ≡ value.Int (pos 2) ∷ value.Int (pos 1) ∷ value.Int (pos 2) ∷ value.Missing ∷ value.Missing ∷ value.Missing ∷ value.Missing ∷ value.Missing ∷ []
unfolding with_derived_vars
by_none = refl

-- `[..]` goes first, and one pair of brackets alone
stems : map stem (codes "a[..]" ∷ codes "a[]" ∷ codes "a[][..]" ∷ codes "a[..][]" ∷ codes "a" ∷ []) ≡ codes "a" ∷ codes "a" ∷ codes "a[]" ∷ codes "a[..]" ∷ codes "a" ∷ []
unfolding stem
stems = refl
