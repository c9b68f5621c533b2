-- What is known of a variable, and what an edit of the list does to it.
use Rattle.std.proofs.Common.{◌≡◌, ℕ, zero, suc, ◌<◌, eqb, ◌≢◌, List, [], ◌∷◌, length, get_or, take, ◌+◌, if◌then◌else◌, cond, true, false, ◌++◌, inl, inr, Option, Some, None, refl, sym, ap, ◌∙◌, arith}
use Rattle.std.specs.List.{cons_option}
use Rattle.std.specs.Option.{option_or, option_to_list}
use Rattle.std.proofs.lemmas.List.{take_more}
use Rattle.std.proofs.lemmas.List.Elements.{filter_map-append}
use Rattle.std.proofs.lemmas.Bool.{cases_Bool, eqb-true}
use Rattle.std.specs.List.{insert}
use Rattle.std.proofs.lemmas.Bool.Decides.{nat_tests}
use Rattle.dk_base.specs.declared.kinds.VarId.{VarId}
use Rattle.dk_base.specs.declared.values.Value.{Value}
use Rattle.dk_constants.specs.Known.{IsAt, born_of, born_one, entry_var_at, known_at, none_known}

-- no entry before the place has the variable
abbrev pub NoneBefore : List (VarId × Value) → VarId → ℕ → Type 0
NoneBefore known v i = (j : ℕ) → j < i → entry_var_at known j ≢ v.0

none_before_tail : (k : VarId × Value) (known : List (VarId × Value)) (v : VarId) (i : ℕ) → NoneBefore (k ∷ known) v (suc i) → NoneBefore known v i
none_before_tail k known v i none j lt = none (suc j) (omega arith)

is_at_tail : (k : VarId × Value) (known : List (VarId × Value)) (v : VarId) (i : ℕ) → IsAt (k ∷ known) v (suc i) → IsAt known v i
is_at_tail k known v i at = record { within = omega (arith, at.within); var = at.var }

-- a variable that no entry has isn't known
pub known_absent : (known : List (VarId × Value)) (v : VarId) → NoneBefore known v (length known) → known_at known v ≡ None
known_absent [] v none = refl
known_absent (k ∷ known) v none = grind (arith, nat_tests, none 0 (omega arith), known_absent known v (none_before_tail k known v _ none))

-- the first entry of a variable gives its value
pub known_present : (known : List (VarId × Value)) (v : VarId) (i : ℕ) → IsAt known v i → NoneBefore known v i → known_at known v ≡ Some (get_or known i none_known).1
known_present [] v i at none = absurd (omega (arith, at.within))
known_present (k ∷ known) v zero at none = grind (arith, nat_tests, at.var)
known_present (k ∷ known) v (suc i) at none = grind (arith, nat_tests, none 0 (omega arith), known_present known v i (is_at_tail k known v i at) (none_before_tail k known v i none))

-- a new entry before any other of its variable gives that variable its value
pub known_at-insert : (known : List (VarId × Value)) (k : VarId × Value) (i : ℕ) → NoneBefore known k.0 i → (v : VarId) → known_at (insert known i k) v ≡ (if eqb k.0.0 v.0 then Some k.1 else known_at known v)
known_at-insert known k zero none v = refl
known_at-insert [] k (suc i) none v = refl
known_at-insert (e ∷ known) k (suc i) none v = grind (arith, nat_tests, none 0 (omega arith), known_at-insert known k i (none_before_tail e known k.0 i none) v)

-- what is known by one list, or else by another
pub known_at-append : (xs ys : List (VarId × Value)) (v : VarId) → known_at (xs ++ ys) v ≡ option_or (known_at xs v) (known_at ys v)
known_at-append [] ys v = refl
known_at-append (x ∷ xs) ys v = elim (eqb x.0.0 v.0) as (λ b. cond b (Some x.1) (known_at (xs ++ ys) v) ≡ option_or (cond b (Some x.1) (known_at xs v)) (known_at ys v)) [
  | true ↦ refl
  | false ↦ known_at-append xs ys v
]

or_or : (a b c : Option Value) → option_or (option_or a b) c ≡ option_or a (option_or b c)
or_or None b c = refl
or_or (Some x) b c = refl

-- one entry more, in turn
pub known_more : (more known entries : List (VarId × Value)) (e : VarId × Value) (v : VarId) → known_at more v ≡ option_or (option_or (known_at known v) (known_at entries v)) (known_at (e ∷ []) v) → known_at more v ≡ option_or (known_at known v) (known_at (entries ++ e ∷ []) v)
known_more more known entries e v h = h ∙ (or_or (known_at known v) (known_at entries v) (known_at (e ∷ []) v) ∙ ap (option_or (known_at known v)) (sym (known_at-append entries (e ∷ []) v)))

-- an entry of a variable that is known adds nothing
pub known_already : (known : List (VarId × Value)) (e : VarId × Value) (x : Value) (v : VarId) → known_at known e.0 ≡ Some x → known_at known v ≡ option_or (known_at known v) (known_at (e ∷ []) v)
known_already known e x v h = elim (cases_Bool (eqb e.0.0 v.0)) [
  | inl here ↦
      let is : known_at known v ≡ Some x = ap (known_at known) (ap (λ n. record { 0 = n }) (sym (eqb-true e.0.0 v.0 here))) ∙ h in
      is ∙ sym (ap (λ o. option_or o (known_at (e ∷ []) v)) is)
  | inr there ↦ sym (ap (λ b. option_or (known_at known v) (cond b (Some e.1) None)) there ∙ or_none (known_at known v))
]
  where
    or_none : (o : Option Value) → option_or o None ≡ o
    or_none None = refl
    or_none (Some y) = refl

-- an entry of a variable that isn't known is added
pub known_added : (more known : List (VarId × Value)) (e : VarId × Value) (v : VarId) → known_at known e.0 ≡ None → known_at more v ≡ cond (eqb e.0.0 v.0) (Some e.1) (known_at known v) → known_at more v ≡ option_or (known_at known v) (known_at (e ∷ []) v)
known_added more known e v none is = elim (cases_Bool (eqb e.0.0 v.0)) [
  | inl here ↦
      let absent : known_at known v ≡ None = ap (known_at known) (ap (λ n. record { 0 = n }) (sym (eqb-true e.0.0 v.0 here))) ∙ none in
      is ∙ (ap (λ b. cond b (Some e.1) (known_at known v)) here ∙ sym (ap (λ o. option_or o (known_at (e ∷ []) v)) absent ∙ ap (λ b. cond b (Some e.1) None) here))
  | inr there ↦ is ∙ (ap (λ b. cond b (Some e.1) (known_at known v)) there ∙ sym (ap (λ b. option_or (known_at known v) (cond b (Some e.1) None)) there ∙ or_none (known_at known v)))
]
  where
    or_none : (o : Option Value) → option_or o None ≡ o
    or_none None = refl
    or_none (Some y) = refl

-- one new leader more
pub born_more : (known : List (VarId × Value)) (new : List (VarId × VarId)) (i : ℕ) (d : VarId × VarId) → i < length new → born_of known (take (i + 1) new) ≡ born_of known (take i new) ++ option_to_list (born_one known (get_or new i d))
born_more known new i d l =
    ap (born_of known) (take_more new i d l) ∙ (filter_map-append (born_one known) (take i new) (get_or new i d ∷ [])
    ∙ ap (λ es. born_of known (take i new) ++ es) (one (born_one known (get_or new i d))))
  where
    one : (o : Option (VarId × Value)) → cons_option o [] ≡ option_to_list o
    one None = refl
    one (Some e) = refl
