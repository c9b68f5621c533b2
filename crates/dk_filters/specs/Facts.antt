-- The facts of an instance that holds: what there is to say against it. Each looks at no other.
use Rattle.std.specs.Prelude.{◌&&◌, ◌||◌, ◌==◌, ℕ, nat_lt, pos, negsuc, Bool, true, false, not, List, [], ◌∷◌, filter, find, flat_map, length, map, slice_index_or, Option, Some, None, unwrap_or, if◌then◌else◌}
use Rattle.std.specs.List.{list_all, list_any}
use Rattle.std.specs.Option.{option_map_or}
use Rattle.dk_base.specs.Comparability.{comparable}
use Rattle.dk_base.specs.declared.kinds.Compar.{Compar}
use Rattle.dk_base.specs.declared.kinds.Form.{Form}
use Rattle.dk_base.specs.declared.kinds.Form.TheVariants as form
use Rattle.dk_base.specs.declared.kinds.Kind.{Kind}
use Rattle.dk_base.specs.declared.kinds.Kind.TheVariants as kind
use Rattle.dk_base.specs.declared.kinds.VarId.{VarId}
use Rattle.dk_base.specs.declared.kinds.VarInfo.{VarInfo}
use Rattle.dk_forms.specs.declared.states.State.{State}
use Rattle.dk_forms.specs.declared.states.State.TheVariants as state
use Rattle.dk_instances.specs.Instances.{all_vars, are_distinct}
use Rattle.dk_points.specs.Sameness.{same_compar}
use Rattle.dk_suppress.specs.Rules.{is_suppressed}
use Rattle.dk_template.specs.Fitting.{fits}
use Rattle.dk_template.specs.Numbers as number
use Rattle.dk_template.specs.Premises.{premise_fits}
use Rattle.dk_template.specs.declared.answers.Premise.{Premise}
use Rattle.dk_template.specs.declared.answers.Premise.TheVariants.{Holds}
use Rattle.dk_template.specs.declared.grammar.RowId.{RowId}
use Rattle.dk_filters.specs.Answers.{Answers, Parent}
use Rattle.dk_filters.specs.Sameness.{same_state}
use Rattle.dk_filters.specs.declared.facts.Facts.{Facts}

-- a row by its number
abbrev pub row_of_number : ℕ → RowId
row_of_number n = record { 0 = n }

-- the row is one of these
abbrev pub is_one_of : List ℕ → RowId → Bool
is_one_of numbers r = list_any (λ n. r.0 == n) numbers

-- what is said of a variable that is there
abbrev pub no_info : VarInfo
no_info = record { name = []; kind = kind.Bool; form = form.Declared; compar = record { elem = pos 0; index = pos 0 } }

abbrev pub info_at : List VarInfo → VarId → VarInfo
info_at infos v = slice_index_or infos v.0 no_info

-- ---- few: its count is below the least number
abbrev pub has_few_samples : ℕ → Answers → List VarId → Bool
has_few_samples least here vars = nat_lt (here.counted vars) least

-- ---- incomparable: two of its variables aren't comparable, or one of them is taken by an index that doesn't belong to its sequence

-- the comparability of a variable, and that of a sequence's indices
abbrev pub compar_of_var : List VarInfo → VarId → Compar
compar_of_var infos v = (info_at infos v).compar

abbrev pub index_compar_of_var : List VarInfo → VarId → Compar
index_compar_of_var infos s = record { elem = (compar_of_var infos s).index; index = negsuc 0 }

abbrev pub are_comparable : List VarInfo → List VarId → Bool
are_comparable infos [] = true
are_comparable infos (v ∷ vars) =
    list_all (λ w. comparable (compar_of_var infos v) (compar_of_var infos w)) vars && are_comparable infos vars

-- the sequence and the index of an element or a slice that is taken by an index
abbrev pub sequence_and_index : Form → Option (VarId × VarId)
sequence_and_index (form.At s i) = Some (s, i)
sequence_and_index (form.Upto s i) = Some (s, i)
sequence_and_index (form.Before s i) = Some (s, i)
sequence_and_index (form.Since s i) = Some (s, i)
sequence_and_index (form.After s i) = Some (s, i)
sequence_and_index _ = None

-- the variable is taken by an index that isn't comparable with the indices of its sequence
abbrev pub has_foreign_index : List VarInfo → VarId → Bool
has_foreign_index infos v =
    option_map_or (λ b. not (comparable (compar_of_var infos b.1) (index_compar_of_var infos b.0)))
    (sequence_and_index (info_at infos v).form) false

abbrev pub is_incomparable : List VarInfo → List VarId → Bool
is_incomparable infos vars = not (are_comparable infos vars) || list_any (has_foreign_index infos) vars

-- ---- member: some variable isn't the first of those like it; an equality of the first with another of them is kept

-- two variables that agree and have the same comparability
abbrev pub are_alike : Answers → VarId → VarId → Bool
are_alike here v w = here.agreeing w v && same_compar (compar_of_var here.infos w) (compar_of_var here.infos v)

-- the first variable that is like it
abbrev pub first_like : Answers → VarId → VarId
first_like here v = unwrap_or (find (are_alike here v) (all_vars here.infos)) v

-- the rows that say x == y or s == t
abbrev pub equalities : List ℕ
equalities =
    number.eq_int ∷ number.eq_bool ∷ number.eq_hash ∷ number.eq_str ∷ number.eq_int_seq
    ∷ number.eq_bool_seq ∷ number.eq_hash_seq ∷ number.eq_str_seq ∷ []

abbrev pub is_equality : RowId → Bool
is_equality r = is_one_of equalities r

-- an equality of the first variable with one that is like it
abbrev pub tells_member_by : (VarId → VarId) → RowId → List VarId → Bool
tells_member_by first r (v ∷ w ∷ []) = is_equality r && (first w).0 == v.0
tells_member_by first r _ = false

abbrev pub is_further_member_by : (VarId → VarId) → RowId → List VarId → Bool
is_further_member_by first r vars = not (tells_member_by first r vars) && list_any (λ v. not ((first v).0 == v.0)) vars

abbrev pub tells_member : Answers → RowId → List VarId → Bool
tells_member here r vars = tells_member_by (first_like here) r vars

abbrev pub is_further_member : Answers → RowId → List VarId → Bool
is_further_member here r vars = is_further_member_by (first_like here) r vars

-- ---- implied: a rule suppresses it, or a row that says more fits over the same variables

-- The row that says more than this one over the same variables: the few values say more than their bounds, their modulus, and that
-- they aren't 0 or null; x == y says more than a line.
abbrev pub sharper_than : RowId → Option RowId
sharper_than r =
    if is_one_of (number.lower_bound ∷ number.upper_bound ∷ number.non_zero ∷ number.modulus ∷ []) r
    then Some (row_of_number number.one_of_int)
    else if is_one_of (number.non_null_hash ∷ []) r then Some (row_of_number number.one_of_hash)
    else if is_one_of (number.non_null_str ∷ []) r then Some (row_of_number number.one_of_str)
    else if is_one_of (number.linear ∷ []) r then Some (row_of_number number.eq_int)
    else if is_one_of (number.elt_lower ∷ number.elt_upper ∷ number.elt_non_zero ∷ []) r then Some (row_of_number number.elt_one_of_int)
    else if is_one_of (number.elt_non_null_hash ∷ []) r then Some (row_of_number number.elt_one_of_hash)
    else if is_one_of (number.elt_non_null_str ∷ []) r then Some (row_of_number number.elt_one_of_str)
    else None

abbrev pub has_sharper : Answers → RowId → List VarId → Bool
has_sharper here r vars = option_map_or (λ s. fits (here.answered s vars)) (sharper_than r) false

-- that the variable at the first of these roles is the sum of those at the other two
abbrev pub sum_of : List ℕ → Premise
sum_of roles = Holds (row_of_number number.sum) roles

-- each of three roles in front of the other two
abbrev pub each_in_front : List (List ℕ)
each_in_front = (0 ∷ 1 ∷ 2 ∷ []) ∷ (1 ∷ 0 ∷ 2 ∷ []) ∷ (2 ∷ 0 ∷ 1 ∷ []) ∷ []

-- it is a plane, and one of its variables is the sum of the other two
abbrev pub is_sum_plane : Answers → RowId → List VarId → Bool
is_sum_plane here r vars = r.0 == number.linear_ternary && list_any (λ roles. premise_fits here.answered (sum_of roles) vars) each_in_front

abbrev pub is_implied : Answers → RowId → List VarId → Bool
is_implied here r vars = is_suppressed here.answered r vars || (has_sharper here r vars || is_sum_plane here r vars)

-- ---- constant: it has several variables, and one of them has one value; an equality that is kept under member is kept

-- the row that says which values a scalar has
abbrev pub one_of_row_for : Kind → Option RowId
one_of_row_for kind.Int = Some (row_of_number number.one_of_int)
one_of_row_for kind.Bool = Some (row_of_number number.one_of_bool)
one_of_row_for kind.Hash = Some (row_of_number number.one_of_hash)
one_of_row_for kind.Str = Some (row_of_number number.one_of_str)
one_of_row_for _ = None

abbrev pub is_one_value : State → Bool
is_one_value (state.Ints (v ∷ [])) = true
is_one_value (state.Texts (t ∷ [])) = true
is_one_value (state.Truth b) = true
is_one_value (state.Code h) = true
is_one_value _ = false

abbrev pub has_one_value : Answers → VarId → Bool
has_one_value here v = option_map_or (λ r. is_one_value (here.answered r (v ∷ []))) (one_of_row_for (info_at here.infos v).kind) false

abbrev pub is_constant_instance_by : (VarId → VarId) → (VarId → Bool) → RowId → List VarId → Bool
is_constant_instance_by first one_value r vars = nat_lt 1 (length vars) && (not (tells_member_by first r vars) && list_any one_value vars)

abbrev pub is_constant_instance : Answers → RowId → List VarId → Bool
is_constant_instance here r vars = is_constant_instance_by (first_like here) (has_one_value here) r vars

-- ---- parent: through an edge, variables of the parent with these partners have the same state there, and are comparable

-- all lists with one item of each of these
abbrev pub one_of_each : {A : Type 0} → List (List A) → List (List A)
one_of_each [] = [] ∷ []
one_of_each (xs ∷ rest) = flat_map (λ x. map (λ more. x ∷ more) (one_of_each rest)) xs

-- the parent's variable w has the partner v
abbrev pub is_partner : List (Option VarId) → VarId → VarId → Bool
is_partner partners v w = option_map_or (λ partner. partner.0 == v.0) (slice_index_or partners w.0 None) false

abbrev pub has_partner : Parent → VarId → VarId → Bool
has_partner parent v w = is_partner parent.partners v w

-- the parent's variables with this partner
abbrev pub having_partner : Parent → VarId → List VarId
having_partner parent v = filter (has_partner parent v) (all_vars parent.answers.infos)

-- the parent's variables whose partners are these, role by role, in each way
abbrev pub with_partners : Parent → List VarId → List (List VarId)
with_partners parent vars = one_of_each (map (having_partner parent) vars)

-- these variables of the parent are distinct, have the state there, and aren't incomparable
abbrev pub stands_there : Answers → RowId → State → List VarId → Bool
stands_there there r s vars = are_distinct vars && (same_state s (there.answered r vars) && not (is_incomparable there.infos vars))

abbrev pub is_at_one_parent : RowId → State → List VarId → Parent → Bool
is_at_one_parent r s vars parent = list_any (stands_there parent.answers r s) (with_partners parent vars)

abbrev pub is_at_parent : Answers → List Parent → RowId → List VarId → Bool
is_at_parent here parents r vars = list_any (is_at_one_parent r (here.answered r vars) vars) parents

-- ---- all six
unfoldable pub facts_of : ℕ → Answers → List Parent → RowId → List VarId → Facts
facts_of least here parents r vars = record {
  few = has_few_samples least here vars;
  incomparable = is_incomparable here.infos vars;
  member = is_further_member here r vars;
  implied = is_implied here r vars;
  constant = is_constant_instance here r vars;
  parent = is_at_parent here parents r vars;
}
