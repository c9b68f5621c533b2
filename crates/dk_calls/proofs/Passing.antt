-- The entry's variables, one after another, and those of them that have an orig variable.
use Rattle.std.proofs.Common.{◌≡◌, ◌∙◌, ◌&&◌, ◌==◌, ◌-◌, ◌+◌, ◌++◌, ◌<◌, ◌≤◌, ℕ, suc, zero, Bool, true, false, List, [], ◌∷◌, bytes_eq, drop, filter_map, find, get_or, is_some, length, take, Option, Some, None, option_map, option_and_then, refl, sym, ap, subst, true≢false, if◌then◌else◌, arith, append_assoc, append-nil}
use Rattle.std.proofs.lemmas.Bool.{eq-eqb, eqb-true}
use Rattle.std.proofs.lemmas.List.{drop_more, length-append}
use Rattle.std.proofs.lemmas.Slice.Eq.{bytes_eq-Decides}
use Rattle.std.specs.List.{cons_option, zip}
use Rattle.dk_base.specs.declared.kinds.Form.TheVariants as form
use Rattle.dk_base.specs.declared.kinds.VarInfo.{VarInfo}
use Rattle.dk_base.specs.declared.values.Value.{Value}
use Rattle.dk_points.specs.Vars.{number_of_kind, orig_name, orig_of, orig_var, orig_vars, same_kind}
use Rattle.dk_calls.specs.Origs.{IsPassed, inner_name, is_next, orig_values}

-- the plain name of an orig name
take_front : (xs : List ℕ) (y n : ℕ) → n ≡ length xs → take n (xs ++ y ∷ []) ≡ xs
take_front [] y zero e = refl
take_front [] y (suc n) e = absurd (omega arith)
take_front (x ∷ xs) y zero e = absurd (omega arith)
take_front (x ∷ xs) y (suc n) e = ap (λ (zs : List ℕ). x ∷ zs) (take_front xs y n (omega arith))

drop_past : {X : Type 0} (xs : List X) (i : ℕ) → length xs ≤ i → drop i xs ≡ []
drop_past [] zero past = refl
drop_past [] (suc i) past = refl
drop_past (x ∷ xs) zero past = absurd (omega arith)
drop_past (x ∷ xs) (suc i) past = drop_past xs i (omega arith)

plain_of_orig : (name : List ℕ) → inner_name (orig_name name) ≡ name
plain_of_orig name =
    let long : length (name ++ 41 ∷ []) ≡ length name + 1 = length-append name (41 ∷ []) in
    let own : length (orig_name name) - 6 ≡ length name = omega arith in
    take_front name 41 (length (orig_name name) - 6) own

-- whether a variable has an orig one depends on its name and its kind
has_orig : List VarInfo → List ℕ → ℕ → Bool
has_orig exit name kind = is_some (option_and_then (λ (w : VarInfo). if kind == number_of_kind w.kind then Some w else None) (find (λ w. bytes_eq name w.name) exit))

is_some_by_name : (exit : List VarInfo) (v : VarInfo) → is_some (orig_var exit v) ≡ has_orig exit v.name (number_of_kind v.kind)
unfolding has_orig
is_some_by_name exit v = by (find (λ w. bytes_eq v.name w.name) exit)
  where
    chosen : (b : Bool) (o w : VarInfo) → is_some (if b then Some o else None) ≡ is_some (if b then Some w else None)
    chosen true o w = refl
    chosen false o w = refl

    by : (found : Option VarInfo) → is_some (option_and_then (orig_of v) found)
        ≡ is_some (option_and_then (λ (w : VarInfo). if number_of_kind v.kind == number_of_kind w.kind then Some w else None) found)
    by None = refl
    by (Some w) = chosen (same_kind v.kind w.kind) (record { name = orig_name v.name; kind = v.kind; form = form.Orig; compar = w.compar }) w

-- an orig variable has the name and the kind of its variable
orig_shape : (exit : List VarInfo) (v o : VarInfo) → orig_var exit v ≡ Some o → (inner_name o.name ≡ v.name) × (o.kind ≡ v.kind)
orig_shape exit v o is = by (find (λ w. bytes_eq v.name w.name) exit) is
  where
    chosen : (b : Bool) (w : VarInfo) → (if b then Some (record { name = orig_name v.name; kind = v.kind; form = form.Orig; compar = w.compar }) else None) ≡ Some o
        → (inner_name o.name ≡ v.name) × (o.kind ≡ v.kind)
    chosen true w e =
        let same : record { name = orig_name v.name; kind = v.kind; form = form.Orig; compar = w.compar } ≡ o = cc e in
        (ap (λ (u : VarInfo). inner_name u.name) (sym same) ∙ plain_of_orig v.name, ap (λ (u : VarInfo). u.kind) (sym same))
    chosen false w e = absurd (cc e)

    by : (found : Option VarInfo) → option_and_then (orig_of v) found ≡ Some o → (inner_name o.name ≡ v.name) × (o.kind ≡ v.kind)
    by None e = absurd (cc e)
    by (Some w) e = chosen (same_kind v.kind w.kind) w e

-- each orig variable is one of some variable
some_own : (exit vs : List VarInfo) (o : VarInfo) (os : List VarInfo) → filter_map (orig_var exit) vs ≡ o ∷ os → (v : VarInfo) × (orig_var exit v ≡ Some o)
some_own exit [] o os e = absurd (cc e)
some_own exit (v ∷ vs) o os e = by (orig_var exit v) refl e (some_own exit vs o os)
  where
    by : (found : Option VarInfo) → orig_var exit v ≡ found → cons_option found (filter_map (orig_var exit) vs) ≡ o ∷ os
        → (filter_map (orig_var exit) vs ≡ o ∷ os → (w : VarInfo) × (orig_var exit w ≡ Some o)) → (w : VarInfo) × (orig_var exit w ≡ Some o)
    by None is e rest = rest e
    by (Some u) is e rest = let same : u ≡ o = cc e in (v, is ∙ ap (λ (x : VarInfo). Some x) same)

both : (a b : Bool) → (a && b) ≡ true → (a ≡ true) × (b ≡ true)
both true true e = (refl, refl)
both true false e = absurd (cc e)
both false b e = absurd (cc e)

-- the next orig variable is that of this one exactly if it has one
next_is_own : (exit : List VarInfo) (v : VarInfo) (vs : List VarInfo) → is_next (filter_map (orig_var exit) (v ∷ vs)) v ≡ is_some (orig_var exit v)
next_is_own exit v vs = by (orig_var exit v) refl
  where
    matched : (o : VarInfo) → bytes_eq (inner_name o.name) v.name ≡ true → (number_of_kind v.kind == number_of_kind o.kind) ≡ true
        → (bytes_eq (inner_name o.name) v.name && same_kind v.kind o.kind) ≡ true
    matched o name kind = rw (name, kind) refl

    other : (os : List VarInfo) → filter_map (orig_var exit) vs ≡ os → orig_var exit v ≡ None → is_next os v ≡ false
    other [] is none = refl
    other (o ∷ os) is none = test (bytes_eq (inner_name o.name) v.name && same_kind v.kind o.kind) refl
      where
        test : (b : Bool) → (bytes_eq (inner_name o.name) v.name && same_kind v.kind o.kind) ≡ b → b ≡ false
        test false e = refl
        test true e =
            let parts = both (bytes_eq (inner_name o.name) v.name) (same_kind v.kind o.kind) e in
            let own = some_own exit vs o os is in
            let shape = orig_shape exit own.0 o own.1 in
            let names : own.0.name ≡ v.name = sym shape.0 ∙ (bytes_eq-Decides (inner_name o.name) v.name).0 parts.0 in
            let kinds : number_of_kind own.0.kind ≡ number_of_kind v.kind =
            ap number_of_kind (sym shape.1) ∙ sym (eqb-true (number_of_kind v.kind) (number_of_kind o.kind) parts.1) in
            let here : has_orig exit v.name (number_of_kind v.kind) ≡ false = sym (is_some_by_name exit v) ∙ ap is_some none in
            let there : has_orig exit own.0.name (number_of_kind own.0.kind) ≡ true = sym (is_some_by_name exit own.0) ∙ ap is_some own.1 in
            let moved : has_orig exit own.0.name (number_of_kind own.0.kind) ≡ has_orig exit v.name (number_of_kind v.kind) =
            ap (λ (n : List ℕ). has_orig exit n (number_of_kind own.0.kind)) names ∙ ap (λ (k : ℕ). has_orig exit v.name k) kinds in
            absurd (true≢false (sym there ∙ moved ∙ here))

    by : (found : Option VarInfo) → orig_var exit v ≡ found → is_next (cons_option found (filter_map (orig_var exit) vs)) v ≡ is_some found
    by None is = other (filter_map (orig_var exit) vs) refl is
    by (Some o) is = let shape = orig_shape exit v o is in
        matched o ((bytes_eq-Decides (inner_name o.name) v.name).1 shape.0) (eq-eqb (number_of_kind v.kind) (number_of_kind o.kind) (ap number_of_kind (sym shape.1)))

-- the orig variables and the values of a variable in front of others
left_of : (exit : List VarInfo) (v : VarInfo) (vs os : List VarInfo) (found : Option VarInfo) → orig_var exit v ≡ found → os ≡ orig_vars (v ∷ vs) exit → os ≡ cons_option found (orig_vars vs exit)
unfolding orig_vars
left_of exit v vs os found is e = e ∙ ap (λ (o : Option VarInfo). cons_option o (filter_map (orig_var exit) vs)) is

values_of : (exit : List VarInfo) (v : VarInfo) (vs : List VarInfo) (x : Value) (xs : List Value) (found : Option VarInfo) → orig_var exit v ≡ found
    → orig_values (v ∷ vs) exit (x ∷ xs) ≡ cons_option (option_map (λ _. x) found) (orig_values vs exit xs)
unfolding orig_values
values_of exit v vs x xs found is = ap (λ (o : Option VarInfo). cons_option (option_map (λ _. x) o) (filter_map (λ e. option_map (λ _. e.1) (orig_var exit e.0)) (zip vs xs))) is

next_of : (exit : List VarInfo) (v : VarInfo) (vs os : List VarInfo) → os ≡ orig_vars (v ∷ vs) exit → is_next os v ≡ is_some (orig_var exit v)
unfolding orig_vars
next_of exit v vs os e = ap (λ (l : List VarInfo). is_next l v) e ∙ next_is_own exit v vs

found_of : (o : Option VarInfo) → is_some o ≡ true → (u : VarInfo) × (o ≡ Some u)
found_of None e = absurd (cc e)
found_of (Some u) e = (u, refl)

none_of : (o : Option VarInfo) → is_some o ≡ false → o ≡ None
none_of None e = refl
none_of (Some u) e = absurd (cc e)

-- one variable more, which has an orig one
pub passed_own : (exit : List VarInfo) (v : VarInfo) (vs : List VarInfo) (x : Value) (xs : List Value) (os next : List VarInfo) (front more whole : List Value)
    → is_next os v ≡ true → next ≡ drop 1 os → more ≡ front ++ x ∷ []
    → IsPassed exit (v ∷ vs) (x ∷ xs) os front whole → IsPassed exit vs xs next more whole
passed_own exit v vs x xs os next front more whole test later one p =
    let own = found_of (orig_var exit v) (sym (next_of exit v vs os p.left) ∙ test) in
    record {
      left = later ∙ ap (drop 1) (left_of exit v vs os (Some own.0) own.1 p.left);
      values =
          ap (λ (l : List Value). l ++ orig_values vs exit xs) one
          ∙ append_assoc front (x ∷ []) (orig_values vs exit xs)
          ∙ sym (ap (λ (l : List Value). front ++ l) (values_of exit v vs x xs (Some own.0) own.1))
          ∙ p.values;
    }

-- one variable more, which has none
pub passed_by : (exit : List VarInfo) (v : VarInfo) (vs : List VarInfo) (x : Value) (xs : List Value) (os : List VarInfo) (front whole : List Value)
    → is_next os v ≡ false → IsPassed exit (v ∷ vs) (x ∷ xs) os front whole → IsPassed exit vs xs os front whole
passed_by exit v vs x xs os front whole test p =
    let none : orig_var exit v ≡ None = none_of (orig_var exit v) (sym (next_of exit v vs os p.left) ∙ test) in
    record {
      left = left_of exit v vs os None none p.left;
      values = sym (ap (λ (l : List Value). front ++ l) (values_of exit v vs x xs None none)) ∙ p.values;
    }

drop_suc : (os : List VarInfo) (n : ℕ) → drop (suc n) os ≡ drop 1 (drop n os)
drop_suc os zero = refl
drop_suc [] (suc n) = refl
drop_suc (o ∷ os) (suc n) = drop_suc os n

pub drop_one : (os : List VarInfo) (n : ℕ) → drop (n + 1) os ≡ drop 1 (drop n os)
drop_one os n = let more : n + 1 ≡ suc n = omega arith in ap (λ (k : ℕ). drop k os) more ∙ drop_suc os n

-- the variable and the value at a place
pub at_place : (exit entry : List VarInfo) (kept : List Value) (i : ℕ) (v : VarInfo) (x : Value) (os : List VarInfo) (front whole : List Value)
    → i < length entry → v ≡ get_or entry i v → i < length kept → x ≡ get_or kept i x
    → IsPassed exit (drop i entry) (drop i kept) os front whole → IsPassed exit (v ∷ drop (i + 1) entry) (x ∷ drop (i + 1) kept) os front whole
at_place exit entry kept i v x os front whole in_entry is_v in_kept is_x p =
    let vars : drop i entry ≡ v ∷ drop (i + 1) entry = drop_more entry i v in_entry ∙ ap (λ (u : VarInfo). u ∷ drop (i + 1) entry) (sym is_v) in
    let values : drop i kept ≡ x ∷ drop (i + 1) kept = drop_more kept i x in_kept ∙ ap (λ (u : Value). u ∷ drop (i + 1) kept) (sym is_x) in
    let P : List VarInfo → Type 0 = λ l. IsPassed exit l (x ∷ drop (i + 1) kept) os front whole in
    let Q : List Value → Type 0 = λ l. IsPassed exit (drop i entry) l os front whole in
    subst P vars (subst Q values p)

no_values : (exit entry : List VarInfo) → orig_values entry exit [] ≡ []
unfolding orig_values
no_values exit [] = refl
no_values exit (v ∷ vs) = refl

no_vars : (exit : List VarInfo) (kept : List Value) → orig_values [] exit kept ≡ []
unfolding orig_values
no_vars exit kept = refl

-- the values are whole where no variable is left, and where no value is
pub whole_by_vars : (exit entry : List VarInfo) (kept : List Value) (i : ℕ) (os : List VarInfo) (front whole : List Value) → length entry ≤ i
    → IsPassed exit (drop i entry) (drop i kept) os front whole → front ≡ whole
whole_by_vars exit entry kept i os front whole past p =
    sym (append-nil front)
    ∙ sym (ap (λ (l : List Value). front ++ l) (ap (λ (vs : List VarInfo). orig_values vs exit (drop i kept)) (drop_past entry i past) ∙ no_vars exit (drop i kept)))
    ∙ p.values

pub whole_by_values : (exit entry : List VarInfo) (kept : List Value) (i : ℕ) (os : List VarInfo) (front whole : List Value) → length kept ≤ i
    → IsPassed exit (drop i entry) (drop i kept) os front whole → front ≡ whole
whole_by_values exit entry kept i os front whole past p =
    sym (append-nil front)
    ∙ sym (ap (λ (l : List Value). front ++ l) (ap (λ (xs : List Value). orig_values (drop i entry) exit xs) (drop_past kept i past) ∙ no_values exit (drop i entry)))
    ∙ p.values
