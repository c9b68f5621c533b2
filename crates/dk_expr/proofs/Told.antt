-- What has a text is found in it.
use Rattle.std.specs.Prelude.{◌≡◌, ◌&&◌, ◌⊎◌, ◌<◌, ◌≤◌, ◌<ℤ◌, ℕ, ℤ, zero, suc, pos, negsuc, Bool, IsTrue, true, List, [], ◌∷◌, drop, length, unsigned_abs, refl}
use Rattle.std.specs.List.{list_all, list_any}
use Rattle.std.proofs.Common.{◌∙◌, ap, arith, inl, inr, sym}
use Rattle.std.proofs.lemmas.Bool.{and_parts, cases_lt, false≢true}
use Rattle.std.proofs.lemmas.Int.{ints}
use Rattle.dk_base.specs.declared.kinds.VarId.{VarId}
use Rattle.dk_base.specs.declared.kinds.VarInfo.{VarInfo}
use Rattle.dk_forms.specs.declared.states.State.{State}
use Rattle.dk_forms.specs.declared.states.State.TheVariants as state
use Rattle.dk_print.proofs.Alike.{numbers, passes, row}
use Rattle.dk_print.specs.Parts.{Part, text_by}
use Rattle.dk_print.specs.Texts.{var_names, parts_of_row, row_text, row_texts}
use Rattle.dk_template.proofs.WrittenTuples.{admitted_arity, admitted_few}
use Rattle.dk_template.specs.Admitted.{admits}
use Rattle.dk_template.specs.Fitting.{fits, is_nonzero}
use Rattle.dk_template.specs.Proper.{IsProper}
use Rattle.dk_template.specs.Templates.{IsRow, arity_of, form_of, rows}
use Rattle.dk_template.specs.declared.grammar.RowId.{RowId}
use Rattle.dk_template.specs.declared.templates.StateForm.{StateForm}
use Rattle.dk_template.specs.declared.templates.StateForm.TheVariants as form
use Rattle.dk_expr.specs.Finds.{IsFoundBy, first_vars}
use Rattle.dk_expr.specs.Following.{all_followed, start}
use Rattle.dk_expr.specs.Naming.{var_at}
use Rattle.dk_expr.specs.Readable.{are_ended}
use Rattle.dk_expr.specs.Reads.{HasText}
use Rattle.dk_expr.specs.Telling.{Tells}
use Rattle.dk_expr.specs.declared.found.Parsed.{Parsed}
use Rattle.dk_expr.proofs.Foundings.{bound_found, code_found, constant_found, factor_found, modulus_found, names_role, offset_found, remainder_found, tells_bound, tells_code, tells_constant, tells_factor, tells_modulus, tells_offset, tells_remainder, tells_values, values_found, var_found, var_of}

-- ---- the table
-- the parts tell a state of the form
abbrev pub tell : StateForm → List Part → Bool
tell form.Plain ps = true
tell form.Least ps = list_any tells_bound ps
tell form.Greatest ps = list_any tells_bound ps
tell form.Ints ps = list_any tells_values ps
tell form.Truth ps = list_any tells_values ps
tell form.Code ps = list_any tells_code ps
tell form.Texts ps = list_any tells_values ps
tell form.Modulus ps = list_any tells_modulus ps && list_any tells_remainder ps
tell form.Line ps = list_any (tells_factor 0) ps && (list_any (tells_factor 1) ps && list_any tells_constant ps)
tell form.Plane ps = list_any (tells_factor 0) ps && (list_any (tells_factor 1) ps && (list_any (tells_factor 2) ps && list_any tells_constant ps))
tell form.Offset ps = list_any tells_offset ps

-- and the variables of so many roles
abbrev pub name_all : ℕ → List Part → Bool
name_all zero ps = true
name_all (suc k) ps = list_any (names_role k) ps && name_all k ps

is_readable : ℕ → Bool
is_readable n = are_ended (arity_of (row n)) (parts_of_row (row n)) && (tell (form_of (row n)) (parts_of_row (row n)) && name_all (arity_of (row n)) (parts_of_row (row n)))

all_readable : list_all is_readable numbers ≡ true
unfolding is_readable numbers row_texts rows
all_readable = refl

pub record IsReadable (r : RowId) : Type 0 where
  pub ended : are_ended (arity_of r) (parts_of_row r) ≡ true
  pub told : tell (form_of r) (parts_of_row r) ≡ true
  pub named : name_all (arity_of r) (parts_of_row r) ≡ true

pub readable : (r : RowId) → IsRow r → IsReadable r
unfolding is_readable
readable r is =
    let all = and_parts (are_ended (arity_of r) (parts_of_row r)) _ (passes is_readable all_readable r.0 is.0 is.1) in
    let rest = and_parts (tell (form_of r) (parts_of_row r)) _ all.1 in
    record { ended = all.0; told = rest.0; named = rest.1 }

-- ---- the variables
some_two : (vars : List VarId) → length vars ≡ 2 → var_at vars 0 ∷ var_at vars 1 ∷ [] ≡ vars
some_two [] long = absurd (omega arith)
some_two (v ∷ []) long = absurd (omega arith)
some_two (v ∷ w ∷ []) long = refl
some_two (v ∷ w ∷ x ∷ vars) long = absurd (omega arith)

some_one : (vars : List VarId) → length vars ≡ 1 → var_at vars 0 ∷ [] ≡ vars
some_one [] long = absurd (omega arith)
some_one (v ∷ []) long = refl
some_one (v ∷ w ∷ vars) long = absurd (omega arith)

some_three : (vars : List VarId) → length vars ≡ 3 → var_at vars 0 ∷ var_at vars 1 ∷ var_at vars 2 ∷ [] ≡ vars
some_three [] long = absurd (omega arith)
some_three (v ∷ []) long = absurd (omega arith)
some_three (v ∷ w ∷ []) long = absurd (omega arith)
some_three (v ∷ w ∷ x ∷ []) long = refl
some_three (v ∷ w ∷ x ∷ y ∷ vars) long = absurd (omega arith)

none_of : (vars : List VarId) → length vars ≡ 0 → [] ≡ vars
none_of [] long = refl
none_of (v ∷ vars) long = absurd (omega arith)

-- as many as the roles, which are at most three, are the variables
vars_by : (n : ℕ) (vars : List VarId) (f : Parsed) → n ≤ 3 → length vars ≡ n → ((k : ℕ) → k < n → var_of k f ≡ var_at vars k) → first_vars n f ≡ vars
vars_by zero vars f few long each = none_of vars long
vars_by (suc zero) vars f few long each = ap (λ v. v ∷ []) (each 0 (omega arith)) ∙ some_one vars long
vars_by (suc (suc zero)) vars f few long each =
    ap (λ v. v ∷ f.second ∷ []) (each 0 (omega arith)) ∙ ap (λ v. var_at vars 0 ∷ v ∷ []) (each 1 (omega arith)) ∙ some_two vars long
vars_by (suc (suc (suc zero))) vars f few long each =
    ap (λ v. v ∷ f.second ∷ f.third ∷ []) (each 0 (omega arith))
    ∙ ap (λ v. var_at vars 0 ∷ v ∷ f.third ∷ []) (each 1 (omega arith))
    ∙ ap (λ v. var_at vars 0 ∷ var_at vars 1 ∷ v ∷ []) (each 2 (omega arith))
    ∙ some_three vars long
vars_by (suc (suc (suc (suc n)))) vars f few long each = absurd (omega arith)

role_named : (n : ℕ) (ps : List Part) → name_all n ps ≡ true → (k : ℕ) → k < n → list_any (names_role k) ps ≡ true
role_named zero ps all k lt = absurd (omega arith)
role_named (suc n) ps all k lt =
    let both = and_parts (list_any (names_role n) ps) (name_all n ps) all in
    elim (cases_lt k n) as (λ _. list_any (names_role k) ps ≡ true) [
      | inl below ↦ role_named n ps both.1 k below
      | inr above ↦ let same : k ≡ n = omega (arith, lt, above) in ap (λ j. list_any (names_role j) ps) same ∙ both.0
    ]

-- ---- the state
-- a number above 0 is its size
above_zero : (a : ℤ) → pos 0 <ℤ a → pos (unsigned_abs a) ≡ a
above_zero (pos n) lt = refl
above_zero (negsuc n) lt = absurd (omega (arith, ints))

pub line_above : (a b : ℤ) → (pos 0 <ℤ a) ⊎ ((a ≡ pos 0) × (pos 0 <ℤ b)) → is_nonzero a ≡ true → pos (unsigned_abs a) ≡ a
line_above a b (inl lt) h = above_zero a lt
line_above a b (inr z) h = absurd (false≢true (sym (ap is_nonzero z.0) ∙ h))

pub plane_above : (a b c : ℤ) → (pos 0 <ℤ a) ⊎ ((a ≡ pos 0) × ((pos 0 <ℤ b) ⊎ ((b ≡ pos 0) × (pos 0 <ℤ c)))) → is_nonzero a ≡ true → pos (unsigned_abs a) ≡ a
plane_above a b c (inl lt) h = above_zero a lt
plane_above a b c (inr z) h = absurd (false≢true (sym (ap is_nonzero z.0) ∙ h))

module _ (text : List ℕ) (names : List (List ℕ)) (vars : List VarId) (ps : List Part) (f : Parsed)
    (ended : are_ended (length vars) ps ≡ true) where
  state_found : (form : StateForm) (s : State) → drop f.at text ≡ text_by ps names s → tell form ps ≡ true → IsProper form s → IsTrue (fits s) → Tells text (all_followed names vars s ps f) s
  state_found form.Plain state.Holds is told p h = tt
  state_found form.Plain state.Empty is told p h = absurd (false≢true h)
  state_found form.Plain state.Broken is told p h = absurd (false≢true h)
  state_found form.Plain _ is told p h = absurd p
  state_found form.Least (state.Least k) is told p h = bound_found text names vars (state.Least k) ps f ended is told
  state_found form.Least state.Empty is told p h = absurd (false≢true h)
  state_found form.Least state.Broken is told p h = absurd (false≢true h)
  state_found form.Least _ is told p h = absurd p
  state_found form.Greatest (state.Greatest k) is told p h = bound_found text names vars (state.Greatest k) ps f ended is told
  state_found form.Greatest state.Empty is told p h = absurd (false≢true h)
  state_found form.Greatest state.Broken is told p h = absurd (false≢true h)
  state_found form.Greatest _ is told p h = absurd p
  state_found form.Ints (state.Ints ks) is told p h = values_found text names vars (state.Ints ks) ps f ended is told
  state_found form.Ints state.Empty is told p h = absurd (false≢true h)
  state_found form.Ints state.Broken is told p h = absurd (false≢true h)
  state_found form.Ints _ is told p h = absurd p
  state_found form.Truth (state.Truth b) is told p h = values_found text names vars (state.Truth b) ps f ended is told
  state_found form.Truth state.Empty is told p h = absurd (false≢true h)
  state_found form.Truth state.Broken is told p h = absurd (false≢true h)
  state_found form.Truth _ is told p h = absurd p
  state_found form.Code (state.Code c) is told p h = code_found text names vars (state.Code c) ps f ended is told
  state_found form.Code state.Empty is told p h = absurd (false≢true h)
  state_found form.Code state.Broken is told p h = absurd (false≢true h)
  state_found form.Code _ is told p h = absurd p
  state_found form.Texts (state.Texts ts) is told p h = values_found text names vars (state.Texts ts) ps f ended is told
  state_found form.Texts state.Empty is told p h = absurd (false≢true h)
  state_found form.Texts state.Broken is told p h = absurd (false≢true h)
  state_found form.Texts _ is told p h = absurd p.0
  state_found form.Modulus (state.Modulus m r) is told p h =
      let both = and_parts (list_any tells_modulus ps) (list_any tells_remainder ps) told in
      (modulus_found text names vars (state.Modulus m r) ps f ended is both.0, remainder_found text names vars (state.Modulus m r) ps f ended is both.1)
  state_found form.Modulus (state.One v) is told p h = absurd (false≢true h)
  state_found form.Modulus state.Empty is told p h = absurd (false≢true h)
  state_found form.Modulus state.Broken is told p h = absurd (false≢true h)
  state_found form.Modulus _ is told p h = absurd p
  state_found form.Line (state.Straight a b c) is told p h =
      let s = state.Straight a b c in
      let all = and_parts (list_any (tells_factor 0) ps) _ told in
      let rest = and_parts (list_any (tells_factor 1) ps) (list_any tells_constant ps) all.1 in
      let up = line_above a b p.normal.sign (and_parts _ _ h).0 in (
        factor_found text names vars s ps f ended is 0 (omega arith) up all.0,
        factor_found text names vars s ps f ended is 1 (omega arith) up rest.0,
        constant_found text names vars s ps f ended is rest.1,
      )
  state_found form.Line (state.Spot x y) is told p h = absurd (false≢true h)
  state_found form.Line state.Empty is told p h = absurd (false≢true h)
  state_found form.Line state.Broken is told p h = absurd (false≢true h)
  state_found form.Line _ is told p h = absurd p
  state_found form.Plane (state.Plane a b c d) is told p h =
      let s = state.Plane a b c d in
      let all = and_parts (list_any (tells_factor 0) ps) _ told in
      let rest = and_parts (list_any (tells_factor 1) ps) _ all.1 in
      let last = and_parts (list_any (tells_factor 2) ps) (list_any tells_constant ps) rest.1 in
      let up = plane_above a b c p.normal.sign (and_parts _ _ h).0 in (
        factor_found text names vars s ps f ended is 0 (omega arith) up all.0,
        factor_found text names vars s ps f ended is 1 (omega arith) up rest.0,
        factor_found text names vars s ps f ended is 2 (omega arith) up last.0,
        constant_found text names vars s ps f ended is last.1,
      )
  state_found form.Plane (state.Span x1 y1 z1 x2 y2 z2) is told p h = absurd (false≢true h)
  state_found form.Plane state.Empty is told p h = absurd (false≢true h)
  state_found form.Plane state.Broken is told p h = absurd (false≢true h)
  state_found form.Plane _ is told p h = absurd p
  state_found form.Offset (state.Offset k) is told p h = offset_found text names vars (state.Offset k) ps f ended is told
  state_found form.Offset state.Empty is told p h = absurd (false≢true h)
  state_found form.Offset state.Broken is told p h = absurd (false≢true h)
  state_found form.Offset _ is told p h = absurd p.0

-- ---- all of it
module _ (infos : List VarInfo) (text : List ℕ) (r : RowId) (vars : List VarId) (s : State) (has : HasText infos text r vars s) where
  pub is_row : IsRow r
  is_row = has.instance.of_grammar

  pub arity : length vars ≡ arity_of r
  arity = admitted_arity r infos vars (and_parts (admits r infos vars) _ has.instance.asked).0

  pub ended : are_ended (length vars) (parts_of_row r) ≡ true
  ended = ap (λ n. are_ended n (parts_of_row r)) arity ∙ (readable r is_row).ended

  pub printed : drop 0 text ≡ text_by (parts_of_row r) (var_names infos vars) s
  unfolding row_text
  printed = sym has.prints

  pub found : IsFoundBy text r vars s (all_followed (var_names infos vars) vars s (parts_of_row r) start)
  found =
      let low = admitted_few r infos vars (and_parts (admits r infos vars) _ has.instance.asked).0 in
      let few : arity_of r ≤ 3 = omega (arith, low, arity) in
      record {
        vars_so =
            vars_by (arity_of r) vars _ few arity
            (λ k lt. var_found text (var_names infos vars) vars s (parts_of_row r) start ended printed k (omega (arith, few, lt)) (role_named (arity_of r) (parts_of_row r) (readable r is_row).named k lt));
        tells = state_found text (var_names infos vars) vars (parts_of_row r) start ended (form_of r) s printed (readable r is_row).told has.proper has.holds;
      }
