-- What each kind of part lets be found, whatever stands in front of it and behind it.
use Rattle.std.specs.Prelude.{◌≡◌, ◌==◌, ◌<◌, ℕ, ℤ, zero, suc, pos, Bool, true, false, not, List, [], ◌∷◌, codes, drop, length, unsigned_abs, if◌then◌else◌, refl}
use Rattle.std.specs.List.{list_any}
use Rattle.std.proofs.Common.{◌∙◌, ap, arith, sym}
use Rattle.std.proofs.lemmas.Bool.{and_parts, eqb-true, false≢true}
use Rattle.std.proofs.lemmas.List.{append-nil}
use Rattle.dk_base.specs.declared.kinds.VarId.{VarId}
use Rattle.dk_forms.specs.declared.states.State.{State}
use Rattle.dk_print.specs.Parts.{Part, named, bound, values, null_or, remainder, modulus, lead, term, constant, step, bound_in, code_in, constant_term_in, factor_at, known_text, modulus_in, offset_in, remainder_in, text_by}
use Rattle.dk_expr.specs.Following.{all_followed, followed, with_factor, with_var}
use Rattle.dk_expr.specs.Naming.{var_at}
use Rattle.dk_expr.specs.Readable.{are_ended, is_ended, says_null}
use Rattle.dk_expr.specs.declared.found.Parsed.{Parsed}
use Rattle.dk_expr.proofs.Followed.{some_told}

-- ---- which parts tell it
abbrev pub names_role : ℕ → Part → Bool
names_role k (named role) = role == k
names_role k (lead role) = role == k
names_role k (term role) = role == k
names_role k p = false

abbrev pub tells_factor : ℕ → Part → Bool
tells_factor k (lead role) = role == k
tells_factor k (term role) = role == k
tells_factor k p = false

abbrev pub tells_bound : Part → Bool
tells_bound bound = true
tells_bound p = false

abbrev pub tells_remainder : Part → Bool
tells_remainder remainder = true
tells_remainder p = false

abbrev pub tells_modulus : Part → Bool
tells_modulus modulus = true
tells_modulus p = false

abbrev pub tells_constant : Part → Bool
tells_constant constant = true
tells_constant p = false

abbrev pub tells_offset : Part → Bool
tells_offset step = true
tells_offset p = false

abbrev pub tells_values : Part → Bool
tells_values values = true
tells_values p = false

abbrev pub tells_code : Part → Bool
tells_code (null_or bytes) = true
tells_code p = false

-- ---- variables and factors by role
abbrev pub var_of : ℕ → Parsed → VarId
var_of k f = if k == 0 then f.first else if k == 1 then f.second else f.third

abbrev pub factor_of : ℕ → Parsed → ℤ
factor_of k f = if k == 0 then f.first_factor else if k == 1 then f.second_factor else f.third_factor

other_var : (k role : ℕ) (v : VarId) (f : Parsed) → k < 3 → (role == k) ≡ false → var_of k (with_var role v f) ≡ var_of k f
other_var zero role v f few e = ap (λ b. if b then v else f.first) e
other_var (suc zero) role v f few e = ap (λ b. if b then v else f.second) e
other_var (suc (suc zero)) role v f few e = ap (λ b. if b then v else f.third) e
other_var (suc (suc (suc k))) role v f few e = absurd (omega arith)

own_var : (k role : ℕ) (v : VarId) (f : Parsed) → k < 3 → (role == k) ≡ true → var_of k (with_var role v f) ≡ v
own_var zero role v f few e = ap (λ b. if b then v else f.first) e
own_var (suc zero) role v f few e = ap (λ b. if b then v else f.second) e
own_var (suc (suc zero)) role v f few e = ap (λ b. if b then v else f.third) e
own_var (suc (suc (suc k))) role v f few e = absurd (omega arith)

other_factor : (k role : ℕ) (n : ℤ) (f : Parsed) → k < 3 → (role == k) ≡ false → factor_of k (with_factor role n f) ≡ factor_of k f
other_factor zero role n f few e = ap (λ b. if b then n else f.first_factor) e
other_factor (suc zero) role n f few e = ap (λ b. if b then n else f.second_factor) e
other_factor (suc (suc zero)) role n f few e = ap (λ b. if b then n else f.third_factor) e
other_factor (suc (suc (suc k))) role n f few e = absurd (omega arith)

own_factor : (k role : ℕ) (n : ℤ) (f : Parsed) → k < 3 → (role == k) ≡ true → factor_of k (with_factor role n f) ≡ n
own_factor zero role n f few e = ap (λ b. if b then n else f.first_factor) e
own_factor (suc zero) role n f few e = ap (λ b. if b then n else f.second_factor) e
own_factor (suc (suc zero)) role n f few e = ap (λ b. if b then n else f.third_factor) e
own_factor (suc (suc (suc k))) role n f few e = absurd (omega arith)

module _ (text : List ℕ) (names : List (List ℕ)) (vars : List VarId) (s : State) (ps : List Part) (f : Parsed)
    (ended : are_ended (length vars) ps ≡ true) (is : drop f.at text ≡ text_by ps names s) where
  -- behind all parts
  abbrev last : Parsed
  last = all_followed names vars s ps f

  module _ (k : ℕ) (few : k < 3) where
    keeps_var : (p : Part) (g : Parsed) → names_role k p ≡ false → var_of k g ≡ var_at vars k → var_of k (followed names vars s p g) ≡ var_at vars k
    keeps_var (named role) g e h = other_var k role (var_at vars role) g few e ∙ h
    keeps_var (lead role) g e h = other_var k role (var_at vars role) g few e ∙ h
    keeps_var (term role) g e h = other_var k role (var_at vars role) g few e ∙ h
    keeps_var p g e h = h

    does_var : (p : Part) (qs : List Part) (g : Parsed) → names_role k p ≡ true → is_ended (length vars) p qs ≡ true → drop g.at text ≡ text_by (p ∷ qs) names s → var_of k (followed names vars s p g) ≡ var_at vars k
    does_var (named role) qs g e h i = own_var k role (var_at vars role) g few e ∙ ap (var_at vars) (eqb-true role k e)
    does_var (lead role) qs g e h i = own_var k role (var_at vars role) g few e ∙ ap (var_at vars) (eqb-true role k e)
    does_var (term role) qs g e h i = own_var k role (var_at vars role) g few e ∙ ap (var_at vars) (eqb-true role k e)
    does_var p qs g e h i = absurd (false≢true e)

    pub var_found : list_any (names_role k) ps ≡ true → var_of k last ≡ var_at vars k
    var_found any = some_told text names vars s (λ g. var_of k g ≡ var_at vars k) (names_role k) keeps_var does_var ps f ended is any

    -- the factor of the first term is above 0
    module _ (above : pos (unsigned_abs (factor_at s 0)) ≡ factor_at s 0) where
      keeps_factor : (p : Part) (g : Parsed) → tells_factor k p ≡ false → factor_of k g ≡ factor_at s k → factor_of k (followed names vars s p g) ≡ factor_at s k
      keeps_factor (lead role) g e h = other_factor k role (pos (unsigned_abs (factor_at s role))) g few e ∙ h
      keeps_factor (term role) g e h = other_factor k role (factor_at s role) g few e ∙ h
      keeps_factor p g e h = h

      does_factor : (p : Part) (qs : List Part) (g : Parsed) → tells_factor k p ≡ true → is_ended (length vars) p qs ≡ true → drop g.at text ≡ text_by (p ∷ qs) names s → factor_of k (followed names vars s p g) ≡ factor_at s k
      does_factor (lead role) qs g e h i =
          let first : role ≡ 0 = eqb-true role 0 (and_parts (role == 0) _ h).0 in
          own_factor k role (pos (unsigned_abs (factor_at s role))) g few e
          ∙ ap (λ r. pos (unsigned_abs (factor_at s r))) first
          ∙ above
          ∙ ap (factor_at s) (sym first ∙ eqb-true role k e)
      does_factor (term role) qs g e h i = own_factor k role (factor_at s role) g few e ∙ ap (factor_at s) (eqb-true role k e)
      does_factor p qs g e h i = absurd (false≢true e)

      pub factor_found : list_any (tells_factor k) ps ≡ true → factor_of k last ≡ factor_at s k
      factor_found any = some_told text names vars s (λ g. factor_of k g ≡ factor_at s k) (tells_factor k) keeps_factor does_factor ps f ended is any

  -- ---- numbers
  keeps_bound : (p : Part) (g : Parsed) → tells_bound p ≡ false → g.bound ≡ bound_in s → (followed names vars s p g).bound ≡ bound_in s
  keeps_bound bound g e h = refl
  keeps_bound p g e h = h

  does_bound : (p : Part) (qs : List Part) (g : Parsed) → tells_bound p ≡ true → is_ended (length vars) p qs ≡ true → drop g.at text ≡ text_by (p ∷ qs) names s → (followed names vars s p g).bound ≡ bound_in s
  does_bound bound qs g e h i = refl
  does_bound p qs g e h i = absurd (false≢true e)

  pub bound_found : list_any tells_bound ps ≡ true → last.bound ≡ bound_in s
  bound_found any = some_told text names vars s (λ g. g.bound ≡ bound_in s) tells_bound keeps_bound does_bound ps f ended is any

  keeps_remainder : (p : Part) (g : Parsed) → tells_remainder p ≡ false → g.remainder ≡ pos (remainder_in s) → (followed names vars s p g).remainder ≡ pos (remainder_in s)
  keeps_remainder remainder g e h = refl
  keeps_remainder p g e h = h

  does_remainder : (p : Part) (qs : List Part) (g : Parsed) → tells_remainder p ≡ true → is_ended (length vars) p qs ≡ true → drop g.at text ≡ text_by (p ∷ qs) names s → (followed names vars s p g).remainder ≡ pos (remainder_in s)
  does_remainder remainder qs g e h i = refl
  does_remainder p qs g e h i = absurd (false≢true e)

  pub remainder_found : list_any tells_remainder ps ≡ true → last.remainder ≡ pos (remainder_in s)
  remainder_found any = some_told text names vars s (λ g. g.remainder ≡ pos (remainder_in s)) tells_remainder keeps_remainder does_remainder ps f ended is any

  keeps_modulus : (p : Part) (g : Parsed) → tells_modulus p ≡ false → g.modulus ≡ pos (modulus_in s) → (followed names vars s p g).modulus ≡ pos (modulus_in s)
  keeps_modulus modulus g e h = refl
  keeps_modulus p g e h = h

  does_modulus : (p : Part) (qs : List Part) (g : Parsed) → tells_modulus p ≡ true → is_ended (length vars) p qs ≡ true → drop g.at text ≡ text_by (p ∷ qs) names s → (followed names vars s p g).modulus ≡ pos (modulus_in s)
  does_modulus modulus qs g e h i = refl
  does_modulus p qs g e h i = absurd (false≢true e)

  pub modulus_found : list_any tells_modulus ps ≡ true → last.modulus ≡ pos (modulus_in s)
  modulus_found any = some_told text names vars s (λ g. g.modulus ≡ pos (modulus_in s)) tells_modulus keeps_modulus does_modulus ps f ended is any

  keeps_constant : (p : Part) (g : Parsed) → tells_constant p ≡ false → g.constant ≡ constant_term_in s → (followed names vars s p g).constant ≡ constant_term_in s
  keeps_constant constant g e h = refl
  keeps_constant p g e h = h

  does_constant : (p : Part) (qs : List Part) (g : Parsed) → tells_constant p ≡ true → is_ended (length vars) p qs ≡ true → drop g.at text ≡ text_by (p ∷ qs) names s → (followed names vars s p g).constant ≡ constant_term_in s
  does_constant constant qs g e h i = refl
  does_constant p qs g e h i = absurd (false≢true e)

  pub constant_found : list_any tells_constant ps ≡ true → last.constant ≡ constant_term_in s
  constant_found any = some_told text names vars s (λ g. g.constant ≡ constant_term_in s) tells_constant keeps_constant does_constant ps f ended is any

  keeps_offset : (p : Part) (g : Parsed) → tells_offset p ≡ false → g.offset ≡ offset_in s → (followed names vars s p g).offset ≡ offset_in s
  keeps_offset step g e h = refl
  keeps_offset p g e h = h

  does_offset : (p : Part) (qs : List Part) (g : Parsed) → tells_offset p ≡ true → is_ended (length vars) p qs ≡ true → drop g.at text ≡ text_by (p ∷ qs) names s → (followed names vars s p g).offset ≡ offset_in s
  does_offset step qs g e h i = refl
  does_offset p qs g e h i = absurd (false≢true e)

  pub offset_found : list_any tells_offset ps ≡ true → last.offset ≡ offset_in s
  offset_found any = some_told text names vars s (λ g. g.offset ≡ offset_in s) tells_offset keeps_offset does_offset ps f ended is any

  -- ---- values
  keeps_values : (p : Part) (g : Parsed) → tells_values p ≡ false → drop g.values text ≡ known_text s → drop (followed names vars s p g).values text ≡ known_text s
  keeps_values values g e h = absurd (false≢true (sym e))
  keeps_values p g e h = h

  does_values : (p : Part) (qs : List Part) (g : Parsed) → tells_values p ≡ true → is_ended (length vars) p qs ≡ true → drop g.at text ≡ text_by (p ∷ qs) names s → drop (followed names vars s p g).values text ≡ known_text s
  does_values values [] g e h i = i ∙ append-nil (known_text s)
  does_values values (q ∷ qs) g e h i = absurd (false≢true h)
  does_values p qs g e h i = absurd (false≢true e)

  pub values_found : list_any tells_values ps ≡ true → drop last.values text ≡ known_text s
  values_found any = some_told text names vars s (λ g. drop g.values text ≡ known_text s) tells_values keeps_values does_values ps f ended is any

  -- what is said of a hash code is not what is said of one that is null, unless it is null
  null_told : (bytes : List ℕ) (b : Bool) → not (says_null bytes) ≡ true → says_null (if b then codes " == null" else bytes) ≡ b
  null_told bytes true h = refl
  null_told bytes false h = by (says_null bytes) h
    where
      by : (c : Bool) → not c ≡ true → c ≡ false
      by true e = absurd (false≢true e)
      by false e = refl

  keeps_code : (p : Part) (g : Parsed) → tells_code p ≡ false → says_null (drop g.code text) ≡ (code_in s == 0) → says_null (drop (followed names vars s p g).code text) ≡ (code_in s == 0)
  keeps_code (null_or bytes) g e h = absurd (false≢true (sym e))
  keeps_code p g e h = h

  does_code : (p : Part) (qs : List Part) (g : Parsed) → tells_code p ≡ true → is_ended (length vars) p qs ≡ true → drop g.at text ≡ text_by (p ∷ qs) names s → says_null (drop (followed names vars s p g).code text) ≡ (code_in s == 0)
  does_code (null_or bytes) [] g e h i = ap says_null (i ∙ append-nil (if code_in s == 0 then codes " == null" else bytes)) ∙ null_told bytes (code_in s == 0) (and_parts (not (says_null bytes)) true h).0
  does_code (null_or bytes) (q ∷ qs) g e h i = absurd (false≢true (and_parts (not (says_null bytes)) false h).1)
  does_code p qs g e h i = absurd (false≢true e)

  pub code_found : list_any tells_code ps ≡ true → says_null (drop last.code text) ≡ (code_in s == 0)
  code_found any = some_told text names vars s (λ g. says_null (drop g.code text) ≡ (code_in s == 0)) tells_code keeps_code does_code ps f ended is any
