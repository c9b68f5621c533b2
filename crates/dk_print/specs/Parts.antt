-- What the text of an instance is put together of.
use Prim.Native.String.{String}
use Rattle.std.specs.Prelude.{◌==◌, ℕ, ℤ, pos, int_lt, unsigned_abs, List, [], ◌∷◌, ◌++◌, codes, flat_map, slice_index_or, if◌then◌else◌}
use Rattle.std.specs.Fmt.{decimal, signed_decimal}
use Rattle.std.specs.List.{join_by}
use Rattle.std.specs.Ordering.{int_eq}
use Rattle.dk_base.specs.Values.Spelling.{bool_text}
use Rattle.dk_forms.specs.declared.states.State.{State}
use Rattle.dk_forms.specs.declared.states.State.TheVariants as state

-- A text is a row of parts: a word, the name of the variable at a role, or what a state has to tell.
pub data Part : Type 0 where
  word : (bytes : List ℕ) → Part  -- these bytes
  named : (role : ℕ) → Part  -- the name of the variable at this role
  bound : Part  -- the least or the greatest number
  values : Part  -- the values: ` == A`, or ` one of { A, B }`
  null_or : (bytes : List ℕ) → Part  -- ` == null` where the code is 0, and else these bytes
  remainder : Part  -- the remainder of a modulus
  modulus : Part  -- the modulus
  lead : (role : ℕ) → Part  -- the first term of a line or a plane: the variable at this role with its factor
  term : (role : ℕ) → Part  -- a further term, with its sign
  constant : Part  -- the constant of a line or a plane, with its sign; nothing where it is 0
  step : Part  -- an offset: ` + K`, or ` - K`

-- the word of a literal
abbrev pub says : String → Part
says literal = word (codes literal)

-- what is said of a code that isn't 0
abbrev pub unless_null : String → Part
unless_null literal = null_or (codes literal)

-- ---- values
-- values with these texts, in their order
abbrev pub values_text : {X : Type 0} → (X → List ℕ) → List X → List ℕ
values_text text [] = []
values_text text (x ∷ []) = codes " == " ++ text x
values_text text xs = codes " one of { " ++ join_by text (codes ", ") xs ++ codes " }"

-- the values that a state knows
abbrev pub known_text : State → List ℕ
known_text (state.Ints ks) = values_text signed_decimal ks
known_text (state.Truth b) = values_text bool_text (b ∷ [])
known_text (state.Texts ts) = values_text (λ t. t) ts
known_text _ = []

abbrev pub bound_in : State → ℤ
bound_in (state.Least k) = k
bound_in (state.Greatest k) = k
bound_in _ = pos 0

abbrev pub code_in : State → ℕ
code_in (state.Code h) = h
code_in _ = 0

abbrev pub modulus_in : State → ℕ
modulus_in (state.Modulus m r) = m
modulus_in _ = 0

abbrev pub remainder_in : State → ℕ
remainder_in (state.Modulus m r) = r
remainder_in _ = 0

abbrev pub offset_in : State → ℤ
offset_in (state.Offset k) = k
offset_in _ = pos 0

-- ---- lines and planes
-- the factors of a line or a plane, by role, and its constant
abbrev pub factors_in : State → List ℤ
factors_in (state.Straight a b c) = a ∷ b ∷ []
factors_in (state.Plane a b c d) = a ∷ b ∷ c ∷ []
factors_in _ = []

abbrev pub factor_at : State → ℕ → ℤ
factor_at s role = slice_index_or (factors_in s) role (pos 0)

abbrev pub constant_term_in : State → ℤ
constant_term_in (state.Straight a b c) = c
constant_term_in (state.Plane a b c d) = d
constant_term_in _ = pos 0

-- ` + ` or ` - `, by a number's sign
abbrev pub sign_text : ℤ → List ℕ
sign_text k = if int_lt k (pos 0) then codes " - " else codes " + "

-- the sign of a number and its absolute value
abbrev pub step_text : ℤ → List ℕ
step_text k = sign_text k ++ decimal (unsigned_abs k)

-- a constant that is 0 is left out
abbrev pub constant_term_text : ℤ → List ℕ
constant_term_text k = if int_eq k (pos 0) then [] else step_text k

-- a variable's name, times a number, which is left out where it is 1
abbrev pub times_text : ℕ → List ℕ → List ℕ
times_text n name = if n == 1 then name else decimal n ++ codes " * " ++ name

-- a further term, with its sign; the factor of the first term is above 0, so it has none
abbrev pub term_text : ℤ → List ℕ → List ℕ
term_text k name = sign_text k ++ times_text (unsigned_abs k) name

-- ---- parts
abbrev pub name_at : List (List ℕ) → ℕ → List ℕ
name_at names role = slice_index_or names role []

-- what a part says of variables of these names, by role, and of their state
abbrev pub part_text : List (List ℕ) → State → Part → List ℕ
part_text names s (word bytes) = bytes
part_text names s (named role) = name_at names role
part_text names s bound = signed_decimal (bound_in s)
part_text names s values = known_text s
part_text names s (null_or bytes) = if code_in s == 0 then codes " == null" else bytes
part_text names s remainder = decimal (remainder_in s)
part_text names s modulus = decimal (modulus_in s)
part_text names s (lead role) = times_text (unsigned_abs (factor_at s role)) (name_at names role)
part_text names s (term role) = term_text (factor_at s role) (name_at names role)
part_text names s constant = constant_term_text (constant_term_in s)
part_text names s step = step_text (offset_in s)

abbrev pub text_by : List Part → List (List ℕ) → State → List ℕ
text_by parts names s = flat_map (part_text names s) parts
