-- What is found of an instance in a text, part by part.
use Rattle.std.specs.Prelude.{◌+◌, ◌<◌, ◌==◌, ◌^◌, ℕ, ℤ, pos, neg_ℤ, Bool, Contains, List, [], ◌∷◌, length, unsigned_abs, if◌then◌else◌}
use Rattle.dk_base.specs.declared.kinds.VarId.{VarId}
use Rattle.dk_forms.specs.declared.states.State.{State}
use Rattle.dk_graph.specs.Notes.{noted_under}
use Rattle.dk_print.specs.Parts.{Part, word, named, bound, values, null_or, remainder, modulus, lead, term, constant, step, bound_in, constant_term_in, factor_at, modulus_in, name_at, offset_in, part_text, remainder_in}
use Rattle.dk_expr.specs.Naming.{Listed, no_var, var_at}
use Rattle.dk_expr.specs.declared.found.Parsed.{Parsed}

-- ---- changes of what is found
-- so many more bytes are read
abbrev pub past : ℕ → Parsed → Parsed
past len f = record f { at = f.at + len }

abbrev pub with_var : ℕ → VarId → Parsed → Parsed
with_var role v f =
    record f {
      first = if role == 0 then v else f.first;
      second = if role == 1 then v else f.second;
      third = if role == 2 then v else f.third;
    }

abbrev pub with_factor : ℕ → ℤ → Parsed → Parsed
with_factor role k f =
    record f {
      first_factor = if role == 0 then k else f.first_factor;
      second_factor = if role == 1 then k else f.second_factor;
      third_factor = if role == 2 then k else f.third_factor;
    }

-- a number of this size and sign
abbrev pub with_sign : Bool → ℤ → ℤ
with_sign is_negative k = if is_negative then neg_ℤ k else k

-- nothing is found yet
abbrev pub start : Parsed
start =
    record {
      at = 0;
      first = no_var;
      second = no_var;
      third = no_var;
      first_factor = pos 0;
      second_factor = pos 0;
      third_factor = pos 0;
      bound = pos 0;
      remainder = pos 0;
      modulus = pos 0;
      offset = pos 0;
      constant = pos 0;
      values = 0;
      code = 0;
    }

-- ---- an instance
-- what a part tells of the variables and their state, behind what is found
abbrev pub marked : List VarId → State → Part → Parsed → Parsed
marked vars s (word bytes) f = f
marked vars s (named role) f = with_var role (var_at vars role) f
marked vars s bound f = record f { bound = bound_in s }
marked vars s values f = record f { values = f.at }
marked vars s (null_or bytes) f = record f { code = f.at }
marked vars s remainder f = record f { remainder = pos (remainder_in s) }
marked vars s modulus f = record f { modulus = pos (modulus_in s) }
marked vars s (lead role) f = with_var role (var_at vars role) (with_factor role (pos (unsigned_abs (factor_at s role))) f)
marked vars s (term role) f = with_var role (var_at vars role) (with_factor role (factor_at s role) f)
marked vars s constant f = record f { constant = constant_term_in s }
marked vars s step f = record f { offset = offset_in s }

-- the part is read
abbrev pub followed : List (List ℕ) → List VarId → State → Part → Parsed → Parsed
followed names vars s p f = past (length (part_text names s p)) (marked vars s p f)

-- the parts are read, one after another
abbrev pub all_followed : List (List ℕ) → List VarId → State → List Part → Parsed → Parsed
all_followed names vars s [] f = f
all_followed names vars s (p ∷ parts) f = all_followed names vars s parts (followed names vars s p f)

-- the numbers of a state have at most 127 bits without their signs
pub record IsSmall (s : State) : Type 0 where
  pub bound : unsigned_abs (bound_in s) < 2 ^ 127
  pub remainder : remainder_in s < 2 ^ 127
  pub modulus : modulus_in s < 2 ^ 127
  pub factor : (role : ℕ) → unsigned_abs (factor_at s role) < 2 ^ 127
  pub constant : unsigned_abs (constant_term_in s) < 2 ^ 127
  pub offset : unsigned_abs (offset_in s) < 2 ^ 127

-- variables of these names, by role, and a state of theirs
pub record IsSought (listed : Listed) (names : List (List ℕ)) (vars : List VarId) (s : State) : Type 0 where
  pub listed_so : (role : ℕ) → role < length vars → Contains (noted_under listed (name_at names role)) (var_at vars role)
  pub small : IsSmall s
